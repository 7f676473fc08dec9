use Rattle.pie_checks.proofs.Gathering.{write_turn}
use Rattle.pie_checks.proofs.listing.unsorted_writes.Goals as goal

pub loop-no-preserved : goal.loop-no-preserved
loop-no-preserved c =
    write_turn c.args.records.now c.args.live.now c.loop-no.no-index _ c.loop-no.found.items c.add_writes.new.found.items _ c.loop-no-test.true
    c.in_ok-add_writes.ensures c.loop-no.invariant
