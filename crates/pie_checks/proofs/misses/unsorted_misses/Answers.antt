use Rattle.pie_checks.proofs.Gathering.{miss_turn}
use Rattle.pie_checks.proofs.misses.unsorted_misses.Goals as goal

pub loop-no-preserved : goal.loop-no-preserved
loop-no-preserved c =
    miss_turn c.args.records.now c.args.live.now c.loop-no.no-index _ c.loop-no.found.items c.add_misses.new.found.items _ c.loop-no-test.true
    c.in_ok-add_misses.ensures c.loop-no.invariant
