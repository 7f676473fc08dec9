use Rattle.pie_results.proofs.Taking.{one_taken}
use Rattle.pie_results.proofs.records.taken.Goals as goal

pub loop-no-preserved : goal.loop-no-preserved
loop-no-preserved c =
    one_taken c.loop-no.records c.move_to.new.self c.args.nos.now c.loop-no.no-index c.loop-no.rows.items c.move_to.new.others.items _
    c.loop-no-test.true c.loop-no.invariant.1 c.in_ok-move_to.ensures.takes c.in_ok-move_to.ensures.moved c.loop-no.invariant.0
