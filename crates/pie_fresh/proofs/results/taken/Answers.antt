-- proofs/results/taken/Answers.antt
use Rattle.pie_fresh.proofs.Taking.{one_taken}
use Rattle.pie_fresh.proofs.results.taken.Goals as goal

pub loop-no-preserved : goal.loop-no-preserved
loop-no-preserved c =
    one_taken c.loop-no.records c.move_to.new.self c.args.places.now c.loop-no.no-index c.loop-no-item.result c.loop-no.rows.items
    c.move_to.new.others.items _ c.loop-no-test.true c.loop-no-item.is c.loop-no.invariant.1 c.in_ok-move_to.ensures.takes
    c.in_ok-move_to.ensures.moved c.loop-no.invariant.0
