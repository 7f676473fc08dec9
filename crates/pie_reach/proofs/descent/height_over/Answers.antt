use Rattle.pie_reach.proofs.WalkSteps.{number_below}
use Rattle.pie_reach.proofs.descent.height_over.Goals as goal

pub bounds-states-callee : goal.bounds-states-callee
bounds-states-callee c = number_below _ c.args.callees.now c.loop-callee.callee-index _ c.requires c.loop-callee-test.true
