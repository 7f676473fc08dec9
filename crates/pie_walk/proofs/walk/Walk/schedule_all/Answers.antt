use Rattle.pie_reach.proofs.WalkSteps.{number_below}
use Rattle.pie_walk.proofs.walk.Walk.schedule_all.Goals as goal

pub schedule_one-requires : goal.schedule_one-requires
schedule_one-requires c = number_below _ c.args.nos.now c.loop-no.no-index _ c.loop-no.invariant.0 c.loop-no-test.true
