use Rattle.pie_reach.proofs.WalkSteps.{number_below}
use Rattle.pie_order.proofs.side.Side.meet_all.Goals as goal

pub meet-requires : goal.meet-requires
meet-requires c = number_below _ c.args.nos.now c.loop-no.no-index _ c.loop-no.invariant.0 c.loop-no-test.true
