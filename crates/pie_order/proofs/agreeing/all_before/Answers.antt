use Rattle.std.proofs.Common.{arith, refl}
use Rattle.pie_order.proofs.AgreeSteps.{one_more_at, all_stand}
use Rattle.pie_order.proofs.agreeing.all_before.Goals as goal

pub loop-i-preserved : goal.loop-i-preserved
loop-i-preserved c = one_more_at c.args.tasks.now c.args.places.now c.args.caller.0 c.loop-i.i _ c.place_in.result c.place_in-place.result c.loop-i-test.true
    c.place_in.ensures c.place_in-place.ensures c.if-place-place_in.false c.loop-i.invariant

pub returns : goal.returns
returns c = (λ t. all_stand c.args.tasks.now c.args.places.now c.args.caller.0 c.loop-i.i (omega (arith, c.loop-i-test.false)) c.loop-i.invariant, λ all. refl)
