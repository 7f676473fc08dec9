use Rattle.std.proofs.Common.{arith}
use Rattle.pie_code.proofs.SlotSteps.{slots_more, slots_all}
use Rattle.pie_code.proofs.slots.first_bad_slot.Goals as goal

pub loop-at-preserved : goal.loop-at-preserved
loop-at-preserved c = (
  c.loop-at.invariant.0,
  slots_more c.args.code.now c.loop-at.at c.loop-at.invariant.0 (c.names_fit.ensures.0 c.if-not-names_fit.false) c.loop-at.invariant.1,
)

pub returns : goal.returns
returns c = let h = c.len-at-end.ensures in slots_all c.args.code.now c.loop-at.at (omega (arith, h)) c.loop-at.invariant.0 c.loop-at.invariant.1
