use Rattle.std.proofs.Common.{arith}
use Rattle.pie_bottomup.proofs.Twofold.{next_same}
use Rattle.pie_bottomup.proofs.placing.is_same_numbers.Goals as goal

pub loop-i-preserved : goal.loop-i-preserved
loop-i-preserved c =
    next_same c.args.one.now c.args.other.now c.loop-i.i c.loop-i-test.true (omega (arith, c.loop-i-test.true, c.if-one-other.false)) _ c.if-one-i.false
    c.loop-i.invariant
