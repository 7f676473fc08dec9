use Rattle.std.proofs.Common.{◌∙◌, sym}
use Rattle.pie_code.proofs.Jumping.{late_more, never}
use Rattle.pie_code.proofs.jumps.is_jumped_to_late.Goals as goal

pub loop-from-preserved : goal.loop-from-preserved
loop-from-preserved c =
    late_more c.args.code.now c.args.at c.loop-from.from c.late_target.result c.late_target.ensures (sym c.eq.ensures ∙ c.if-eq.false) c.loop-from.invariant

pub returns : goal.returns
returns c = never c.args.code.now c.args.at c.loop-from.from c.loop-from-test.false c.loop-from.invariant
