use Rattle.std.proofs.Common.{◌-◌, arith}
use Rattle.pie_view.proofs.Entering.{number_here}
use Rattle.pie_view.proofs.entered.EnteredRows.is_near.Goals as goal

pub returns-then-spans : goal.returns-then-spans
returns-then-spans c = λ _. (
  _,
  number_here c.args.required.now (c.loop-left.left - 1) (record { 0 = 0 }) (omega (arith, c.loop-left.invariant, c.loop-left-test.true)),
  c.spans.ensures c.if-spans.true,
)
