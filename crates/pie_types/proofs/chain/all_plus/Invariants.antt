use Rattle.std.proofs.Common.{◌≡◌, drop}
use Rattle.pie_parser.specs.TreeView.{steps_of}
use Rattle.pie_types.specs.Operators.{all_plus}
use Rattle.pie_types.proofs.chain.all_plus.Given as goal

abbrev pub invariant-loop-step : goal.invariant-loop-step
invariant-loop-step l = all_plus (steps_of (drop l.step-index l.steps)) ≡ all_plus (steps_of l.steps)
