use Rattle.std.proofs.Common.{◌≡◌, drop}
use Rattle.pie_types.specs.Whole.{bodies}
use Rattle.pie_types.proofs.checking.bodies.Given as goal

abbrev pub invariant-loop-function : goal.invariant-loop-function
invariant-loop-function l = bodies l.headings (drop l.function-index l.functions) ≡ bodies l.headings l.functions
