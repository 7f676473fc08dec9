-- The parameters so far are in scope, and the arguments that are left belong to the others.
use Rattle.std.proofs.Common.{◌≡◌, [], drop}
use Rattle.pie_value.specs.Values.{trees_of}
use Rattle.pie_semantics.specs.Meaning.{bound}
use Rattle.pie_semantics_program.proofs.function.bound.Given as goal

abbrev pub invariant-loop-param : goal.invariant-loop-param
invariant-loop-param l = bound (drop l.param-index l.params) (trees_of l.rest) l.names ≡ bound l.params (trees_of l.args) []
