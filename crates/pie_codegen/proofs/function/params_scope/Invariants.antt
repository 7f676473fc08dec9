use Rattle.std.proofs.Common.{◌≡◌, [], drop}
use Rattle.pie_codegen.specs.Functions.{scope_onto}
use Rattle.pie_codegen.proofs.function.params_scope.Given as goal

abbrev pub invariant-loop-param : goal.invariant-loop-param
invariant-loop-param l = scope_onto l.slot (drop l.param-index l.params) l.names ≡ scope_onto 0 l.params []
