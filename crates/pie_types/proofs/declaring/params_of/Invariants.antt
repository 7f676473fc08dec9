use Rattle.std.proofs.Common.{◌≡◌, [], drop}
use Rattle.pie_types.specs.Headings.{params_from}
use Rattle.pie_types.proofs.declaring.params_of.Given as goal

abbrev pub invariant-loop-param : goal.invariant-loop-param
invariant-loop-param l = params_from l.done (drop l.param-index l.params) ≡ params_from [] l.params
