use Rattle.std.proofs.Common.{◌≡◌, [], drop}
use Rattle.pie_types.specs.Headings.{headings_from}
use Rattle.pie_types.proofs.declaring.headings_of.Given as goal

abbrev pub invariant-loop-function : goal.invariant-loop-function
invariant-loop-function l = headings_from l.headings (drop l.function-index l.functions) ≡ headings_from [] l.functions
