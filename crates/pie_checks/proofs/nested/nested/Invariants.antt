use Rattle.pie_checks.proofs.NestedFacts.{NoneBelow}
use Rattle.pie_checks.proofs.nested.nested.Given as goal

abbrev pub invariant-loop-entry : goal.invariant-loop-entry
invariant-loop-entry l = NoneBelow l.writes l.entry-index
