use Rattle.pie_checks.proofs.HiddenFacts.{NoneHidden}
use Rattle.pie_checks.proofs.hidden.hidden.Given as goal

abbrev pub invariant-loop-entry : goal.invariant-loop-entry
invariant-loop-entry l = NoneHidden l.writes l.misses l.entry-index
