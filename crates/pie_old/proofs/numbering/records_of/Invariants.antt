use Rattle.pie_old.proofs.Placing.{AreNumbered}
use Rattle.pie_old.proofs.numbering.records_of.Given as goal

abbrev pub invariant-loop-rec : goal.invariant-loop-rec
invariant-loop-rec l = AreNumbered l.fn.rows.items l.rec-iterator.rest.items l.records l.no
