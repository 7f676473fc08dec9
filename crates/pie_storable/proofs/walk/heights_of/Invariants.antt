use Rattle.pie_store.specs.inner.Known.{set_has}
use Rattle.pie_storable.proofs.Walking.{Walked}
use Rattle.pie_storable.proofs.walk.heights_of.Given as goal

abbrev pub invariant-loop-row : goal.invariant-loop-row
invariant-loop-row l = Walked (set_has l.known) l.rows l.row-index l.heights
