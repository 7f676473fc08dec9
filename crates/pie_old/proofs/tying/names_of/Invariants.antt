use Rattle.std.proofs.Common.{◌≡◌, ◌++◌, drop}
use Rattle.pie_store.specs.Canonical.{tasks_in}
use Rattle.pie_old.proofs.tying.names_of.Given as goal

abbrev pub invariant-loop-rec : goal.invariant-loop-rec
invariant-loop-rec l = l.names ++ tasks_in (drop l.rec-index l.rows) ≡ tasks_in l.rows
