use Rattle.std.proofs.Common.{◌≡◌, drop}
use Rattle.pie_store.specs.inner.Reading.{first_missing}
use Rattle.pie_store.proofs.reading.missing.Given as goal

abbrev pub invariant-loop-task : goal.invariant-loop-task
invariant-loop-task l = first_missing l.rows (drop l.task-index l.roots) ≡ first_missing l.rows l.roots
