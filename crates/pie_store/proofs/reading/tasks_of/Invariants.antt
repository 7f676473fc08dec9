use Rattle.std.proofs.Common.{◌≡◌, ◌++◌, drop}
use Rattle.pie_store.specs.inner.Reading.{tasks_of}
use Rattle.pie_store.proofs.reading.tasks_of.Given as goal

abbrev pub invariant-loop-task : goal.invariant-loop-task
invariant-loop-task l = l.tasks.items ++ tasks_of (drop l.task-index l.roots) ≡ tasks_of l.roots
