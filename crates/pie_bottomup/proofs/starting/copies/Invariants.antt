use Rattle.std.proofs.Common.{◌≡◌, ◌++◌, drop}
use Rattle.pie_bottomup.proofs.starting.copies.Given as goal

abbrev pub invariant-loop-task : goal.invariant-loop-task
invariant-loop-task l = l.copied.items ++ drop l.task-index l.tasks ≡ l.tasks
