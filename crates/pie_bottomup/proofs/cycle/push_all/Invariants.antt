use Rattle.std.proofs.Common.{◌≡◌, ◌++◌, drop}
use Rattle.pie_bottomup.proofs.cycle.push_all.Given as goal

abbrev pub invariant-loop-task : goal.invariant-loop-task
invariant-loop-task l = l.turned.items ++ drop l.task-index l.tasks ≡ l.fn.turned.items ++ l.tasks
