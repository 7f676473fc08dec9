use Rattle.std.proofs.Common.{ℕ, ◌<◌}
use Rattle.std.specs.Prelude.{slice_index}
use Rattle.pie_graph.specs.Numbers.{numbers, IsMarked}
use Rattle.pie_order.proofs.cycle.first_marked.Given as goal

abbrev pub invariant-loop-task : goal.invariant-loop-task
invariant-loop-task l = (j : ℕ) → j < l.task-index → IsMarked l.marks (slice_index (numbers l.tasks) j) → ⊥
