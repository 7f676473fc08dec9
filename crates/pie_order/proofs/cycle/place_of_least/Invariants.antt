use Rattle.std.proofs.Common.{ℕ, ◌<◌, ◌≤◌, length}
use Rattle.std.specs.Prelude.{slice_index}
use Rattle.pie_graph.specs.Numbers.{numbers}
use Rattle.pie_order.proofs.cycle.place_of_least.Given as goal

abbrev pub invariant-loop-i : goal.invariant-loop-i
invariant-loop-i l =
    (l.best < length l.tasks)
    × ((j : ℕ) → j < l.i → slice_index (numbers l.tasks) l.best ≤ slice_index (numbers l.tasks) j)
