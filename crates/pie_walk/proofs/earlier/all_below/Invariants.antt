use Rattle.std.proofs.Common.{ℕ, ◌<◌}
use Rattle.std.specs.Prelude.{slice_index}
use Rattle.pie_graph.specs.Numbers.{numbers}
use Rattle.pie_walk.proofs.earlier.all_below.Given as goal

abbrev pub invariant-loop-i : goal.invariant-loop-i
invariant-loop-i l = (j : ℕ) → j < l.i → slice_index (numbers l.tasks) j < l.bound
