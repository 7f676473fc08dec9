use Rattle.std.proofs.Common.{ℕ, ◌<◌}
use Rattle.std.specs.Prelude.{slice_index}
use Rattle.pie_graph.specs.Numbers.{numbers}
use Rattle.pie_order.specs.Places.{StandsBefore}
use Rattle.pie_order.proofs.agreeing.all_before.Given as goal

abbrev pub invariant-loop-i : goal.invariant-loop-i
invariant-loop-i l = (j : ℕ) → j < l.i → StandsBefore l.places (slice_index (numbers l.tasks) j) l.fn.caller.0
