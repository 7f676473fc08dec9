use Rattle.std.proofs.Common.{ℕ, ◌<◌}
use Rattle.pie_graph.specs.Rows.{Calls}
use Rattle.pie_walk.proofs.earlier.needs_are_earlier.Given as goal

abbrev pub invariant-loop-caller : goal.invariant-loop-caller
invariant-loop-caller g l = (a b : ℕ) → a < l.caller → Calls (g.R.TaskRows.rows l.rows) a b → b < a
