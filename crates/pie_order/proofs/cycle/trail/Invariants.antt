use Rattle.std.proofs.Common.{◌≡◌, ◌<◌, length}
use Rattle.pie_graph.specs.Numbers.{numbers, IsMarked}
use Rattle.pie_order.specs.Cycles.{IsLeading}
use Rattle.pie_order.proofs.cycle.trail.Given as goal

abbrev pub invariant-loop : goal.invariant-loop
invariant-loop g l =
    (l.at.0 < length (g.R.TaskRows.rows l.rows))
    × IsMarked l.marks l.at.0
    × (length (numbers l.trail.items) ≡ l.counter)
    × IsLeading (g.R.TaskRows.rows l.rows) l.places l.fn.start.0 (numbers l.trail.items) l.at.0
