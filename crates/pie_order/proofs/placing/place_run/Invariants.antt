-- The first tasks have their new places.
use Rattle.pie_graph.specs.Numbers.{numbers}
use Rattle.pie_order.specs.Runs.{IsRunning}
use Rattle.pie_order.proofs.placing.place_run.Given as goal

abbrev pub invariant-loop-i : goal.invariant-loop-i
invariant-loop-i l = IsRunning (numbers l.tasks) l.first l.i l.fn.places.items l.places.items
