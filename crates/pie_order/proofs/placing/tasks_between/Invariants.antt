-- The numbers so far.
use Rattle.pie_graph.specs.Numbers.{numbers}
use Rattle.pie_order.specs.Runs.{IsSpan}
use Rattle.pie_order.proofs.placing.tasks_between.Given as goal

abbrev pub invariant-loop-n : goal.invariant-loop-n
invariant-loop-n l = IsSpan l.from l.n (numbers l.tasks.items)
