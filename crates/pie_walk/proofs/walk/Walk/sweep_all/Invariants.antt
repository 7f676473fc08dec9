use Rattle.pie_graph.specs.Numbers.{numbers}
use Rattle.pie_walk.specs.inner.Sweeping.{sweep_all, swept_to}
use Rattle.pie_walk.proofs.SweepSteps.{IsOn}
use Rattle.pie_walk.proofs.walk.Walk.sweep_all.Given as goal

abbrev pub invariant-loop-no : goal.invariant-loop-no
invariant-loop-no l =
    IsOn l.nos l.no-index (swept_to l.self (numbers l.work.items)) (sweep_all (numbers l.nos) (swept_to l.fn.self (numbers l.fn.work.items)))
