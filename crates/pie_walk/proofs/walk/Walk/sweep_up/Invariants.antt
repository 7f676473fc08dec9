use Rattle.std.proofs.Common.{[]}
use Rattle.pie_graph.specs.Numbers.{numbers}
use Rattle.pie_walk.specs.inner.Sweeping.{Sweeping, swept_to}
use Rattle.pie_walk.proofs.SweepSteps.{total_of}
use Rattle.pie_walk.proofs.walk.Walk.sweep_up.Given as goal

abbrev pub invariant-loop-at : goal.invariant-loop-at
invariant-loop-at l = Sweeping l.fn.self l.fn.no.0 (swept_to l.self (numbers l.work.items)) 0 []

abbrev pub decreases-loop-at : goal.decreases-loop-at
decreases-loop-at l = total_of (swept_to l.self (numbers l.work.items))
