use Rattle.pie_walk.specs.Standing.{HoldsIn}
use Rattle.pie_walk.specs.Turns.{Walks}
use Rattle.pie_walk.specs.inner.Steps.{left}
use Rattle.pie_walk.proofs.walk.Walk.walk.Given as goal

abbrev pub invariant-loop-step : goal.invariant-loop-step
invariant-loop-step l = HoldsIn l.self × Walks l.fn.self l.self

abbrev pub decreases-loop-step : goal.decreases-loop-step
decreases-loop-step l = left l.self
