use Rattle.std.proofs.Common.{◌+◌, List, ℕ, length}
use Rattle.pie_reach.specs.inner.Walks.{Ready, Walking, unmarked}
use Rattle.pie_reach.proofs.walk.Walk.run.Given as goal

abbrev pub invariant-loop : goal.invariant-loop
invariant-loop g l =
    Ready (g.W.Ways.size l.ways) l.self
    × ((starts : List ℕ) → Walking (g.W.Ways.size l.ways) (g.W.Ways.goes l.ways) starts l.fn.self
    → Walking (g.W.Ways.size l.ways) (g.W.Ways.goes l.ways) starts l.self)

abbrev pub decreases-loop : goal.decreases-loop
decreases-loop g l = unmarked l.self.marks + length l.self.work
