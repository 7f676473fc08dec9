-- Both searches go on.
use Rattle.std.proofs.Common.{ℕ, ◌-◌}
use Rattle.pie_order.specs.Sides.{Bounded, Searching}
use Rattle.pie_order.proofs.search.race.Given as goal

abbrev pub invariant-loop-other : goal.invariant-loop-other
invariant-loop-other g l = record {
  one : Bounded (g.V.Ways.size l.ways) l.one;
  other : Bounded (g.W.Ways.size l.other_ways) l.other;
  one_kept : (start : ℕ) → Searching (g.V.Ways.size l.ways) (g.V.Ways.goes l.ways) start l.fn.one
      → Searching (g.V.Ways.size l.ways) (g.V.Ways.goes l.ways) start l.one;
  other_kept : (start : ℕ) → Searching (g.W.Ways.size l.other_ways) (g.W.Ways.goes l.other_ways) start l.fn.other
      → Searching (g.W.Ways.size l.other_ways) (g.W.Ways.goes l.other_ways) start l.other;
}

abbrev pub decreases-loop-other : goal.decreases-loop-other
decreases-loop-other g l = g.V.Ways.size l.ways - l.one.next
