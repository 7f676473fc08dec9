use Rattle.std.proofs.Common.{take}
use Rattle.pie_graph.specs.Numbers.{numbers}
use Rattle.pie_results.specs.inner.Ordered.{ArePlaces}
use Rattle.pie_results.proofs.places.places_of.Given as goal

-- the places of the live tasks so far
abbrev pub invariant-loop-no : goal.invariant-loop-no
invariant-loop-no l = ArePlaces l.tables.records l.heights (numbers l.live) (take l.no-index (numbers l.live)) l.places.entries
