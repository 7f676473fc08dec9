use Rattle.std.proofs.Common.{◌≡◌, ◌||◌, ℕ, drop}
use Rattle.pie_graph.specs.declared.uses.Use.{Use}
use Rattle.pie_graph.specs.Index.{holds, is_of}
use Rattle.pie_graph.specs.Alone.{writes_alone}
use Rattle.pie_graph.proofs.index.writes_of.Given as goal

abbrev pub invariant-loop-path : goal.invariant-loop-path
invariant-loop-path l = (edge : Use × ℕ) → (holds l.index edge || is_of (writes_alone (drop l.path-index l.paths)) l.no edge) ≡
    is_of (writes_alone l.paths) l.no edge
