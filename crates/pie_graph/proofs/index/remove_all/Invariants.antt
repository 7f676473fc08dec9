use Rattle.std.proofs.Common.{◌≡◌, ◌&&◌, ℕ, not}
use Rattle.std.specs.List.{list_any}
use Rattle.std.specs.Ordering.{is_eq}
use Rattle.pie_graph.specs.declared.uses.Use.{Use}
use Rattle.pie_graph.specs.Index.{edge_cmp, holds}
use Rattle.pie_graph.proofs.index.remove_all.Given as goal

abbrev pub invariant-loop-edge : goal.invariant-loop-edge
invariant-loop-edge l = (q : Use × ℕ) → (holds l.index q && not (list_any (λ k. is_eq (edge_cmp q k)) l.edge-iterator && not (holds l.staying q))) ≡
    (holds l.fn.index q && not (holds l.edges q && not (holds l.staying q)))
