use Rattle.std.proofs.Common.{◌≡◌, ◌||◌, ℕ, true}
use Rattle.std.specs.List.{list_any}
use Rattle.std.specs.Ordering.{is_eq}
use Rattle.pie_graph.specs.declared.uses.Use.{Use}
use Rattle.pie_graph.specs.Index.{edge_cmp, holds}
use Rattle.pie_graph.proofs.index.add_all.Given as goal

abbrev pub invariant-loop-edge : goal.invariant-loop-edge
invariant-loop-edge l =
    ((q : Use × ℕ) → (holds l.index q || list_any (λ k. is_eq (edge_cmp q k)) l.edge-iterator) ≡ (holds l.fn.index q || holds l.edges q))
    × ((q : Use × ℕ) → holds l.fn.index q ≡ true → holds l.index q ≡ true)
