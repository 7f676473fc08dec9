-- The rows after a change, and one of them.
use Rattle.std.proofs.Common.{◌≡◌, ℕ, ◌<◌, List, length, get_or, set, map, sym, ap, ◌∙◌, subst, inl, inr, arith, length-set}
use Rattle.std.specs.List.{All}
use Rattle.std.proofs.lemmas.List.{get_or-map, get_or_past}
use Rattle.std.proofs.lemmas.List.Elements.{All-set}
use Rattle.std.proofs.lemmas.Bool.{cases_lt}
use Rattle.pie_graph.specs.declared.edges.Edges.{Edges}
use Rattle.pie_graph.specs.Numbers.{AllBelow}
use Rattle.pie_graph.specs.Rows.{Row, row_of, row_at, no_edges, NeedsBelow}

pub needs_below_at : (rows : List Row) (n : ℕ) → NeedsBelow rows → AllBelow (length rows) (row_at rows n).needs
needs_below_at rows n below =
    elim (cases_lt n (length rows)) [
      | inl l ↦ below n no_edges l
      | inr past ↦ subst (λ (row : Row). AllBelow (length rows) row.needs) (sym (get_or_past rows n no_edges past)) (λ k d l. absurd (omega arith))
    ]

pub needs_below_set : (rows : List Row) (n : ℕ) (row : Row) → NeedsBelow rows → AllBelow (length rows) row.needs → NeedsBelow (set rows n row)
needs_below_set rows n row below fits =
    subst (λ (bound : ℕ). All (λ (r : Row). AllBelow bound r.needs) (set rows n row)) (sym (length-set rows n row))
    (All-set (λ (r : Row). AllBelow (length rows) r.needs) rows n row fits below)

-- a row that an index reads
pub row_read : (edges : List Edges) (rows : List Row) (n : ℕ) (e : Edges) → map row_of edges ≡ rows → n < length edges → e ≡ get_or edges n e
    → row_of e ≡ row_at rows n
row_read edges rows n e v l is =
    ap row_of is ∙ sym (get_or-map row_of edges n e no_edges l) ∙ ap (λ (rs : List Row). row_at rs n) v
