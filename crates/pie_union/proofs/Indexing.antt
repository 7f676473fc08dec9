-- An index follows its rows.
use Rattle.std.proofs.Common.{◌≡◌, ℕ, ◌<◌, List, [], ◌∷◌, ◌++◌, length, get_or, map, take, ◌+◌, refl, sym, ap, ◌∙◌, subst, arith}
use Rattle.std.proofs.lemmas.List.{get_or_default, length-map, length-take-le, map_more}
use Rattle.std.specs.List.Sorted.{IsStrictlyIncreasing}
use Rattle.pie_graph.specs.declared.edges.Edges.{Edges}
use Rattle.pie_graph.specs.Numbers.{numbers, AllBelow, Exactly}
use Rattle.pie_graph.specs.Rows.{Row, row_of, row_at, Calls, NeedsBelow}
use Rattle.pie_graph.proofs.RowLemmas.{needs_below_at, row_read}
use Rattle.pie_union.specs.declared.index.Index.{Index}
use Rattle.pie_union.specs.inner.Among.{among}
use Rattle.pie_union.specs.inner.Index.{Tells}
use Rattle.pie_union.proofs.Members.{among_true, true_among}

-- the tasks that a row requires have lists of callers, in whatever order they stand
pub below_same : (bound : ℕ) (xs ys : List ℕ) → ((k : ℕ) → among ys k ≡ among xs k) → AllBelow bound xs → AllBelow bound ys
below_same bound xs ys same below = λ i d l.
    let k = get_or ys i d in
    let c = among_true xs k (sym (same k) ∙ true_among ys k (i, l, get_or_default ys i k d l)) in
    subst (λ n. n < bound) c.2 (below c.0 k c.1)

pub callers_exactly : (index : Index) (count : ℕ) (rows : List Row) (b : ℕ) (found : List ℕ) → Tells index count rows → found ≡ get_or index.callers b []
    → IsStrictlyIncreasing found → Exactly (λ a. Calls rows a b) found
callers_exactly index count rows b found t e up = record {
  ascending = up;
  only = λ a h. among_true (row_at rows a).needs b (sym (t.callers a b) ∙ ap (λ (ns : List ℕ). among ns a) (sym e) ∙ true_among found a h);
  each = λ a h. among_true found a (ap (λ (ns : List ℕ). among ns a) e ∙ t.callers a b ∙ true_among (row_at rows a).needs b h);
}

-- a row of rows whose numbers are below their count
pub row_below : (edges : List Edges) (i : ℕ) (e : Edges) (count : ℕ) → NeedsBelow (map row_of edges) → i < length edges
    → e ≡ get_or edges i e → count ≡ length edges → AllBelow count (numbers e.needs.items)
row_below edges i e count below l is same =
    let rows = map row_of edges in
    let read : row_of e ≡ row_at rows i = row_read edges rows i e refl l is in
    let held : AllBelow (length rows) (row_of e).needs = subst (λ (row : Row). AllBelow (length rows) row.needs) (sym read) (needs_below_at rows i below) in
    subst (λ (bound : ℕ). AllBelow bound (row_of e).needs) (length-map edges row_of ∙ sym same) held

-- so many rows and the next
pub next_row : (edges : List Edges) (i : ℕ) (e : Edges) → i < length edges → e ≡ get_or edges i e
    → map row_of (take i edges) ++ row_of e ∷ [] ≡ map row_of (take (i + 1) edges)
next_row edges i e l is =
    ap (λ (x : Edges). map row_of (take i edges) ++ row_of x ∷ []) is ∙ sym (map_more row_of edges i e l)

pub rows_before : (edges : List Edges) (i : ℕ) → i < length edges → i ≡ length (map row_of (take i edges))
rows_before edges i l = omega (arith, length-map (take i edges) row_of, length-take-le i edges (omega arith))
