-- Rows after a change, and what is kept of them.
use Rattle.std.proofs.Common.{◌≡◌, ℕ, ◌<◌, List, [], ◌∷◌, ◌++◌, length, get_or, set, map, refl, sym, ap, ◌∙◌, subst, inl, inr, arith, length-set}
use Rattle.std.specs.Prelude.{Result, Ok, Err, OnErr}
use Rattle.std.proofs.lemmas.Bool.{cases_lt}
use Rattle.std.proofs.lemmas.List.{map-set, set-get_or, length_push, map_push, get_or_append_left, get_or_push}
use Rattle.pie_graph.specs.declared.edges.Edges.{Edges}
use Rattle.pie_graph.specs.declared.edges.TaskNo.{TaskNo}
use Rattle.pie_graph.specs.Numbers.{numbers, AllBelow}
use Rattle.pie_graph.specs.Rows.{Row, row_of, row_at, no_edges}
use Rattle.pie_graph.proofs.RowLemmas.{needs_below_at, needs_below_set, row_read}
use Rattle.pie_union.specs.Requiring.{requiring}
use Rattle.pie_union.specs.declared.index.Index.{Index}
use Rattle.pie_union.specs.inner.Index.{IsIndex, AreKept}

-- a fact holds on an error where it always holds
pub on_err : {T E Q : Type 0} (r : Result T E) → Q → OnErr r Q
on_err (Ok x) q = tt
on_err (Err x) q = q

-- room is made, and then a task is pushed
pub numbers_pushed : (before reserved after : List TaskNo) (t : TaskNo) → after ≡ reserved ++ t ∷ [] → reserved ≡ before
    → numbers after ≡ numbers before ++ t.0 ∷ []
numbers_pushed before reserved after t p r =
    ap numbers (p ∙ ap (λ (ts : List TaskNo). ts ++ t ∷ []) r) ∙ map_push (λ (s : TaskNo). s.0) before t

-- edges with other required tasks
pub row_like : (e f : Edges) (ns : List ℕ) → numbers f.needs.items ≡ ns → f.reads.items ≡ e.reads.items → f.lists.items ≡ e.lists.items
    → f.writes.items ≡ e.writes.items → row_of f ≡ record (row_of e) { needs = ns }
row_like e f ns n r l w =
    ap (λ (x : List ℕ). let row : Row = record { needs = x; reads = f.reads.items; lists = f.lists.items; writes = f.writes.items } in row) n
    ∙ ap (λ (x : List (List ℕ)). let row : Row = record { needs = ns; reads = x; lists = f.lists.items; writes = f.writes.items } in row) r
    ∙ ap (λ (x : List (List ℕ)). let row : Row = record { needs = ns; reads = e.reads.items; lists = x; writes = f.writes.items } in row) l
    ∙ ap (λ (x : List (List ℕ)). let row : Row = record { needs = ns; reads = e.reads.items; lists = e.lists.items; writes = x } in row) w

module _ (edges : List Edges) (i : ℕ) (e f : Edges) (l : i < length edges) (is : e ≡ get_or edges i e) where
  -- edges that make the same row are written over those that stood there
  pub same_rows : row_of f ≡ row_of e → map row_of (set edges i f) ≡ map row_of edges
  same_rows h =
      let rows = map row_of edges in
      map-set row_of edges i f ∙ ap (set rows i) (h ∙ row_read edges rows i e refl l is) ∙ set-get_or rows i no_edges

  -- edges with one more required task are written over those that stood there
  pub pushed_rows : (k : ℕ) → row_of f ≡ requiring (row_of e) k
      → map row_of (set edges i f) ≡ set (map row_of edges) i (requiring (row_at (map row_of edges) i) k)
  pushed_rows k h =
      let rows = map row_of edges in
      map-set row_of edges i f ∙ ap (set rows i) (h ∙ ap (λ (row : Row). requiring row k) (row_read edges rows i e refl l is))

below_push : (bound : ℕ) (ns : List ℕ) (k : ℕ) → AllBelow bound ns → k < bound → AllBelow bound (ns ++ k ∷ [])
below_push bound ns k below l = λ j d lt.
    let long = length_push ns k in
    elim (cases_lt j (length ns)) [
      | inl in_front ↦ subst (λ n. n < bound) (sym (get_or_append_left ns (k ∷ []) d j in_front)) (below j d in_front)
      | inr at_end ↦ subst (λ n. n < bound) (sym (get_or_push ns k d j (omega arith))) l
    ]

module _ (index new : Index) (rows : List Row) (kept : AreKept index rows) where
  pub kept_set : (i : ℕ) (row : Row) → AllBelow (length rows) row.needs → IsIndex new (set rows i row) → AreKept new (set rows i row)
  kept_set i row below told = record {
    few = omega (arith, length-set rows i row, kept.few);
    needs_below = needs_below_set rows i row kept.needs_below below;
    told = told;
  }

  pub kept_pushed : (i k : ℕ) → k < length rows → IsIndex new (set rows i (requiring (row_at rows i) k))
      → AreKept new (set rows i (requiring (row_at rows i) k))
  kept_pushed i k l told =
      kept_set i (requiring (row_at rows i) k) (below_push (length rows) (row_at rows i).needs k (needs_below_at rows i kept.needs_below) l) told

  pub kept_same : IsIndex new rows → AreKept new rows
  kept_same told = record { few = kept.few; needs_below = kept.needs_below; told = told }

  pub kept_added : length rows < 50000 → IsIndex new (rows ++ no_edges ∷ []) → AreKept new (rows ++ no_edges ∷ [])
  kept_added l told =
      let long = length_push rows no_edges in
      record {
        few = omega arith;
        needs_below = λ j d lt. elim (cases_lt j (length rows)) [
          | inl in_front ↦
              let read = get_or_append_left rows (no_edges ∷ []) d j in_front in
              subst (λ (row : Row). AllBelow (length (rows ++ no_edges ∷ [])) row.needs) (sym read)
              (λ m n under. omega (arith, kept.needs_below j d in_front m n under))
          | inr at_end ↦
              let read = get_or_push rows no_edges d j (omega arith) in
              subst (λ (row : Row). AllBelow (length (rows ++ no_edges ∷ [])) row.needs) (sym read) (λ m n under. absurd (omega arith))
        ];
        told = told;
      }
