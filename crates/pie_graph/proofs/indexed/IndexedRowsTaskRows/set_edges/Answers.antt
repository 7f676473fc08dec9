use Rattle.std.proofs.Common.{◌≡◌, ◌∙◌, ◌<◌, ℕ, Bool, List, length, get_or, set, map, length-set, ap, sym, subst, arith, refl}
use Rattle.std.proofs.lemmas.List.{length-map, map-set}
use Rattle.pie_graph.specs.declared.edges.Edges.{Edges}
use Rattle.pie_graph.specs.declared.uses.Use.{Use}
use Rattle.pie_graph.specs.Alone.{writes_alone, written}
use Rattle.pie_graph.specs.Numbers.{numbers, AllBelow}
use Rattle.pie_graph.specs.Rows.{Row, row_of, row_at, NeedsBelow}
use Rattle.pie_graph.specs.Index.{holds, is_of, IsIndex}
use Rattle.pie_graph.proofs.RowLemmas.{needs_below_set, row_read}
use Rattle.pie_graph.proofs.RowsWritten.{written_at}
use Rattle.pie_graph.proofs.EdgeSets.{index_set, held_old, fresh_old}
use Rattle.pie_graph.proofs.indexed.IndexedRowsTaskRows.set_edges.Goals as goal

-- the writes of this row are those of the row at its number
old_writes : (edges : List Edges) (n : ℕ) (row : Edges) (paths : List (List ℕ)) (edge : Use × ℕ) (held : Bool) → n < length edges → row ≡ get_or edges n row
    → paths ≡ row.writes.items → held ≡ is_of (writes_alone paths) n edge → held ≡ is_of (row_at (map written (map row_of edges)) n) n edge
old_writes edges n row paths edge held l is same h =
    let rows = map row_of edges in
    h ∙ ap (λ (ps : List (List ℕ)). is_of (writes_alone ps) n edge) same
    ∙ ap (λ (r : Row). is_of (written r) n edge) (row_read edges rows n row refl l is)
    ∙ ap (λ (r : Row). is_of r n edge) (sym (written_at rows n))

new_writes : (new : Edges) (n : ℕ) (paths : List (List ℕ)) (edge : Use × ℕ) (held : Bool) → paths ≡ new.writes.items → held ≡ is_of (writes_alone paths) n edge
    → held ≡ is_of (written (row_of new)) n edge
new_writes new n paths edge held same h = h ∙ ap (λ (ps : List (List ℕ)). is_of (writes_alone ps) n edge) same

within : (edges : List Edges) (rows : List Row) (n : ℕ) → map row_of edges ≡ rows → n < length rows → n < length edges
within edges rows n view l = omega (arith, l, sym (ap length view) ∙ length-map edges row_of)

pub replace_all-requires-clause-old_held : goal.replace_all-requires-clause-old_held
replace_all-requires-clause-old_held c = λ edge.
    let items = c.self.inside.rows.items in
    let n = c.args.no.0 in
    held_old (map written (map row_of items)) n edge (holds c.self.inside.index edge) (holds c.in_ok-old.old edge)
    (old_writes items n c.index-row.result.now c.as_slice.result.now edge (holds c.in_ok-old.old edge)
    (within items c.args.self.now n c.self.view_is c.requires.number) c.index-row.ensures c.as_slice.ensures.value (c.in_ok-old.ensures edge))
    (c.self.invariant.2 edge)

pub replace_all-requires-clause-new_old : goal.replace_all-requires-clause-new_old
replace_all-requires-clause-new_old c = λ edge.
    let items = c.self.inside.rows.items in
    let n = c.args.no.0 in
    fresh_old (map written (map row_of items)) n (written (row_of c.args.edges)) edge (holds c.self.inside.index edge) (holds c.in_ok-new.new edge)
    (holds c.in_ok-old.old edge)
    (new_writes c.args.edges n c.as_slice-2.result.now edge (holds c.in_ok-new.new edge) c.as_slice-2.ensures.value (c.in_ok-new.ensures edge))
    (old_writes items n c.index-row.result.now c.as_slice.result.now edge (holds c.in_ok-old.old edge)
    (within items c.args.self.now n c.self.view_is c.requires.number) c.index-row.ensures c.as_slice.ensures.value (c.in_ok-old.ensures edge))
    (c.self.invariant.2 edge)

pub invariant_of-self-2 : goal.invariant_of-self-2
invariant_of-self-2 c =
    let items = c.self.inside.rows.items in
    let n = c.args.no.0 in
    let rows = map row_of items in
    let new = row_of c.args.edges in
    let l : n < length rows = subst (λ (rs : List Row). n < length rs) (sym c.self.view_is) c.requires.number in (
      omega (arith, length-set items n c.args.edges, c.self.invariant.0),
      subst NeedsBelow (sym (map-set row_of items n c.args.edges))
          (needs_below_set rows n new c.self.invariant.1 (subst (λ (rs : List Row). AllBelow (length rs) (numbers c.args.edges.needs.items))
          (sym c.self.view_is) c.requires.needs_below)),
      subst (λ (rs : List Row). IsIndex c.replace_all.new.index (map written rs)) (sym (map-set row_of items n c.args.edges))
          (subst (λ (rs : List Row). IsIndex c.replace_all.new.index rs) (sym (map-set written rows n new))
          (λ edge. index_set (map written rows) n (written new) edge (holds c.replace_all.new.index edge) (holds c.self.inside.index edge)
          (holds c.in_ok-new.new edge) (holds c.in_ok-old.old edge) (omega (arith, l, length-map rows written))
          (c.in_ok-replace_all.ensures.replaced edge)
          (new_writes c.args.edges n c.as_slice-2.result.now edge (holds c.in_ok-new.new edge) c.as_slice-2.ensures.value (c.in_ok-new.ensures edge))
          (old_writes items n c.index-row.result.now c.as_slice.result.now edge (holds c.in_ok-old.old edge)
          (omega (arith, l, length-map items row_of)) c.index-row.ensures c.as_slice.ensures.value (c.in_ok-old.ensures edge))
          (c.self.invariant.2 edge))),
    )

pub returns-clause-set : goal.returns-clause-set
returns-clause-set c =
    map-set row_of c.self.inside.rows.items c.args.no.0 c.args.edges ∙ ap (λ (rows : List Row). set rows c.args.no.0 (row_of c.args.edges)) c.self.view_is
