use Rattle.std.proofs.Common.{◌∙◌, ◌<◌, List, length, set, map, refl, sym, ap, subst, arith}
use Rattle.std.proofs.lemmas.List.{length-map, map-set}
use Rattle.pie_graph.specs.Numbers.{numbers, AllBelow}
use Rattle.pie_graph.specs.Rows.{Row, row_of}
use Rattle.pie_graph.proofs.RowLemmas.{row_read}
use Rattle.pie_union.specs.inner.Index.{AreKept}
use Rattle.pie_union.proofs.Growing.{kept_set, kept_same}
use Rattle.pie_union.proofs.Indexing.{row_below}
use Rattle.pie_union.proofs.rows.UnionRowsTaskRows.set_edges.Goals as goal

pub set-requires-clause-old_below : goal.set-requires-clause-old_below
set-requires-clause-old_below c =
    let items = c.self.inside.rows.items in
    let within : c.args.no.0 < length items = omega (arith, c.requires.number, ap length c.self.view_is, length-map items row_of) in
    row_below items c.args.no.0 c.index-row.result.now (length c.self.inside.index.callers) c.self.invariant.needs_below within c.index-row.ensures
    (c.self.invariant.told.lists ∙ length-map items row_of)

pub invariant_of-self : goal.invariant_of-self
invariant_of-self c =
    let items = c.self.inside.rows.items in
    let rows = map row_of items in
    let within : c.args.no.0 < length items = omega (arith, c.requires.number, ap length c.self.view_is, length-map items row_of) in
    kept_same c.self.inside.index c.set.new.self rows c.self.invariant
    (c.in_err-set.ensures.unchanged rows c.self.invariant.told (row_read items rows c.args.no.0 c.index-row.result.now refl within c.index-row.ensures))

pub invariant_of-self-2 : goal.invariant_of-self-2
invariant_of-self-2 c =
    let items = c.self.inside.rows.items in
    let rows = map row_of items in
    let n = c.args.no.0 in
    let first : n < length rows = omega (arith, c.requires.number, ap length c.self.view_is) in
    let within : n < length items = omega (arith, first, length-map items row_of) in
    let below = subst (λ (rs : List Row). AllBelow (length rs) (numbers c.args.edges.needs.items)) (sym c.self.view_is) c.requires.needs_below in
    subst (λ (rs : List Row). AreKept c.set.new.self rs) (sym (map-set row_of items n c.args.edges))
    (kept_set c.self.inside.index c.set.new.self rows c.self.invariant n (row_of c.args.edges) below
    (c.in_ok-set.ensures.set rows c.self.invariant.told first (row_read items rows n c.index-row.result.now refl within c.index-row.ensures)))

pub returns-clause-set : goal.returns-clause-set
returns-clause-set c =
    map-set row_of c.self.inside.rows.items c.args.no.0 c.args.edges ∙ ap (λ (rows : List Row). set rows c.args.no.0 (row_of c.args.edges)) c.self.view_is
