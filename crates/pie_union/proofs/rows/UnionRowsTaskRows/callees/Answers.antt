use Rattle.std.proofs.Common.{◌≡◌, ◌∙◌, ℕ, List, length, ap, sym, subst, arith}
use Rattle.std.proofs.lemmas.List.{length-map}
use Rattle.pie_graph.specs.Numbers.{numbers, AllBelow}
use Rattle.pie_graph.specs.Rows.{Row, row_of, row_at, NeedsBelow}
use Rattle.pie_graph.proofs.RowLemmas.{needs_below_at, row_read}
use Rattle.pie_union.proofs.rows.UnionRowsTaskRows.callees.Goals as goal

pub returns-clause-needs_below : goal.returns-clause-needs_below
returns-clause-needs_below c =
    let rows = c.args.self.now in
    let items = c.self.inside.rows.items in
    let view : length items ≡ length rows = sym (length-map items row_of) ∙ ap length c.self.view_is in
    let read : row_of c.index.result.now ≡ row_at rows c.args.no.0 =
    row_read items rows c.args.no.0 c.index.result.now c.self.view_is (omega arith) c.index.ensures in
    subst (λ (ns : List ℕ). AllBelow (length rows) ns)
    (sym (ap numbers c.as_slice.ensures.value ∙ ap (λ (r : Row). r.needs) read))
    (needs_below_at rows c.args.no.0 (subst NeedsBelow c.self.view_is c.self.invariant.needs_below))
