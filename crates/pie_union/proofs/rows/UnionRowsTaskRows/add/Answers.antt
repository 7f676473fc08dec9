use Rattle.std.proofs.Common.{◌≡◌, ◌∙◌, ◌++◌, ◌∷◌, [], List, length, map, sym, ap, subst, arith}
use Rattle.std.proofs.lemmas.List.{map_push}
use Rattle.pie_graph.specs.declared.edges.Edges.{Edges}
use Rattle.pie_graph.specs.Rows.{Row, row_of, no_edges}
use Rattle.pie_union.specs.inner.Index.{AreKept}
use Rattle.pie_union.proofs.Growing.{kept_added}
use Rattle.pie_union.proofs.rows.UnionRowsTaskRows.add.Goals as goal

pub invariant_of-self-2 : goal.invariant_of-self-2
invariant_of-self-2 c =
    let rows = map row_of c.self.inside.rows.items in
    let more : map row_of c.push.new.self.items ≡ rows ++ no_edges ∷ [] =
    ap (map row_of) (c.in_ok-push.ensures.items ∙ ap (λ (es : List Edges). es ++ c.new-edges.result ∷ []) c.reserve.ensures.items)
    ∙ map_push row_of c.self.inside.rows.items c.new-edges.result ∙ ap (λ (row : Row). rows ++ row ∷ []) c.new-edges.ensures in
    subst (λ (rows : List Row). AreKept c.grow.new.self rows) (sym more)
    (kept_added c.self.inside.index c.grow.new.self rows c.self.invariant (omega (arith, c.requires, ap length c.self.view_is))
    (c.in_ok-grow.ensures.grown rows c.self.invariant.told))
