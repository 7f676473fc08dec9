use Rattle.std.proofs.Common.{◌∙◌, List, length, set, map, length-set, ap, sym, subst, arith}
use Rattle.std.proofs.lemmas.List.{map-set}
use Rattle.pie_graph.specs.Numbers.{numbers, AllBelow}
use Rattle.pie_graph.specs.Rows.{Row, row_of, NeedsBelow}
use Rattle.pie_graph.proofs.RowLemmas.{needs_below_set}
use Rattle.pie_graph.proofs.plain.PlainRowsTaskRows.set_edges.Goals as goal

pub invariant_of-self : goal.invariant_of-self
invariant_of-self c =
    let old = c.self.inside.rows.items in (
      omega (arith, length-set old c.args.no.0 c.args.edges, c.self.invariant.0),
      subst NeedsBelow (sym (map-set row_of old c.args.no.0 c.args.edges))
          (needs_below_set (map row_of old) c.args.no.0 (row_of c.args.edges) c.self.invariant.1
          (subst (λ (rows : List Row). AllBelow (length rows) (numbers c.args.edges.needs.items)) (sym c.self.view_is) c.requires.needs_below)),
    )

pub returns-clause-set : goal.returns-clause-set
returns-clause-set c =
    map-set row_of c.self.inside.rows.items c.args.no.0 c.args.edges ∙ ap (λ (rows : List Row). set rows c.args.no.0 (row_of c.args.edges)) c.self.view_is
