use Rattle.std.proofs.Common.{List, map, subst}
use Rattle.pie_graph.specs.Numbers.{numbers, Exactly}
use Rattle.pie_graph.specs.Rows.{Row, row_of, Writes}
use Rattle.pie_union.proofs.rows.UnionRowsTaskRows.writers_of.Goals as goal

pub returns : goal.returns
returns c =
    let rows = map row_of c.self.inside.rows.items in
    subst (λ (rows : List Row). Exactly (λ k. Writes rows k c.args.path.now) (numbers c.in_ok-found.found.items)) c.self.view_is
    (c.in_ok-found.ensures rows c.self.invariant.few c.self.invariant.told)
