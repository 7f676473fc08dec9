use Rattle.std.proofs.Common.{◌∙◌, ap, map, subst, List}
use Rattle.pie_graph.specs.Numbers.{numbers, Exactly}
use Rattle.pie_graph.specs.Rows.{Row, row_of, row_at}
use Rattle.pie_graph.specs.Uses.{Has}
use Rattle.pie_graph.proofs.indexed.IndexedRows.users.Goals as goal

pub returns : goal.returns
returns c =
    subst (λ (rows : List Row). Exactly (λ k. Has (row_at rows k) c.args.what.now) (numbers c.in_ok-found.found.items))
    (ap (map row_of) c.as_slice.ensures.value ∙ c.self.view_is) c.in_ok-found.ensures
