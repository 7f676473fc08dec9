use Rattle.std.proofs.Common.{ℕ, List, map, subst, arith}
use Rattle.std.proofs.lemmas.List.{length-map}
use Rattle.pie_graph.specs.Alone.{written}
use Rattle.pie_graph.specs.Numbers.{numbers, Exactly}
use Rattle.pie_graph.specs.Rows.{Row, row_of, Writes}
use Rattle.pie_graph.proofs.RowsWritten.{writers_same}
use Rattle.pie_graph.proofs.indexed.IndexedRowsTaskRows.writers_of.Goals as goal

pub returns : goal.returns
returns c =
    let rows = map row_of c.self.inside.rows.items in
    let found = numbers c.in_ok-found.found.items in
    subst (λ (rs : List Row). Exactly (λ k. Writes rs k c.args.path.now) found) c.self.view_is
    (subst (λ (p : List ℕ). Exactly (λ k. Writes rows k p) found) c.in_ok-copy.ensures
    (writers_same rows c.in_ok-copy.field-0 found
    (c.in_ok-found.ensures (map written rows) (omega (arith, c.self.invariant.0, length-map c.self.inside.rows.items row_of, length-map rows written))
    c.self.invariant.2)))
