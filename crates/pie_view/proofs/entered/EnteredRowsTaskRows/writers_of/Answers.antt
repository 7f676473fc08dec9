use Rattle.std.proofs.Common.{List, subst}
use Rattle.std.specs.Prelude.{IfOk}
use Rattle.pie_graph.specs.Numbers.{numbers, Exactly}
use Rattle.pie_graph.specs.Rows.{Row, Writes}
use Rattle.pie_view.proofs.entered.EnteredRowsTaskRows.writers_of.Goals as goal

pub returns : goal.returns
returns c = subst (λ (rows : List Row). IfOk c.writers_of.result (λ found. Exactly (λ k. Writes rows k c.args.path.now) (numbers found.items)))
    c.self.view_is c.writers_of.ensures
