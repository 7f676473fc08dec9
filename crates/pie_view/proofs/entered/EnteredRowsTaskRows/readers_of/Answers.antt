use Rattle.std.proofs.Common.{List, subst}
use Rattle.std.specs.Prelude.{IfOk}
use Rattle.pie_graph.specs.Numbers.{numbers, Exactly}
use Rattle.pie_graph.specs.Rows.{Row, Reads}
use Rattle.pie_view.proofs.entered.EnteredRowsTaskRows.readers_of.Goals as goal

pub returns : goal.returns
returns c = subst (λ (rows : List Row). IfOk c.readers_of.result (λ found. Exactly (λ k. Reads rows k c.args.path.now) (numbers found.items)))
    c.self.view_is c.readers_of.ensures
