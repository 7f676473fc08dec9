use Rattle.std.proofs.Common.{List, subst}
use Rattle.std.specs.Prelude.{IfOk}
use Rattle.pie_graph.specs.Numbers.{numbers, Exactly}
use Rattle.pie_graph.specs.Rows.{Row, Calls}
use Rattle.pie_view.proofs.entered.EnteredRowsTaskRows.callers.Goals as goal

pub returns : goal.returns
returns c = subst (λ (rows : List Row). IfOk c.callers.result (λ found. Exactly (λ k. Calls rows k c.args.no.0) (numbers found.items)))
    c.self.view_is c.callers.ensures
