use Rattle.std.proofs.Common.{List, subst}
use Rattle.std.specs.Prelude.{IfOk}
use Rattle.pie_graph.specs.Numbers.{numbers, Exactly}
use Rattle.pie_graph.specs.Rows.{Row, Lists}
use Rattle.pie_view.proofs.entered.EnteredRowsTaskRows.listers_of.Goals as goal

pub returns : goal.returns
returns c = subst (λ (rows : List Row). IfOk c.listers_of.result (λ found. Exactly (λ k. Lists rows k c.args.dir.now) (numbers found.items)))
    c.self.view_is c.listers_of.ensures
