use Rattle.std.proofs.lemmas.Result.{IfOk-weaker}
use Rattle.pie_graph.proofs.indexed.IndexedRowsTaskRows.callers.Goals as goal

pub returns : goal.returns
returns c = IfOk-weaker c.users.result _ _ (λ found x. x) c.users.ensures
