use Rattle.pie_settle_laws.proofs.Ordering.{acyclic}
use Rattle.pie_settle_laws.proofs.orders.ordered_rows_are_acyclic.Goals as goal

pub returns : goal.returns
returns c = λ rows places agrees caller callee calls more. acyclic rows places agrees caller callee calls more
