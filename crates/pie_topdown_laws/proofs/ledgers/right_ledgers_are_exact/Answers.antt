use Rattle.pie_topdown_laws.proofs.Exactness.{as_exact}
use Rattle.pie_topdown_laws.proofs.ledgers.right_ledgers_are_exact.Goals as goal

pub returns : goal.returns
returns c = λ u names records rows places L. as_exact u names records rows places L
