use Rattle.pie_topdown_result_laws.proofs.Settling.{settled_exact}
use Rattle.pie_topdown_result_laws.proofs.settled.settled_tables_are_exact.Goals as goal

pub returns : goal.returns
returns c = λ u names records rows places roots a. settled_exact u names records rows places roots a
