use Rattle.pie_check_laws.proofs.PathKinds.{under_out, under_out_back, below_is}
use Rattle.pie_check_laws.proofs.laws.paths_agree.Goals as goal

pub returns-clause-under_out : goal.returns-clause-under_out
returns-clause-under_out c = λ p. (λ e. under_out p e, λ h. under_out_back p h)

pub returns-clause-below : goal.returns-clause-below
returns-clause-below c = λ p q. below_is p q
