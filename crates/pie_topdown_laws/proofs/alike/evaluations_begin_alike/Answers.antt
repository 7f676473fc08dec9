use Rattle.pie_topdown_laws.proofs.Checking.{begin_alike}
use Rattle.pie_topdown_laws.proofs.alike.evaluations_begin_alike.Goals as goal

pub returns : goal.returns
returns c = λ x before room above t r passed rest A O i m e agree placed. begin_alike x before A room above t r O passed rest i m e agree placed
