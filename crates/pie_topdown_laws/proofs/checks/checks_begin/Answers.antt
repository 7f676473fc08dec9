use Rattle.pie_topdown_laws.proofs.Building.{check_begins}
use Rattle.pie_topdown_laws.proofs.checks.checks_begin.Goals as goal

pub returns : goal.returns
returns c = λ x before R root fs t r i G O. check_begins x before R root fs t r i G O
