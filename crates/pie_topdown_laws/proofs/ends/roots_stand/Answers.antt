use Rattle.pie_topdown_laws.proofs.Deciding.{root_stands, more_stand}
use Rattle.pie_topdown_laws.proofs.ends.roots_stand.Goals as goal

pub returns-clause-itself : goal.returns-clause-itself
returns-clause-itself c = λ x ts t i. root_stands x ts t i

pub returns-clause-more : goal.returns-clause-more
returns-clause-more c = λ x ts more t s. more_stand x ts more t s
