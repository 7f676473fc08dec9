use Rattle.pie_topdown_laws.proofs.Building.{stands_right, stands_ends, gives_way}
use Rattle.pie_topdown_laws.proofs.checks.checks_end.Goals as goal

pub returns-clause-right : goal.returns-clause-right
returns-clause-right c = λ x before R root fs t r passed O k. stands_right x before R root fs t r passed k O.meaning

pub returns-clause-ends : goal.returns-clause-ends
returns-clause-ends c = λ x before R S names root fs t r passed O B k change. stands_ends x before R root fs t r passed k O.meaning S names B change

pub returns-clause-gives_way : goal.returns-clause-gives_way
returns-clause-gives_way c = λ x before R root fs t r passed rest k. gives_way x before R root fs t r passed rest k
