use Rattle.pie_earlier_laws.proofs.Leaving.{accepted_is_earlier, agreeing, names_join, more_names}
use Rattle.pie_earlier_laws.proofs.left.bases_go_on.Goals as goal

pub returns-clause-accepted : goal.returns-clause-accepted
returns-clause-accepted c = λ w P roots text before left accepted same B. accepted_is_earlier w P roots text before left accepted same B

pub returns-clause-same : goal.returns-clause-same
returns-clause-same c = λ before now A. agreeing before now A

pub returns-clause-join : goal.returns-clause-join
returns-clause-join c = λ before between now first second N M. names_join before between now first second N M

pub returns-clause-more : goal.returns-clause-more
returns-clause-more c = λ before now few more f N. more_names before now few more f N
