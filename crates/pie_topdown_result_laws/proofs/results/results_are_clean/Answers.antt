use Rattle.pie_topdown_result_laws.proofs.Making.{settled_ended, makes_clean, refused_clean}
use Rattle.pie_topdown_result_laws.proofs.results.results_are_clean.Goals as goal

pub returns-clause-ended : goal.returns-clause-ended
returns-clause-ended c = λ u names records rows places roots a apart. settled_ended u names records rows places roots a apart

pub returns-clause-makes : goal.returns-clause-makes
returns-clause-makes c = λ u t rows places staged roots b a apart met now there makes stored.
    makes_clean u t rows places staged roots b a apart met now there makes stored

pub returns-clause-refused : goal.returns-clause-refused
returns-clause-refused c = λ u b r is says. refused_clean u b r is says
