use Rattle.pie_core_laws.proofs.Joined.{same_codes, other_codes, one_shape}
use Rattle.pie_core_laws.proofs.joins.comparisons_decide.Goals as goal

pub returns-clause-same : goal.returns-clause-same
returns-clause-same c = λ old now name h. same_codes old now name h

pub returns-clause-other : goal.returns-clause-other
returns-clause-other c = λ old now name h s. other_codes old now name h s

pub returns-clause-shape : goal.returns-clause-shape
returns-clause-shape c = λ names ns old new a b w. one_shape names ns old new a b w
