use Rattle.pie_clean_laws.proofs.Same.{files_accepted, left_same}
use Rattle.pie_clean_laws.proofs.left.same_files_leave_the_same.Goals as goal

pub returns-clause-accepted : goal.returns-clause-accepted
returns-clause-accepted c = λ d e alike a. files_accepted d e alike a

pub returns-clause-left : goal.returns-clause-left
returns-clause-left c = λ d e left other alike a b. left_same d e alike left other a b
