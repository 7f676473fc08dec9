use Rattle.pie_left_laws.proofs.Resting.{kept_are_there}
use Rattle.pie_left_laws.proofs.Settling.{is_accepted}
use Rattle.pie_left_laws.proofs.accepted.clean_results_are_accepted.Goals as goal

pub returns-clause-accepted : goal.returns-clause-accepted
returns-clause-accepted c = λ u t s roots b e w apart met there same accepted clean files.
    is_accepted u t s e w apart met there roots b same accepted clean files

pub returns-clause-kept : goal.returns-clause-kept
returns-clause-kept c = λ u t s w idle. kept_are_there u t s w idle
