use Rattle.pie_result_laws.proofs.Storing.{have_ended, accepted_clean}
use Rattle.pie_result_laws.proofs.Filing.{files_provided}
use Rattle.pie_result_laws.proofs.accepted.accepted_results_are_clean.Goals as goal

pub returns-clause-ended : goal.returns-clause-ended
returns-clause-ended c = λ u names records s roots e w apart all. have_ended u names records s roots e w apart all

pub returns-clause-accepted : goal.returns-clause-accepted
returns-clause-accepted c = λ u t s staged roots b e w apart h m stored accepted. accepted_clean u t s staged roots b e w apart h m stored accepted

pub returns-clause-files : goal.returns-clause-files
returns-clause-files c = λ u t s staged roots b e w apart h m st accepted. files_provided u t s staged roots b e w apart h m st accepted
