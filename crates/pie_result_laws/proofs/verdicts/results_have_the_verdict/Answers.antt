use Rattle.pie_result_laws.proofs.Living.{checks_decide}
use Rattle.pie_result_laws.proofs.Failing.{failed_decide, made_verdict}
use Rattle.pie_result_laws.proofs.verdicts.results_have_the_verdict.Goals as goal

pub returns-clause-failed : goal.returns-clause-failed
returns-clause-failed c = λ u names records s roots refusal e w apart h f. failed_decide u names records s e w apart roots refusal h f

pub returns-clause-checked : goal.returns-clause-checked
returns-clause-checked c = λ u names records s roots live answer e w apart all alive h. checks_decide u names records s roots e w apart all live alive answer h

pub returns-clause-verdict : goal.returns-clause-verdict
returns-clause-verdict c = λ u t s staged roots b e w apart h m. made_verdict u t s staged roots b e w apart h m
