use Rattle.pie_step_laws.proofs.StepLemmas.{require_answered, require_descends}
use Rattle.pie_step_laws.proofs.steps.requires_go_on.Goals as goal

pub returns-clause-answered : goal.returns-clause-answered
returns-clause-answered c = λ w P root base R names fs f n h u r v U e q k o. require_answered w P root base R names fs f U n h u r v e q k o

pub returns-clause-descends : goal.returns-clause-descends
returns-clause-descends c = λ w P root base R names fs f n h u U e q new few. require_descends w P root base R names fs f U n h u e q new few
