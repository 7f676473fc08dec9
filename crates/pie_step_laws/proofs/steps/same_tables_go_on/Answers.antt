use Rattle.pie_step_laws.proofs.StepLemmas.{same_under_way}
use Rattle.pie_step_laws.proofs.steps.same_tables_go_on.Goals as goal

pub returns : goal.returns
returns c = λ w P root base R S names fs f e U. same_under_way w P root base R S names fs f e U
