use Rattle.pie_step_laws.proofs.StepLemmas.{root_begins}
use Rattle.pie_step_laws.proofs.steps.roots_begin.Goals as goal

pub returns : goal.returns
returns c = λ w P R names root S h few. root_begins w P root R names S h few
