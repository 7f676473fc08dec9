use Rattle.pie_step_laws.proofs.RootLemmas.{root_entered, root_value}
use Rattle.pie_step_laws.proofs.roots.roots_have_values.Goals as goal

pub returns-clause-entered : goal.returns-clause-entered
returns-clause-entered c = λ w P done R names t B i. root_entered w P done R names B t i

pub returns-clause-values : goal.returns-clause-values
returns-clause-values c = λ w P done R names t r B i e. root_value w P done R names B t r e
