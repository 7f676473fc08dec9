use Rattle.pie_step_laws.proofs.RootLemmas.{too_many, first_entered, few_first}
use Rattle.pie_step_laws.proofs.roots.too_many_tasks.Goals as goal

pub returns-clause-verdict : goal.returns-clause-verdict
returns-clause-verdict c = λ w P roots done rest R base names root u B is full more. too_many w P roots done rest R base root B is names u full more

pub returns-clause-first : goal.returns-clause-first
returns-clause-first c = λ w P roots done rest R base names root u B is full more. first_entered w P roots done rest R base root B is names u full more

pub returns-clause-few : goal.returns-clause-few
returns-clause-few c = λ w P roots names v C few. few_first w P roots names v C few
