use Rattle.pie_step_laws.proofs.RootLemmas.{same_between}
use Rattle.pie_step_laws.proofs.roots.same_tables_rest.Goals as goal

pub returns : goal.returns
returns c = λ w P done R S names e B. same_between w P done R names B S e
