use Rattle.pie_step_laws.proofs.RootLemmas.{stops_nowhere, all_done}
use Rattle.pie_step_laws.proofs.roots.all_roots_are_done.Goals as goal

pub returns-clause-nowhere : goal.returns-clause-nowhere
returns-clause-nowhere c = λ w P roots R names B. stops_nowhere w P roots R names B

pub returns-clause-verdict : goal.returns-clause-verdict
returns-clause-verdict c = λ w P roots R names B. all_done w P roots R names B
