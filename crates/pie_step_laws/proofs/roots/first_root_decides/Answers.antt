use Rattle.pie_step_laws.proofs.RootLemmas.{fails_here, cycles_here}
use Rattle.pie_step_laws.proofs.roots.first_root_decides.Goals as goal

pub returns-clause-failed : goal.returns-clause-failed
returns-clause-failed c = λ w P roots done rest R base names root t k B is E. fails_here w P roots done rest R base root B is names t k E

pub returns-clause-in_cycle : goal.returns-clause-in_cycle
returns-clause-in_cycle c = λ w P roots done rest R base names root ts B is E. cycles_here w P roots done rest R base root B is names ts E
