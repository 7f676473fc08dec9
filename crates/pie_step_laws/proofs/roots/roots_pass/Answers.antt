use Rattle.pie_step_laws.proofs.RootLemmas.{build_begins, known_root_passes, ended_root_passes}
use Rattle.pie_step_laws.proofs.roots.roots_pass.Goals as goal

pub returns-clause-begins : goal.returns-clause-begins
returns-clause-begins c = λ w P R none. build_begins w P R none

pub returns-clause-known : goal.returns-clause-known
returns-clause-known c = λ w P done R names root B i. known_root_passes w P done R names root B i

pub returns-clause-ended : goal.returns-clause-ended
returns-clause-ended c = λ w P done R S base names root v B Q E. ended_root_passes w P done R S base names root v B Q E
