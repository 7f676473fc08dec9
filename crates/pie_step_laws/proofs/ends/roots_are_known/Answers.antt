use Rattle.pie_step_laws.proofs.EndLemmas.{known_done, known_adds_nothing}
use Rattle.pie_step_laws.proofs.ends.roots_are_known.Goals as goal

pub returns-clause-done : goal.returns-clause-done
returns-clause-done c = λ w P R names root Q i. known_done w P R names root Q i

pub returns-clause-nothing : goal.returns-clause-nothing
returns-clause-nothing c = λ w P R names root Q i. known_adds_nothing w P R names root Q i
