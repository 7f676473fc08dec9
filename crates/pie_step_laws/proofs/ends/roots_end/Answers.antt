use Rattle.pie_step_laws.proofs.EndLemmas.{root_rests, root_ends}
use Rattle.pie_step_laws.proofs.ends.roots_end.Goals as goal

pub returns-clause-rests : goal.returns-clause-rests
returns-clause-rests c = λ w P root base R S names f n v U l q C. root_rests w P root base R S names f n v U l q C

pub returns-clause-ended : goal.returns-clause-ended
returns-clause-ended c = λ w P root base R names f n v U l q. root_ends w P root base R R names f n v U l q
