use Rattle.pie_step_laws.proofs.EndLemmas.{enters_one_more, new_root_entered}
use Rattle.pie_step_laws.proofs.ends.roots_enter_too_many.Goals as goal

pub returns-clause-required : goal.returns-clause-required
returns-clause-required c = λ w P root base R names fs f n h u U l q new. enters_one_more w P root base R names fs f U n h u l q new

pub returns-clause-itself : goal.returns-clause-itself
returns-clause-itself c = λ w P names root h. new_root_entered w P names root h
