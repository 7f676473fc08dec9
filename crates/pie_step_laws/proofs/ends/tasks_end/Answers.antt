use Rattle.pie_step_laws.proofs.EndLemmas.{task_ends, frame_waits, own_writes}
use Rattle.pie_step_laws.proofs.ends.tasks_end.Goals as goal

pub returns-clause-answered : goal.returns-clause-answered
returns-clause-answered c = λ w P root base R S names gs g f n h v U l q C next. task_ends w P root base R S names f n v g gs U l q C h next

pub returns-clause-waits : goal.returns-clause-waits
returns-clause-waits c = λ w P root base R names gs g f U. frame_waits w P root g gs f.task U.waits

pub returns-clause-wrote : goal.returns-clause-wrote
returns-clause-wrote c = λ w P root base R names fs f n v U l q. own_writes w P root base R names fs f U n v l q
