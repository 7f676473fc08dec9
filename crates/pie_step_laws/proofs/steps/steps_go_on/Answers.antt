use Rattle.pie_step_laws.proofs.StepLemmas.{absent_look, present_look, listing_made, write_made}
use Rattle.pie_step_laws.proofs.steps.steps_go_on.Goals as goal

pub returns-clause-sees_nothing : goal.returns-clause-sees_nothing
returns-clause-sees_nothing c = λ w P root base R names fs f n l p U e h v. absent_look w P root base R names fs f U n l p e h v

pub returns-clause-sees_contents : goal.returns-clause-sees_contents
returns-clause-sees_contents c = λ w P root base R names fs f n l p b m U e h v. present_look w P root base R names fs f U n l p b m e h v

pub returns-clause-lists : goal.returns-clause-lists
returns-clause-lists c = λ w P root base R names fs f n d es U e h v. listing_made w P root base R names fs f U n d es e h v

pub returns-clause-writes : goal.returns-clause-writes
returns-clause-writes c = λ w P root base R names fs f n p b U e h. write_made w P root base R names fs f U n p b e h
