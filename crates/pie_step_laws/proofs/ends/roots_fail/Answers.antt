use Rattle.pie_step_laws.proofs.EndLemmas.{failed, ran_out, clashes, lists_too_much}
use Rattle.pie_step_laws.proofs.ends.roots_fail.Goals as goal

pub returns-clause-failed : goal.returns-clause-failed
returns-clause-failed c = λ w P root base R names fs f n k U l q. failed w P root base R names fs f U n k l q

pub returns-clause-ran_out : goal.returns-clause-ran_out
returns-clause-ran_out c = λ w P root base R names fs f U l. ran_out w P root base R names fs f U l

pub returns-clause-clashing : goal.returns-clause-clashing
returns-clause-clashing c = λ w P root base R names fs f n l p U e q v. clashes w P root base R names fs f U n l p e q v

pub returns-clause-too_big : goal.returns-clause-too_big
returns-clause-too_big c = λ w P root base R names fs f n d U e q v. lists_too_much w P root base R names fs f U n d e q v
