use Rattle.pie_model.proofs.RunningLemmas.{starts, sees_nothing, sees_contents, lists_entries, writes_contents}
use Rattle.pie_model.proofs.run_laws.runs_go_on.Goals as goal

pub returns-clause-starts : goal.returns-clause-starts
returns-clause-starts c = λ w P room above t h. starts w P room above t h

pub returns-clause-sees_nothing : goal.returns-clause-sees_nothing
returns-clause-sees_nothing c = λ w P room above t n g seen l p h v r. sees_nothing w P room above t n g seen l p h v r

pub returns-clause-sees_contents : goal.returns-clause-sees_contents
returns-clause-sees_contents c = λ w P room above t n g seen l p b m h v r. sees_contents w P room above t n g seen l p b m h v r

pub returns-clause-lists : goal.returns-clause-lists
returns-clause-lists c = λ w P room above t n g seen d es h v r. lists_entries w P room above t n g seen d es h v r

pub returns-clause-writes : goal.returns-clause-writes
returns-clause-writes c = λ w P room above t n g seen p b h r. writes_contents w P room above t n g seen p b h r
