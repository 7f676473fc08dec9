use Rattle.pie_model.proofs.RunningLemmas.{required_stands, is_answered}
use Rattle.pie_model.proofs.run_laws.requires_go_on.Goals as goal

pub returns-clause-stands : goal.returns-clause-stands
returns-clause-stands c = λ w P room above t n g seen k u h r. required_stands w P room above t n g seen k u h r

pub returns-clause-answered : goal.returns-clause-answered
returns-clause-answered c = λ w P room above t n g seen k u v h e r. is_answered w P room above t n g seen k u v h e r
