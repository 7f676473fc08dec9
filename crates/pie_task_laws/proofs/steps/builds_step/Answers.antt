use Rattle.pie_task_laws.proofs.Keeping.{stagings_step}
use Rattle.pie_task_laws.proofs.Stepping.{moves_step, new_step, finishes_step, kept_step}
use Rattle.pie_task_laws.proofs.steps.builds_step.Goals as goal

pub returns-clause-moves : goal.returns-clause-moves
returns-clause-moves c = λ x b after s m. moves_step x b after s m

pub returns-clause-new : goal.returns-clause-new
returns-clause-new c = λ x b t s. new_step x b t s

pub returns-clause-finishes : goal.returns-clause-finishes
returns-clause-finishes c = λ x b changed after k row rec s f. finishes_step x b changed after k row rec s f

pub returns-clause-kept : goal.returns-clause-kept
returns-clause-kept c = λ x b k s. kept_step x b k s

pub returns-clause-staging : goal.returns-clause-staging
returns-clause-staging c = λ x b later e same. stagings_step x b later e same
