use Rattle.pie_model.specs.inner.RecordLaws.{Passes}
use Rattle.pie_settle_laws.proofs.Settling.{finish_spares, start_spares}
use Rattle.pie_settle_laws.proofs.settled.settled_tasks_stay.Goals as goal

pub returns-clause-finish : goal.returns-clause-finish
returns-clause-finish c = λ R S t new busy after change b f u s. finish_spares R S t new (Passes busy) (Passes after) change b f u s

pub returns-clause-start : goal.returns-clause-start
returns-clause-start c = λ R busy after closed f u s. start_spares R (Passes busy) (Passes after) closed f u s
