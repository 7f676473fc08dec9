use Rattle.pie_core_laws.proofs.Runs.{ended_right, lost_right, old_base}
use Rattle.pie_core_laws.proofs.running.ended_tasks_are_right.Goals as goal

pub returns-clause-ended : goal.returns-clause-ended
returns-clause-ended c = λ u base f last e rec b left plain is. ended_right u base f last e rec b left plain is

pub returns-clause-lost : goal.returns-clause-lost
returns-clause-lost c = λ u t rec b canonical none is. lost_right u t rec b canonical none is

pub returns-clause-old : goal.returns-clause-old
returns-clause-old c = λ u rec update o. old_base u rec update o
