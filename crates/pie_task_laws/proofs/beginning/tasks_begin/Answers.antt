use Rattle.pie_task_laws.proofs.Begun.{bases_may, requirers_wait, new_may, taken_run, lost_end}
use Rattle.pie_task_laws.proofs.beginning.tasks_begin.Goals as goal

pub returns-clause-bases : goal.returns-clause-bases
returns-clause-bases c = λ x b cs t is w. bases_may x b cs t is w

pub returns-clause-waits : goal.returns-clause-waits
returns-clause-waits c = λ x b cs w t how k e left a small named. requirers_wait x b cs w t how k e left a small named

pub returns-clause-new : goal.returns-clause-new
returns-clause-new c = λ x old new cs w t how e few left a small s names. new_may x old new cs w t how e few left a small s names

pub returns-clause-runs : goal.returns-clause-runs
returns-clause-runs c = λ x old new cs t k f e takes m function started. taken_run x old new cs t k f e takes m function started

pub returns-clause-lost : goal.returns-clause-lost
returns-clause-lost c = λ x b cs t k left m canonical none empty. lost_end x b cs t k left m canonical none empty
