use Rattle.pie_task_laws.proofs.Together.{moves_rest, roots_rest, requirers_rest, new_requirers_rest, taken_work}
use Rattle.pie_task_laws.proofs.whole.tasks_go_on.Goals as goal

pub returns-clause-moves : goal.returns-clause-moves
returns-clause-moves c = λ x b after cs m r. moves_rest x b after cs m r

pub returns-clause-roots : goal.returns-clause-roots
returns-clause-roots c = λ x b t cs comes none is r. roots_rest x b t cs comes none is r

pub returns-clause-waits : goal.returns-clause-waits
returns-clause-waits c = λ x b cs w t how k e none left a small named. requirers_rest x b cs w t how k e none left a small named

pub returns-clause-waits_for_new : goal.returns-clause-waits_for_new
returns-clause-waits_for_new c = λ x b cs w t how comes none few left a small. new_requirers_rest x b cs w t how comes none few left a small

pub returns-clause-taken : goal.returns-clause-taken
returns-clause-taken c = λ x b after k t cs f takes r function started. taken_work x b after k t cs f takes r function started
