use Rattle.pie_task_laws.proofs.Together.{kept_rest, lost_rest, ended_rest, callers_rest, answered_work}
use Rattle.pie_task_laws.proofs.whole.tasks_end.Goals as goal

pub returns-clause-kept : goal.returns-clause-kept
returns-clause-kept c = λ x b after k t rec cs takes r kept stays. kept_rest x b after k t rec cs takes r kept stays

pub returns-clause-lost : goal.returns-clause-lost
returns-clause-lost c = λ x b after last changed k t cs takes r ends. lost_rest x b after last changed k t cs takes r ends

pub returns-clause-ended : goal.returns-clause-ended
returns-clause-ended c = λ x b cs f changed after w ends. ended_rest x b cs f changed after w ends

pub returns-clause-callers : goal.returns-clause-callers
returns-clause-callers c = λ x b d cs changed after none w ends. callers_rest x b d cs changed after none w ends

pub returns-clause-answered : goal.returns-clause-answered
returns-clause-answered c = λ x b d cs k rec v height f none h given t. answered_work x b d cs k rec v height f none h given t
