use Rattle.pie_task_laws.proofs.Answered.{run_on, callers_end, big_fails}
use Rattle.pie_task_laws.proofs.answering.requirers_are_answered.Goals as goal

pub returns-clause-answered : goal.returns-clause-answered
returns-clause-answered c = λ x b d cs k rec v height f h given t. run_on x b d cs k rec v height f h given t

pub returns-clause-ended : goal.returns-clause-ended
returns-clause-ended c = λ x b d cs k rec h lost. callers_end x b d cs k rec h lost

pub returns-clause-big : goal.returns-clause-big
returns-clause-big c = λ x b cs w t how a left big. big_fails x b cs w t how a left big
