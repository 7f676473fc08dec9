use Rattle.pie_task_laws.proofs.Keeping.{running_stay, asking_stay, waiting_stay, beginning_stay, callers_stay, older_stay, taken_pass}
use Rattle.pie_task_laws.proofs.steps.running_tasks_stay.Goals as goal

pub returns-clause-running : goal.returns-clause-running
returns-clause-running c = λ x old new cs code m n e s r. running_stay x old new cs code m n e s r

pub returns-clause-asking : goal.returns-clause-asking
returns-clause-asking c = λ x old new cs w v e s a. asking_stay x old new cs w v e s a

pub returns-clause-waiting : goal.returns-clause-waiting
returns-clause-waiting c = λ x old new cs e s w. waiting_stay x old new cs e s w

pub returns-clause-beginning : goal.returns-clause-beginning
returns-clause-beginning c = λ x old new cs t e s m. beginning_stay x old new cs t e s m

pub returns-clause-callers : goal.returns-clause-callers
returns-clause-callers c = λ x old new cs code m n e s r. callers_stay x old new cs code m n e s r

pub returns-clause-older : goal.returns-clause-older
returns-clause-older c = λ x old new d cs e s w. older_stay x old new d cs e s w

pub returns-clause-passing : goal.returns-clause-passing
returns-clause-passing c = λ x old taken new cs t k e f s was named g w. taken_pass x old taken new cs t k e f s was named g w
