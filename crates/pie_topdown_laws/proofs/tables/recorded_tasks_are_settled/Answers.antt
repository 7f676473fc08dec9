use Rattle.pie_topdown_laws.proofs.Tabling.{settled_task, counted, settled_stays}
use Rattle.pie_topdown_laws.proofs.tables.recorded_tasks_are_settled.Goals as goal

pub returns-clause-settled : goal.returns-clause-settled
returns-clause-settled c = λ w P R names t T k. settled_task w P R names T t k

pub returns-clause-counted : goal.returns-clause-counted
returns-clause-counted c = λ w P R names T. counted w P R names T

pub returns-clause-stay : goal.returns-clause-stay
returns-clause-stay c = λ w P R S names t r T E. settled_stays w P R S names t r T E
