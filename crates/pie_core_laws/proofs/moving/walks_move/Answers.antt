use Rattle.pie_core_laws.proofs.Moved.{walks_move, takes_move, taken_rest}
use Rattle.pie_core_laws.proofs.Visited.{begins_move, requires_move}
use Rattle.pie_core_laws.proofs.moving.walks_move.Goals as goal

pub returns-clause-walks : goal.returns-clause-walks
returns-clause-walks c = λ s after w v m. walks_move s after w v m

pub returns-clause-takes : goal.returns-clause-takes
returns-clause-takes c = λ s after task w v m. takes_move s after task w v m

pub returns-clause-rests : goal.returns-clause-rests
returns-clause-rests c = λ u names records s after task rec e w v m k. taken_rest s after task w v m u names records rec e k

pub returns-clause-begins : goal.returns-clause-begins
returns-clause-begins c = λ s root w l. begins_move s root w l

pub returns-clause-called : goal.returns-clause-called
returns-clause-called c = λ s places from to w r l. requires_move s places from to w r l
