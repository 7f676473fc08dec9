use Rattle.std.proofs.Common.{◌-◌, ◌∙◌, [], length, sym, ap, arith}
use Rattle.pie_model.specs.Tasks.{Task}
use Rattle.pie_model.specs.Evaluation.{evaluation}
use Rattle.pie_model.proofs.Rooms.{node_alone, all_plain, tasks_apart, plain_not_round}
use Rattle.pie_model.proofs.Basics.{clash}
use Rattle.pie_model.proofs.tree_laws.plain_nodes_are_one.Goals as goal

pub returns-clause-alone : goal.returns-clause-alone
returns-clause-alone c = λ w P above r m s h. node_alone (w.most_tasks - length above) w P above r m (omega arith) s h

pub returns-clause-one : goal.returns-clause-one
returns-clause-one c =
    λ w P r s m n i j h k e.
    node_alone (w.most_tasks - length {A = Task} []) w P [] r m (omega arith) i h
    ∙ ap (evaluation w P) e
    ∙ sym (node_alone (w.most_tasks - length {A = Task} []) w P [] s n (omega arith) j k)

pub returns-clause-plain : goal.returns-clause-plain
returns-clause-plain c = λ w P above r m h s. all_plain (w.most_tasks - length above) w P above r m h s

pub returns-clause-apart : goal.returns-clause-apart
returns-clause-apart c = λ w P above t x h s i. clash _ i (tasks_apart (w.most_tasks - length above) w P above t (plain_not_round _ h) x s)
