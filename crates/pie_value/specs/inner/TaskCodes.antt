-- How the logic stores a task: its name and its arguments.
use Rattle.std.specs.Prelude.{ℕ, List, refl}
use Rattle.std.specs.Coded.{Coded, code_by, coded×, coded_ℕ, coded_list}
use Rattle.pie_value.specs.declared.task.Task.{Task}
use Rattle.pie_value.specs.Tree.{Tree}
use Rattle.pie_value.specs.inner.Codes.{coded_trees}

abbrev pub coded_task : Coded Task
coded_task =
    code_by (List ℕ × List Tree) (coded× (coded_list coded_ℕ) coded_trees)
    (λ t. (t.func, t.args)) (λ p. record { func = p.0; args = p.1 }) (λ _. refl)

abbrev pub coded_tasks : Coded (List Task)
coded_tasks = coded_list coded_task
