-- Tasks that require one another in a cycle.
use Rattle.std.specs.Prelude.{ℕ, leb, cond, List, [], ◌∷◌}
use Rattle.pie_value.specs.declared.task.Task.{Task}
use Rattle.pie_running.specs.declared.frame.Caller.{Caller}

-- the tasks that wait, of those with this number or a greater one
abbrev pub tasks_from : ℕ → List Caller → List Task
tasks_from number [] = []
tasks_from number (c ∷ cs) = cond (leb number c.waiting.notes.number) (c.waiting.notes.task ∷ tasks_from number cs) (tasks_from number cs)
