-- Which functions, roots and records may stand in one store.
use Rattle.std.specs.Prelude.{ℕ, List, All, Contains}
use Rattle.pie_value.specs.declared.task.Task.{Task}
use Rattle.pie_record.specs.declared.task_record.TaskRecord.{TaskRecord}
use Rattle.pie_store.specs.Canonical.{names_of, tasks_in, AreInOrder}

-- records in the order of a store, each of a function in the table, and a record for each root
pub record MayStandTogether (funcs : List (List ℕ × List ℕ)) (roots : List Task) (rows : List TaskRecord) : Type 0 where
  pub order : AreInOrder rows
  pub known : All (λ (r : TaskRecord). Contains (names_of funcs) r.task.func) rows
  pub closed : All (λ (t : Task). Contains (tasks_in rows) t) roots
