-- The tasks of records by their numbers, and the numbers of the tasks that each record requires.
use Rattle.std.specs.Prelude.{◌≡◌, ℕ, List, ◌++◌, map, Option, Some, Vec, slice_get}
use Rattle.std.specs.List.{flat_map}
use Rattle.pie_value.specs.declared.task.Task.{Task}
use Rattle.pie_graph.specs.declared.edges.TaskNo.{TaskNo}
use Rattle.pie_graph.specs.Numbers.{numbers}
use Rattle.pie_record.specs.declared.dep.Dep.{Dep}
use Rattle.pie_record.specs.declared.task_record.TaskRecord.{TaskRecord}
use Rattle.pie_store.specs.Canonical.{needs, required_on, tasks_in}
use Rattle.pie_store.specs.Ranks.{Ranked, AreRanked}
use Rattle.pie_store.specs.declared.ties.Ties.{Ties}

-- the tasks that observations require, in order
abbrev pub needs_in : List Dep → List Task
needs_in deps = flat_map (λ (d : Dep). required_on d.what) deps

-- the tasks that have these numbers
abbrev pub tasks_at : List Task → List ℕ → List (Option Task)
tasks_at tasks ns = map (slice_get tasks) ns

-- the same of numbers as the code has them
abbrev pub named_by : List Task → List TaskNo → List (Option Task)
named_by tasks nos = tasks_at tasks (numbers nos)

-- behind these numbers stand those of some tasks more
abbrev pub Gains : List Task → List TaskNo → List TaskNo → List Task → Type 0
Gains tasks old new more = named_by tasks new ≡ named_by tasks old ++ map Some more

-- numbers for each record: those of the tasks that it requires, in order and with repeats
abbrev pub AreNeeds : {Z : Type 0} → List Task → List (Vec TaskNo Z) → List TaskRecord → Type 0
AreNeeds {Z} tasks each rows = map (λ (nos : Vec TaskNo Z). named_by tasks nos.items) each ≡ map (λ (r : TaskRecord). map Some (needs r)) rows

-- the tasks of records in order, and the numbers of those that each record requires
pub record AreTies (rows : List TaskRecord) (t : Ties) : Type 0 where
  pub names : t.names ≡ tasks_in rows
  pub needs : AreNeeds t.names t.needs.items rows

-- names, heights, required numbers and records of the same tasks, in one order
pub record AreTied {Z : Type 0} (tasks : List Task) (heights : List ℕ) (each : List (Vec TaskNo Z)) (rows : List TaskRecord) : Type 0 where
  pub ranked : AreRanked tasks heights rows
  pub needs : AreNeeds tasks each rows

-- the tasks of records with their heights
abbrev pub tasks_among : Ranked → List Task
tasks_among rows = map (λ (r : TaskRecord × ℕ). r.0.task) rows
