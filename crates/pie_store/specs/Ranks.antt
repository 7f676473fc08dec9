-- The heights of tasks, and the order of records.
use Rattle.std.specs.Prelude.{◌≡◌, ℕ, ◌<◌, ◌≤◌, ◌+◌, ◌-◌, ◌^◌, ◌==◌, Bool, true, ◌&&◌, ◌||◌, List, [], ◌∷◌, length, map, max, cond, nat_lt, Option, Some, None}
use Rattle.std.specs.Prelude.{is_some}
use Rattle.std.specs.Prelude.{All, slice_get}
use Rattle.std.specs.List.{list_any}
use Rattle.std.specs.Ordering.{is_lt}
use Rattle.std.specs.Str.{bytes_eq}
use Rattle.pie_value.specs.declared.task.Task.{Task}
use Rattle.pie_value.specs.Canonical.{enc_task, IsCanonicalTask}
use Rattle.pie_value.specs.Order.{byte_order}
use Rattle.pie_record.specs.declared.dep.Dep.{Dep}
use Rattle.pie_record.specs.declared.dep.DepOn.{DepOn}
use Rattle.pie_record.specs.declared.dep.DepOn.TheVariants.{File, Called}
use Rattle.pie_record.specs.declared.task_record.TaskRecord.{TaskRecord}
use Rattle.pie_record.specs.inner.Names.{AreDistinct}

-- records, each with the height of its task
abbrev pub Ranked : Type 0
Ranked = List (TaskRecord × ℕ)

-- two tasks are the same: they have the same canonical bytes
abbrev pub same_task : Task → Task → Bool
same_task t u = bytes_eq (enc_task t) (enc_task u)

-- the height of a task, if it has a record among these
abbrev pub rank_in : Ranked → Task → Option ℕ
rank_in [] t = None
rank_in (r ∷ rows) t = cond (same_task r.0.task t) (Some r.1) (rank_in rows t)

-- the answer that follows from another, if there is one
abbrev pub on_some : Option ℕ → (ℕ → Option ℕ) → Option ℕ
on_some None k = None
on_some (Some n) k = k n

-- a height that is at least so much, and above what was observed, if that is a task
abbrev pub above_one : Ranked → DepOn → ℕ → Option ℕ
above_one rows (File path) height = Some height
above_one rows (Called task) height = on_some (rank_in rows task) (λ h. Some (max height (h + 1)))

-- a height that is at least so much, and above each required task; none where one of these has no record
abbrev pub above : Ranked → List Dep → ℕ → Option ℕ
above rows [] height = Some height
above rows (d ∷ deps) height = on_some (above_one rows d.what height) (above rows deps)

-- one task and height comes before another: a lower height does, and at one height the order of canonical bytes decides
abbrev pub is_before : Task → ℕ → Task → ℕ → Bool
is_before t h u k = nat_lt h k || (h == k && is_lt (byte_order (enc_task t) (enc_task u)))

-- a task of this height comes after a record, if there is one
abbrev pub follows : Option (TaskRecord × ℕ) → Task → ℕ → Bool
follows None task height = true
follows (Some r) task height = is_before r.0.task r.1 task height

-- a task of this height comes after all of these
abbrev pub comes_last : Ranked → Task → ℕ → Bool
comes_last rows task height = follows (slice_get rows (length rows - 1)) task height

-- a function stands in the table; without a table any does
abbrev pub knows : Option (List (List ℕ × List ℕ)) → List ℕ → Bool
knows None name = true
knows (Some funcs) name = list_any (λ (f : List ℕ × List ℕ). bytes_eq name f.0) funcs

-- the height of a record that may stand after these: its task is new, what it requires has records, it comes last, its function is known
abbrev pub height_after : (List ℕ → Bool) → Ranked → TaskRecord → Option ℕ
height_after known rows r =
    cond (is_some (rank_in rows r.task)) None
    (on_some (above rows r.deps 0) (λ height. cond (comes_last rows r.task height && known r.task.func) (Some height) None))

-- a task that has canonical bytes
abbrev pub IsStored : Task → Type 0
IsStored t = IsCanonicalTask t (enc_task t)

-- what was observed has canonical bytes, if it is a task
abbrev pub IsStoredOn : DepOn → Type 0
IsStoredOn (File path) = Unit {0}
IsStoredOn (Called task) = IsStored task

-- names, heights and records of the same tasks, in one order
pub record AreRanked (tasks : List Task) (heights : List ℕ) (rows : List TaskRecord) : Type 0 where
  pub names : tasks ≡ map (λ (r : TaskRecord). r.task) rows
  pub same : length heights ≡ length rows
  pub low : All (λ h. h < length heights) heights
  pub stored : All IsStored tasks
  pub distinct : AreDistinct tasks
  pub few : length rows ≤ 2 ^ 32
