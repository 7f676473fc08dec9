-- When the records of a build can stand in a store.
use Rattle.std.specs.Prelude.{◌≡◌, ℕ, ◌≤◌, true, List, length, map, Some, slice_get}
use Rattle.std.specs.List.{All, Contains}
use Rattle.pie_value.specs.declared.task.Task.{Task}
use Rattle.pie_value.specs.declared.verdict.Verdict.{Verdict}
use Rattle.pie_value.specs.declared.verdict.Verdict.TheVariants.{Accepted, Refused}
use Rattle.pie_graph.specs.Rows.{Row, row_at}
use Rattle.pie_record.specs.declared.records.Records.{Records}
use Rattle.pie_record.specs.declared.task_record.TaskRecord.{TaskRecord}
use Rattle.pie_record.specs.inner.Records.{record_of}
use Rattle.pie_store.specs.Canonical.{AreInOrder, needs, tasks_in}
use Rattle.pie_checks.specs.declared.built.Built.{Built}
use Rattle.pie_results.specs.inner.Failures.{is_done}
use Rattle.pie_results.specs.inner.Live.{AreLive}

-- a task is done, and its row has the numbers of the tasks that its record requires, in order
pub record IsEnded (names : List Task) (records : Records) (rows : List Row) (n : ℕ) : Type 0 where
  pub rec : TaskRecord
  pub kept : record_of records n ≡ Some rec
  pub done : is_done rec.outcome ≡ true
  pub needs : map (slice_get names) (row_at rows n).needs ≡ map Some (needs rec)

-- each root has a number, and each task that the roots reach has so ended
pub record HaveEnded (names : List Task) (records : Records) (rows : List Row) (roots : List Task) : Type 0 where
  pub named : All (Contains names) roots
  pub ended : (live : List ℕ) → AreLive names roots rows live → (n : ℕ) → Contains live n → IsEnded names records rows n

-- the records stand in the order of a store, few enough, each of a task with a number, and each root has one
pub record CanBeStored (names roots : List Task) (b : Built) : Type 0 where
  pub order : AreInOrder b.rows.items
  pub few : length b.rows.items ≤ 50000
  pub named : All (λ (r : TaskRecord). Contains names r.task) b.rows.items
  pub closed : All (λ (t : Task). Contains (tasks_in b.rows.items) t) roots

-- so it is where this verdict accepts
abbrev pub StoredWhere : Verdict → List Task → List Task → Built → Type 0
StoredWhere Accepted names roots b = CanBeStored names roots b
StoredWhere (Refused r) names roots b = Unit {0}
