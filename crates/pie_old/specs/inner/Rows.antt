-- The rows of records.
use Rattle.std.specs.Prelude.{◌≡◌, ℕ, List, [], length, map, Some, slice_get}
use Rattle.std.specs.List.{All, Contains}
use Rattle.pie_value.specs.declared.task.Task.{Task}
use Rattle.pie_graph.specs.declared.edges.TaskNo.{TaskNo}
use Rattle.pie_graph.specs.Numbers.{numbers}
use Rattle.pie_graph.specs.Rows.{Row, row_at}
use Rattle.pie_record.specs.declared.task_record.TaskRecord.{TaskRecord}
use Rattle.pie_store.specs.Canonical.{needs}
pub use Rattle.pie_store.specs.inner.Ties.{needs_in, tasks_at, named_by}

-- the paths of writes, in order
abbrev pub paths_in : List (List ℕ × List ℕ) → List (List ℕ)
paths_in writes = map (λ (w : List ℕ × List ℕ). w.0) writes

-- each task that a record requires is among these
abbrev pub AreNamed : List Task → TaskRecord → Type 0
AreNamed tasks r = All (Contains tasks) (needs r)

-- the row of these numbers and of the paths that a record wrote
abbrev pub row_with : List TaskNo → TaskRecord → Row
row_with nos r = record { needs = numbers nos; reads = []; lists = []; writes = paths_in r.writes }

-- the row of a record: the numbers of the tasks that it requires, in order and with repeats, and the paths that it wrote, in order
pub record IsRowOf (tasks : List Task) (r : TaskRecord) (row : Row) : Type 0 where
  pub needs : tasks_at tasks row.needs ≡ map Some (needs r)
  pub reads : row.reads ≡ []
  pub lists : row.lists ≡ []
  pub writes : row.writes ≡ paths_in r.writes

-- a row for each record
pub record AreRowsOf (tasks : List Task) (records : List TaskRecord) (rows : List Row) : Type 0 where
  pub as_many : length rows ≡ length records
  pub each : (n : ℕ) (r : TaskRecord) → slice_get records n ≡ Some r → IsRowOf tasks r (row_at rows n)
