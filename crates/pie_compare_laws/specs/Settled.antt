-- Tasks by their numbers, with their records and their rows, some of them settled.
use Rattle.std.specs.Prelude.{◌≡◌, ℕ, Bool, true, List, Some, slice_get}
use Rattle.pie_value.specs.declared.task.Task.{Task}
use Rattle.pie_graph.specs.Rows.{Row, row_at, Calls}
use Rattle.pie_record.specs.declared.records.Records.{Records}
use Rattle.pie_record.specs.declared.task_record.TaskRecord.{TaskRecord}
use Rattle.pie_record.specs.inner.Records.{record_of as kept_of}
use Rattle.pie_model.specs.Paths.{Path}
use Rattle.pie_model.specs.StampNow.{Told}
use Rattle.pie_model.specs.inner.CoreLaws.{TellsRight}
use Rattle.pie_builder_laws.specs.Names.{AreTasks}
use Rattle.pie_builder_laws.specs.Tables.{recorded}
use Rattle.pie_builder_laws.specs.Views.{RowIs}

-- the task with this number has this record and its row, and what it requires is settled
pub record RestsOn (names : List Task) (records : Records) (rows : List Row) (settled : ℕ → Bool) (n : ℕ) (rec : TaskRecord) : Type 0 where
  pub named : slice_get names n ≡ Some rec.task
  pub kept : kept_of records n ≡ Some rec
  pub row : RowIs names (row_at rows n) (Some rec)
  pub ready : (k : ℕ) → Calls rows n k → settled k ≡ true

-- each settled task has a record and its row, and requires settled tasks
abbrev pub AreSettled : List Task → Records → List Row → (ℕ → Bool) → Type 0
AreSettled names records rows settled = (n : ℕ) → settled n ≡ true → (rec : TaskRecord) × RestsOn names records rows settled n rec

-- distinct tasks, the settled ones with the rows of their records; and what is told of paths is told by the records
pub record ArePresent (names : List Task) (records : Records) (rows : List Row) (settled : ℕ → Bool) (told : List (List ℕ) → Path → Told) : Type 0 where
  pub tasks : AreTasks names
  pub settled_rows : AreSettled names records rows settled
  pub telling : TellsRight (recorded names records) told
