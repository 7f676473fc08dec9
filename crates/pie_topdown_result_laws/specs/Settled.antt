-- The tables of a build without a list, once its roots are settled: those of an exact build in which no task is busy.
use Rattle.std.specs.Prelude.{◌≡◌, ℕ, ◌<◌, true, false, List, [], length, map, replicate, Some, slice_get, Contains}
use Rattle.pie_value.specs.declared.task.Task.{Task}
use Rattle.pie_value.specs.Canonical.{enc_task}
use Rattle.pie_graph.specs.Rows.{Row, row_at}
use Rattle.pie_order.specs.Places.{PlacesAgree}
use Rattle.pie_record.specs.declared.records.Records.{Records}
use Rattle.pie_record.specs.declared.task_record.TaskRecord.{TaskRecord}
use Rattle.pie_record.specs.inner.Records.{record_of as kept_of}
use Rattle.pie_walk.specs.declared.marks.Mark.TheVariants.{Settled}
use Rattle.pie_walk.specs.States.{WalkState}
use Rattle.pie_walk.specs.Standing.{Stands}
use Rattle.pie_model.specs.Paths.{among}
use Rattle.pie_model.specs.Trees.{HasTask}
use Rattle.pie_model.specs.Evaluation.{evaluation}
use Rattle.pie_step_laws.specs.Table.{IsTable}
use Rattle.pie_model_pipeline.specs.World.{world}
use Rattle.pie_builder_laws.specs.Names.{AreTasks}
use Rattle.pie_builder_laws.specs.Tables.{recorded}
use Rattle.pie_builder_laws.specs.Views.{RowIs}
use Rattle.pie_core_laws.specs.Update.{Update, present}
use Rattle.pie_core_laws.specs.Exact.{IsExact}

-- the state of a walk with these rows and places in which each task is settled
abbrev pub all_settled : List Row → List ℕ → WalkState
all_settled rows places = record {
  rows = rows;
  places = places;
  marks = replicate (length rows) Settled;
  scheduled = replicate (length rows) false;
  looks_out = replicate (length rows) false;
  swept = replicate (length rows) false;
  stack = [];
}

-- a task stands in the evaluation of a present root
pub record StandsUnderRoot (u : Update) (x : List ℕ) : Type 0 where
  pub from : List ℕ
  pub listed : among from u.roots ≡ true
  pub stands : HasTask x (evaluation world (present u) from)

-- a root was entered and has ended
pub record IsEndedRoot (names : List Task) (records : Records) (root : Task) : Type 0 where
  pub number : ℕ
  pub named : slice_get names number ≡ Some root
  pub rec : TaskRecord
  pub kept : kept_of records number ≡ Some rec

-- each entered task has ended with a value: with the record of its evaluation now, and a row by that; these roots are those of now and among them, and each
-- of them stands in the evaluation of one
pub record AreSettledTables (u : Update) (names : List Task) (records : Records) (rows : List Row) (places : List ℕ) (roots : List Task) : Type 0 where
  -- distinct tasks, each with a record of its own
  pub tasks : AreTasks names
  pub named : (n : ℕ) (rec : TaskRecord) → kept_of records n ≡ Some rec → slice_get names n ≡ Some rec.task
  pub whole : (n : ℕ) → n < length names → (rec : TaskRecord) × (kept_of records n ≡ Some rec)
  -- a row for each, and each required task at a place before
  pub as_many : length rows ≡ length names
  pub rows_are : (n : ℕ) (rec : TaskRecord) → kept_of records n ≡ Some rec → RowIs names (row_at rows n) (Some rec)
  pub agree : PlacesAgree rows places
  -- the records are right
  pub table : IsTable world (present u) (recorded names records) (map enc_task names)
  pub are_roots : map enc_task roots ≡ u.roots
  pub ended : (r : Task) → Contains roots r → IsEndedRoot names records r
  pub stand : (x : List ℕ) → among x (map enc_task names) ≡ true → StandsUnderRoot u x

-- such tables are those of an exact build
abbrev pub SettledTablesAreExact : Type 0
SettledTablesAreExact =
    (u : Update) (names : List Task) (records : Records) (rows : List Row) (places : List ℕ) (roots : List Task)
    → AreSettledTables u names records rows places roots → IsExact u names records (all_settled rows places) × Stands (all_settled rows places)
