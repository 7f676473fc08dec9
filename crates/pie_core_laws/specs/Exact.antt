-- A build by what changed between two steps, as far as the model knows it: its tasks by their numbers, their records, and the state of its walk.
use Rattle.std.specs.Prelude.{◌≡◌, ◌||◌, ℕ, ◌<◌, Bool, true, false, List, map, length, Some, None, slice_get, slice_index, slice_index_or, Contains}
use Rattle.pie_value.specs.declared.task.Task.{Task}
use Rattle.pie_value.specs.Canonical.{enc_task}
use Rattle.pie_graph.specs.Rows.{row_at, Calls}
use Rattle.pie_record.specs.declared.records.Records.{Records}
use Rattle.pie_record.specs.declared.task_record.TaskRecord.{TaskRecord}
use Rattle.pie_record.specs.inner.Records.{record_of as kept_of}
use Rattle.pie_walk.specs.declared.marks.Mark.{Mark}
use Rattle.pie_walk.specs.declared.marks.Mark.TheVariants.{New, Visited, Runs, Settled}
use Rattle.pie_walk.specs.Marks.{mark_of, IsSettled}
use Rattle.pie_walk.specs.States.{WalkState}
use Rattle.pie_model.specs.Paths.{Path}
use Rattle.pie_model.specs.StampNow.{Told}
use Rattle.pie_model.specs.inner.Steps.{Each, LooksElsewhere}
use Rattle.pie_model.specs.inner.Consistent.{IsConsistent}
use Rattle.pie_model.specs.inner.CoreLaws.{TellsRight}
use Rattle.pie_model.specs.inner.RecordLaws.{Passes}
use Rattle.pie_model_pipeline.specs.Rows.{record_of}
use Rattle.pie_model_pipeline.specs.World.{world}
use Rattle.pie_builder_laws.specs.Names.{AreTasks, under_name, called_in}
use Rattle.pie_builder_laws.specs.Tables.{recorded}
use Rattle.pie_builder_laws.specs.Views.{RowIs}
use Rattle.pie_core_laws.specs.Update.{Update, MetIn, earlier, present}
use Rattle.pie_core_laws.specs.Comparing.{IsOld}

-- ---- tasks by their canonical bytes

-- the place of a task in the order
abbrev pub rank_by : List Task → List ℕ → List ℕ → ℕ
rank_by names places = under_name 0 (slice_index places) 0 names

abbrev pub runs : Mark → Bool
runs New = false
runs Visited = false
runs Runs = true
runs Settled = false

abbrev pub has_ended : Mark → Bool
has_ended New = false
has_ended Visited = false
has_ended Runs = false
has_ended Settled = true

-- a task is settled
abbrev pub is_done : WalkState → ℕ → Bool
is_done s n = has_ended (mark_of s.marks n)

-- a task is busy: it is scheduled, or was taken and goes on or waits
abbrev pub is_busy : WalkState → ℕ → Bool
is_busy s n = slice_index_or s.scheduled n false || runs (mark_of s.marks n)

-- the same of a task by its canonical bytes
abbrev pub busy_by : List Task → WalkState → List ℕ → Bool
busy_by names s = under_name false (is_busy s) 0 names

-- the present records are consistent, by whatever is told rightly of paths
abbrev pub AreConsistent : Update → List Task → Records → WalkState → Type 0
AreConsistent u names records s =
    (told : List (List ℕ) → Path → Told) → TellsRight (recorded names records) told
    → IsConsistent world (earlier u) (present u) (MetIn u) (recorded names records) told (map enc_task names) (rank_by names s.places)
    (Passes (busy_by names s))

-- ---- what holds between two steps

-- a task is required by the row of another, and settled
pub record RestsOnIn (names : List Task) (s : WalkState) (n : ℕ) (v : Task) : Type 0 where
  pub number : ℕ
  pub named : slice_get names number ≡ Some v
  pub called : Calls s.rows n number
  pub settled : IsSettled s.marks number

pub record IsExact (u : Update) (names : List Task) (records : Records) (s : WalkState) : Type 0 where
  -- distinct tasks, with a row for each, and records of theirs
  pub tasks : AreTasks names
  pub as_many : length s.rows ≡ length names
  pub named : (n : ℕ) (rec : TaskRecord) → kept_of records n ≡ Some rec → slice_get names n ≡ Some rec.task
  -- a settled task has a record, and one without a record is busy
  pub ended : (n : ℕ) → IsSettled s.marks n → (rec : TaskRecord) × (kept_of records n ≡ Some rec)
  pub fresh : (n : ℕ) → n < length names → kept_of records n ≡ None → is_busy s n ≡ true
  -- a task that doesn't run has the row of its record, and one that runs also requires what its old record does, which is settled
  pub rows : (n : ℕ) (rec : TaskRecord) → kept_of records n ≡ Some rec → runs (mark_of s.marks n) ≡ false → RowIs names (row_at s.rows n) (Some rec)
  pub running : (n : ℕ) (rec : TaskRecord) (v : Task) → kept_of records n ≡ Some rec → runs (mark_of s.marks n) ≡ true
      → Contains (called_in rec.deps) v → RestsOnIn names s n v
  -- a task that isn't settled has its old record, and looked at a path under `out` only if its flag says so
  pub old : (n : ℕ) (rec : TaskRecord) → kept_of records n ≡ Some rec → (IsSettled s.marks n → ⊥) → IsOld u rec
  pub looks : (n : ℕ) (rec : TaskRecord) → kept_of records n ≡ Some rec → (IsSettled s.marks n → ⊥) → slice_index_or s.looks_out n false ≡ false
      → Each LooksElsewhere (record_of rec).observations
  pub consistent : AreConsistent u names records s
