-- The beginning: the records of the earlier build, and which of its tasks the first test schedules.
use Rattle.std.specs.Prelude.{◌≡◌, ℕ, ◌≤◌, false, List, length, Some, slice_get, slice_index_or}
use Rattle.pie_value.specs.declared.task.Task.{Task}
use Rattle.pie_value.specs.Canonical.{enc_task}
use Rattle.pie_graph.specs.Rows.{row_at}
use Rattle.pie_order.specs.Places.{PlacesAgree}
use Rattle.pie_record.specs.declared.records.Records.{Records}
use Rattle.pie_record.specs.declared.task_record.TaskRecord.{TaskRecord}
use Rattle.pie_record.specs.Canonical.{IsStorable}
use Rattle.pie_record.specs.inner.Records.{record_of as kept_of}
use Rattle.pie_named.specs.declared.named.Named.{Named}
use Rattle.pie_compare.specs.inner.Touching.{IsTouched}
use Rattle.pie_walk.specs.declared.marks.Mark.TheVariants.{New}
use Rattle.pie_walk.specs.Marks.{mark_of}
use Rattle.pie_walk.specs.States.{WalkState}
use Rattle.pie_model.specs.inner.Steps.{Each, LooksElsewhere}
use Rattle.pie_model_pipeline.specs.Rows.{record_of}
use Rattle.pie_model_pipeline.specs.World.{next}
use Rattle.pie_builder_laws.specs.Names.{AreTasks}
use Rattle.pie_builder_laws.specs.Tables.{recorded}
use Rattle.pie_builder_laws.specs.Views.{RowIs}
use Rattle.pie_core_laws.specs.Update.{Update, IsUpdate, IsInformed, old_record}
use Rattle.pie_core_laws.specs.Exact.{IsExact}

-- the tasks of the earlier build by their numbers, with their records, their rows, and the flags of those that looked under `out`; no task was met
pub record IsLoaded (u : Update) (names : List Task) (records : Records) (s : WalkState) : Type 0 where
  pub tasks : AreTasks names
  pub few : length names ≤ 50000
  pub as_many : length s.rows ≡ length names
  pub named : (n : ℕ) (rec : TaskRecord) → kept_of records n ≡ Some rec → slice_get names n ≡ Some rec.task
  pub whole : (n : ℕ) (t : Task) → slice_get names n ≡ Some t → (rec : TaskRecord) × (kept_of records n ≡ Some rec)
  pub old : (x : List ℕ) → recorded names records x ≡ old_record u x
  pub storable : (n : ℕ) (rec : TaskRecord) → kept_of records n ≡ Some rec → IsStorable rec
  pub rows : (n : ℕ) (rec : TaskRecord) → kept_of records n ≡ Some rec → RowIs names (row_at s.rows n) (Some rec)
  pub looks : (n : ℕ) (rec : TaskRecord) → kept_of records n ≡ Some rec → slice_index_or s.looks_out n false ≡ false
      → Each LooksElsewhere (record_of rec).observations
  pub unmet : (n : ℕ) → mark_of s.marks n ≡ New

-- a task was tested: it means the same now, and nothing that it observed of named sources or wrote at named paths is another now
pub record IsTestedTask (u : Update) (n : Named) (rec : TaskRecord) : Type 0 where
  pub meaning : next u.old_functions (enc_task rec.task) ≡ next u.functions (enc_task rec.task)
  pub untouched : IsTouched u.directory n rec → ⊥

-- a build begins exact, where each task that isn't scheduled was tested
abbrev pub BuildsBeginExact : Type 0
BuildsBeginExact =
    (u : Update) (names : List Task) (records : Records) (s : WalkState) (n : Named) → IsUpdate u → IsInformed u n → IsLoaded u names records s
    → PlacesAgree s.rows s.places
    → ((k : ℕ) (rec : TaskRecord) → kept_of records k ≡ Some rec → slice_index_or s.scheduled k false ≡ false → IsTestedTask u n rec)
    → IsExact u names records s
