-- A task that was taken ends: with the record of its evaluation.
use Rattle.std.specs.Prelude.{◌≡◌, ◌⊎◌, ℕ, true, List, Some, slice_get, Contains}
use Rattle.pie_value.specs.declared.task.Task.{Task}
use Rattle.pie_value.specs.Canonical.{enc_task}
use Rattle.pie_graph.specs.Numbers.{IsMarked}
use Rattle.pie_graph.specs.Rows.{Row, Calls}
use Rattle.pie_reach.specs.inner.Reaches.{Reaches}
use Rattle.pie_record.specs.declared.records.Records.{Records}
use Rattle.pie_record.specs.declared.task_record.TaskRecord.{TaskRecord}
use Rattle.pie_record.specs.inner.Records.{record_of as kept_of, Puts}
use Rattle.pie_walk.specs.Marks.{mark_of, IsSettled, IsIdle}
use Rattle.pie_walk.specs.States.{WalkState, with_row, settled}
use Rattle.pie_walk.specs.Standing.{Stands}
use Rattle.pie_model.specs.Trees.{trace_of, is_plain}
use Rattle.pie_model.specs.Evaluation.{evaluation}
use Rattle.pie_model.specs.Records.{record_of as model_record}
use Rattle.pie_model.specs.Separate.{AllMet}
use Rattle.pie_model.specs.inner.Consistent.{IsSettled as IsSettledTask}
use Rattle.pie_model.specs.inner.Steps.{SameShape}
use Rattle.pie_model.specs.inner.RecordLaws.{Passes}
use Rattle.pie_model_pipeline.specs.Rows.{record_of}
use Rattle.pie_model_pipeline.specs.World.{world}
use Rattle.pie_builder_laws.specs.Tables.{recorded}
use Rattle.pie_builder_laws.specs.Views.{RowIs}
use Rattle.pie_core_laws.specs.Update.{Update, IsUpdate, MetIn, present}
use Rattle.pie_core_laws.specs.Exact.{runs, busy_by, IsExact}

-- a record is that of the evaluation now of its task, which ended with a value or by a fault, and what it observes is met
pub record IsRight (u : Update) (rec : TaskRecord) : Type 0 where
  pub is : record_of rec ≡ model_record world (evaluation world (present u) (enc_task rec.task))
  pub plain : is_plain (record_of rec).outcome ≡ true
  pub met : AllMet world (MetIn u) (trace_of (evaluation world (present u) (enc_task rec.task)))

-- a task has ended with the outcome of its old record, or each task that requires it and was neither taken nor settled is scheduled
abbrev pub TellsCallers : WalkState → ℕ → TaskRecord → TaskRecord → Type 0
TellsCallers s which old new =
    ((record_of old).outcome ≡ (record_of new).outcome) ⊎ ((k : ℕ) → Calls s.rows k which → IsIdle s.marks k → IsMarked s.scheduled k)

-- a task has ended with the requires and the writes of its old record, or it is swept
abbrev pub TellsOthers : WalkState → ℕ → TaskRecord → TaskRecord → Type 0
TellsOthers s which old new = SameShape (record_of old) (record_of new) ⊎ IsMarked s.swept which

-- a running task is settled with this row; more tasks are scheduled, those that reach it, and it is told to those that it concerns
pub record Finishes (records : Records) (s after : WalkState) (which : ℕ) (row : Row) (rec : TaskRecord) : Type 0 where
  pub ran : runs (mark_of s.marks which) ≡ true
  pub same : after ≡ record (settled (with_row s which row) which) { scheduled = after.scheduled; swept = after.swept }
  pub kept : (k : ℕ) → IsMarked s.scheduled k → IsMarked after.scheduled k
  pub only : (k : ℕ) → IsMarked after.scheduled k → IsMarked s.scheduled k ⊎ Reaches after.rows k which
  pub callers : (old : TaskRecord) → kept_of records which ≡ Some old → TellsCallers after which old rec
  pub others : (old : TaskRecord) → kept_of records which ≡ Some old → TellsOthers after which old rec

-- a build is exact after a step, and what was settled in the model is settled
pub record StaysExact (u : Update) (names : List Task) (records : Records) (s : WalkState) (more : List Task) (others : Records) (after : WalkState) : Type 0
  where
    pub exact : IsExact u more others after
    pub settles : (x : List ℕ) → IsSettledTask (recorded names records) (Passes (busy_by names s)) x
        → IsSettledTask (recorded more others) (Passes (busy_by more after)) x

-- a finish leaves a build exact
abbrev pub FinishesStayExact : Type 0
FinishesStayExact =
    (u : Update) (names : List Task) (records changed : Records) (s after : WalkState) (which : ℕ) (row : Row) (rec : TaskRecord)
    → IsUpdate u → IsExact u names records s → Stands s → Stands after → Puts records changed which rec → slice_get names which ≡ Some rec.task → IsRight u rec
    → RowIs names row (Some rec) → ((k : ℕ) → Contains row.needs k → IsSettled s.marks k) → Finishes records s after which row rec
    → StaysExact u names records s names changed after
