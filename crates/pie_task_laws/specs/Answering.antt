-- Tasks that waited, once the one that they require is settled.
use Rattle.std.specs.Prelude.{◌≡◌, ℕ, ◌<◌, false, List, ◌∷◌, Some}
use Rattle.pie_base.specs.declared.fault.FaultKind.TheVariants.{Big}
use Rattle.pie_value.specs.declared.task.Task.{Task}
use Rattle.pie_value.specs.declared.value.Value.{Value}
use Rattle.pie_value.specs.declared.stamp.Stamp.TheVariants as stamps
use Rattle.pie_value.specs.declared.event.Event.TheVariants as events
use Rattle.pie_value.specs.declared.event.How.{How}
use Rattle.pie_value.specs.Limits.{is_small_task}
use Rattle.pie_value.specs.Values.{tree_of}
use Rattle.pie_value.specs.Canonical.{enc, IsCanonical}
use Rattle.pie_record.specs.declared.dep.Dep.{Dep}
use Rattle.pie_record.specs.declared.dep.DepOn.TheVariants.{Called}
use Rattle.pie_record.specs.declared.task_record.Outcome.TheVariants.{Done}
use Rattle.pie_record.specs.declared.task_record.TaskRecord.{TaskRecord}
use Rattle.pie_record.specs.inner.Records.{record_of as kept_of}
use Rattle.pie_walk.specs.Marks.{IsSettled}
use Rattle.pie_model.specs.Trees.{is_done as ends_well}
use Rattle.pie_model_pipeline.specs.Rows.{record_of}
use Rattle.pie_builder_laws.specs.Requiring.{of_task, requiring_kind, requiring_answer}
use Rattle.pie_running.specs.declared.frame.RunningTask.{RunningTask}
use Rattle.pie_running.specs.declared.frame.Waiting.{Waiting}
use Rattle.pie_running.specs.declared.frame.Caller.{Caller}
use Rattle.pie_running.specs.inner.Noted.{required, observed}
use Rattle.pie_running.specs.inner.Told.{IsTold}
use Rattle.pie_task_laws.specs.Sites.{Site, Build, IsSound}
use Rattle.pie_task_laws.specs.Going.{Wait, Runs}
use Rattle.pie_task_laws.specs.Coming.{IsAsking, EndsRight, failed_by}

-- the newest task waits for one that is settled, with this record
pub record HasSettled (x : Site) (b : Build) (c : Caller) (cs : List Caller) (k : ℕ) (rec : TaskRecord) : Type 0 where
  pub sound : IsSound x b
  pub wait : Wait x b (c ∷ cs)
  pub settled : IsSettled b.walk.marks k
  pub kept : kept_of b.records k ≡ Some rec
  pub task : rec.task ≡ c.required

-- its output has canonical bytes
pub record HasGiven (rec : TaskRecord) (v : Value) : Type 0 where
  pub outcome : rec.outcome ≡ Done v
  pub canonical : IsCanonical (tree_of v) (enc (tree_of v))

-- the newest that waits is told the output, and runs on
abbrev pub CallersRunOn : Type 0
CallersRunOn =
    (x : Site) (b : Build) (c : Caller) (cs : List Caller) (k : ℕ) (rec : TaskRecord) (v : Value) (height : ℕ) (f : RunningTask)
    → HasSettled x b c cs k rec → HasGiven rec v
    → IsTold c.waiting f (required (of_task c.how c.required v) k height c.waiting.notes) (requiring_answer c.how v)
    → Runs x b cs f.code.now f.machine f.notes

-- the observation of a required task that gave no output
abbrev pub lost_task : How → Task → Dep
lost_task how t = record { kind = requiring_kind how; what = Called t; stamp = stamps.Absent }

-- where there is none it ends as that one did, which it observed
abbrev pub CallersEnd : Type 0
CallersEnd =
    (x : Site) (b : Build) (c : Caller) (cs : List Caller) (k : ℕ) (rec : TaskRecord) → HasSettled x b c cs k rec
    → ends_well (record_of rec).outcome ≡ false
    → EndsRight x b (observed (lost_task c.how c.required) c.waiting.notes) rec.outcome

-- a task that requires one past the limits fails
abbrev pub BigRequiresFail : Type 0
BigRequiresFail =
    (x : Site) (b : Build) (cs : List Caller) (w : Waiting) (t : Task) (how : How) → IsAsking x b cs w (events.Require t how) → 0 < w.notes.left
    → is_small_task t ≡ false → EndsRight x b w.notes (failed_by w.notes Big)
