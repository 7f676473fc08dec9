-- The tasks that run, and how each ends: with a record that is right.
use Rattle.std.specs.Prelude.{◌≡◌, ℕ, suc, ◌<◌, true, false, List, [], ◌∷◌, ◌++◌, map, length, None, Some, slice_get}
use Rattle.pie_base.specs.declared.fault.FaultKind.TheVariants.{Unknown}
use Rattle.pie_value.specs.declared.task.Task.{Task}
use Rattle.pie_value.specs.Canonical.{enc_task, IsCanonicalTask}
use Rattle.pie_types.specs.Whole.{number_from}
use Rattle.pie_record.specs.declared.records.Records.{Records}
use Rattle.pie_record.specs.declared.task_record.Outcome.TheVariants.{Failed}
use Rattle.pie_record.specs.declared.task_record.TaskRecord.{TaskRecord}
use Rattle.pie_record.specs.inner.Records.{record_of as kept_of}
use Rattle.pie_walk.specs.Marks.{mark_of, IsSettled}
use Rattle.pie_walk.specs.States.{WalkState}
use Rattle.pie_walk.specs.Standing.{Stands}
use Rattle.pie_model.specs.Paths.{among}
use Rattle.pie_model.specs.declared.words.How.{How}
use Rattle.pie_model.specs.declared.words.Event.TheVariants.{Require}
use Rattle.pie_model.specs.declared.words.Outcome.{Outcome}
use Rattle.pie_model.specs.declared.words.Outcome.TheVariants.{Ended}
use Rattle.pie_model.specs.Trees.{is_done as ends_well, is_plain}
use Rattle.pie_model.specs.Records.{Record, Absent, Required, Observation, observed, hashed}
use Rattle.pie_model.specs.Changes.{IsBase}
use Rattle.pie_model.specs.inner.RecordLaws.{Passes}
use Rattle.pie_model.specs.inner.Stack.{Frame, tasks_of}
use Rattle.pie_step_laws.specs.Frames.{begun, was_answered, set_aside}
use Rattle.pie_settle_laws.specs.Known.{AreCounted}
use Rattle.pie_settle_laws.specs.Going.{IsGoing, AreBusy, HasLeft}
use Rattle.pie_model_pipeline.specs.Rows.{record_of}
use Rattle.pie_model_pipeline.specs.World.{world}
use Rattle.pie_builder_laws.specs.Tables.{recorded}
use Rattle.pie_core_laws.specs.Update.{Update, IsUpdate, earlier, present}
use Rattle.pie_core_laws.specs.Exact.{runs, busy_by, IsExact}
use Rattle.pie_core_laws.specs.Comparing.{IsOld}
use Rattle.pie_core_laws.specs.Keeping.{Separates}
use Rattle.pie_core_laws.specs.Finishing.{IsRight}

-- a task of this name was taken, and goes on or waits
pub record IsRunningTask (names : List Task) (s : WalkState) (x : List ℕ) : Type 0 where
  pub number : ℕ
  pub task : Task
  pub named : slice_get names number ≡ Some task
  pub bytes : x ≡ enc_task task
  pub ran : runs (mark_of s.marks number) ≡ true

-- each of these was
abbrev pub AreRunning : List Task → WalkState → List (List ℕ) → Type 0
AreRunning names s ts = (x : List ℕ) → among x ts ≡ true → IsRunningTask names s x

-- a frame goes on in a build, above the new tasks that wait for it
abbrev pub GoesIn : Update → List Task → Records → WalkState → List ℕ → List Frame → Frame → Type 0
GoesIn u names records s base fs f = IsGoing world (present u) (recorded names records) (Passes (busy_by names s)) base fs f

-- an old live task, or a present root
abbrev pub IsBaseOf : Update → List ℕ → Type 0
IsBaseOf u = IsBase world (earlier u) u.old_roots u.roots

-- ---- counts

-- running tasks are busy and counted, and so are recorded ones
abbrev pub RunningTasksAreBusy : Type 0
RunningTasksAreBusy =
    (u : Update) (names : List Task) (records : Records) (s : WalkState) (ts : List (List ℕ)) → IsExact u names records s → AreRunning names s ts
    → AreBusy (Passes (busy_by names s)) (map enc_task names) ts

abbrev pub RecordedTasksAreCounted : Type 0
RecordedTasksAreCounted =
    (u : Update) (names : List Task) (records : Records) (s : WalkState) → IsExact u names records s → Stands s → Separates u
    → AreCounted world (recorded names records) (map enc_task names)

-- ---- requires

-- a new task that is required begins above its requirer
abbrev pub RequiredTasksBegin : Type 0
RequiredTasksBegin =
    (u : Update) (names : List Task) (records : Records) (s : WalkState) (base : List ℕ) (fs : List Frame) (f : Frame) (n : ℕ) (h : How) (t : Task)
    → IsExact u names records s → AreRunning names s (tasks_of (f ∷ fs)) → GoesIn u names records s base fs f → f.left ≡ suc n
    → (present u).next f.task f.progress.answers ≡ Require h (enc_task t) → among (enc_task t) (map enc_task names) ≡ false → length names < 50000
    → GoesIn u names records s base (set_aside f n ∷ fs) (begun world (enc_task t))

-- a settled task that ended with a value answers its requirer
abbrev pub SettledTasksAnswer : Type 0
SettledTasksAnswer =
    (u : Update) (names : List Task) (records : Records) (s : WalkState) (base : List ℕ) (fs : List Frame) (f : Frame) (n : ℕ) (h : How) (k : ℕ)
    (rec : TaskRecord) (v : List ℕ) → IsExact u names records s → Stands s → Separates u → AreRunning names s (tasks_of (f ∷ fs))
    → GoesIn u names records s base fs f → f.left ≡ suc n → (present u).next f.task f.progress.answers ≡ Require h (enc_task rec.task)
    → IsSettled s.marks k → kept_of records k ≡ Some rec → (record_of rec).outcome ≡ Ended v
    → GoesIn u names records s base fs (was_answered world (present u) f n h (enc_task rec.task) v)

-- and one that ended with no value ends it
abbrev pub SettledTasksStop : Type 0
SettledTasksStop =
    (u : Update) (names : List Task) (records : Records) (s : WalkState) (base : List ℕ) (fs : List Frame) (f : Frame) (n : ℕ) (h : How) (k : ℕ)
    (rec : TaskRecord) → IsExact u names records s → Stands s → Separates u → AreRunning names s (tasks_of (f ∷ fs))
    → GoesIn u names records s base fs f → f.left ≡ suc n → (present u).next f.task f.progress.answers ≡ Require h (enc_task rec.task)
    → IsSettled s.marks k → kept_of records k ≡ Some rec → ends_well (record_of rec).outcome ≡ false
    → HasLeft world (present u) base f (observed (Required h (enc_task rec.task)) Absent ∷ []) (record_of rec).outcome

-- ---- ends

-- the record that a frame leaves which observed this last and ends so
abbrev pub left_record : Frame → List Observation → Outcome → Record
left_record f last e = record { task = f.task; observations = f.seen ++ last; writes = hashed world f.progress.own; outcome = e }

-- a task that ends with it, above an old live task or a present root, is right
abbrev pub EndedTasksAreRight : Type 0
EndedTasksAreRight =
    (u : Update) (base : List ℕ) (f : Frame) (last : List Observation) (e : Outcome) (rec : TaskRecord) → IsBaseOf u base
    → HasLeft world (present u) base f last e → is_plain e ≡ true → record_of rec ≡ left_record f last e → IsRight u rec

-- and so is an old task without a function, which fails without having run
abbrev pub LostTasksAreRight : Type 0
LostTasksAreRight =
    (u : Update) (t : Task) (rec : TaskRecord) → IsBaseOf u (enc_task t) → IsCanonicalTask t (enc_task t) → number_from 0 u.functions t ≡ None
    → rec ≡ record { task = t; deps = []; writes = []; outcome = Failed (record { task = t; kind = Unknown }) } → IsRight u rec

-- an old record is that of an old live task
abbrev pub OldTasksAreBases : Type 0
OldTasksAreBases = (u : Update) (rec : TaskRecord) → IsUpdate u → IsOld u rec → IsBaseOf u (enc_task rec.task)
