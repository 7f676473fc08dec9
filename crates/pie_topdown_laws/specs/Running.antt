-- A task that runs in a build without a list, by its code, its machine and its notes, above those that wait.
use Rattle.std.specs.Prelude.{◌≡◌, ℕ, ◌-◌, ◌<◌, Bool, true, false, List, map, Option, None, Some, slice_get}
use Rattle.pie_base.specs.Path.{is_out}
use Rattle.pie_base.specs.declared.fault.FaultKind.{FaultKind}
use Rattle.pie_base.specs.declared.fault.FaultKind.TheVariants.{Big}
use Rattle.pie_value.specs.declared.task.Task.{Task}
use Rattle.pie_value.specs.declared.value.Value.{Value}
use Rattle.pie_value.specs.declared.event.By.{By}
use Rattle.pie_value.specs.declared.event.Event.{Event}
use Rattle.pie_value.specs.declared.event.Event.TheVariants as events
use Rattle.pie_value.specs.declared.event.How.{How}
use Rattle.pie_value.specs.Values.{tree_of}
use Rattle.pie_value.specs.Limits.{is_small, is_small_task}
use Rattle.pie_value.specs.Canonical.{enc_task, IsCanonicalTask}
use Rattle.pie_operators.specs.Domain.{wants}
use Rattle.pie_code.specs.declared.code.Code.{Code}
use Rattle.pie_vm.specs.Machines.{Standing}
use Rattle.pie_view.specs.Content.{Staged, content}
use Rattle.pie_record.specs.declared.task_record.Outcome.TheVariants.{Done}
use Rattle.pie_record.specs.declared.task_record.TaskRecord.{TaskRecord}
use Rattle.pie_record.specs.inner.Records.{record_of as kept_of}
use Rattle.pie_model.specs.Paths.{among}
use Rattle.pie_model.specs.declared.words.Outcome.TheVariants.{Failed}
use Rattle.pie_model.specs.Trees.{outcome_of}
use Rattle.pie_model.specs.Evaluation.{evaluation}
use Rattle.pie_model.specs.Records.{Record, Observation}
use Rattle.pie_model.specs.inner.Steps.{ChangesAt}
use Rattle.pie_model.specs.inner.Stack.{Frame}
use Rattle.pie_step_laws.specs.Table.{IsTable}
use Rattle.pie_step_laws.specs.Frames.{begun, set_aside}
use Rattle.pie_settle_laws.specs.Going.{Ends, before_wait}
use Rattle.pie_model_pipeline.specs.Words.{effect_of, fault_of, how_of}
use Rattle.pie_model_pipeline.specs.Answers.{answer_of}
use Rattle.pie_model_pipeline.specs.Rows.{record_of}
use Rattle.pie_model_pipeline.specs.World.{world}
use Rattle.pie_builder_laws.specs.Names.{AreTasks}
use Rattle.pie_builder_laws.specs.Tables.{recorded}
use Rattle.pie_builder_laws.specs.Requiring.{of_task, requiring_answer}
use Rattle.pie_running.specs.declared.frame.RunningTask.{RunningTask}
use Rattle.pie_running.specs.declared.frame.Waiting.{Waiting}
use Rattle.pie_running.specs.declared.frame.Caller.{Caller}
use Rattle.pie_running.specs.declared.frame.Paused.{Paused}
use Rattle.pie_running.specs.declared.frame.Paused.TheVariants as pauses
use Rattle.pie_running.specs.declared.frame.Told.{Told}
use Rattle.pie_running.specs.declared.frame.Told.TheVariants as tolds
use Rattle.pie_running.specs.inner.Coded.{HasFunction}
use Rattle.pie_running.specs.inner.Frames.{IsStarted}
use Rattle.pie_running.specs.inner.Noted.{Noted, required}
use Rattle.pie_running.specs.inner.Looks.{IsToldPresence, IsToldSight, IsToldDigest}
use Rattle.pie_running.specs.inner.Sights.{listing_in}
use Rattle.pie_running.specs.inner.Told.{EvaluatedTo, IsTold, IsToldList, IsToldWrite}
use Rattle.pie_core_laws.specs.Update.{present}
use Rattle.pie_task_laws.specs.Sites.{Site, Build, IsThere, IsSound, HaveOutputs}
use Rattle.pie_task_laws.specs.Frames.{IsFrame, IsCaller}
use Rattle.pie_task_laws.specs.Beginning.{calling}
use Rattle.pie_task_laws.specs.Coming.{left_as, EndsRight, Gives}
use Rattle.pie_task_laws.specs.Answering.{HasGiven}
use Rattle.pie_task_laws.specs.Sights.{SeesOut}
use Rattle.pie_topdown_laws.specs.Tables.{EndsIn}
use Rattle.pie_topdown_laws.specs.Stacks.{IsStack}
use Rattle.pie_topdown_laws.specs.Ends.{AreRecorded, AllEntered}
use Rattle.pie_topdown_laws.specs.Ledgers.{setting}
use Rattle.pie_topdown_laws.specs.Places.{Requires}

-- ---- a task that runs

-- a frame is on top of a stack of a build
abbrev pub IsTop : Site → Build → List ℕ → List Frame → Frame → Type 0
IsTop x b root fs f = IsStack (setting x.update) (recorded b.names b.records) (map enc_task b.names) root fs f

-- a task runs above these
pub record RunsAbove (x : Site) (b : Build) (root : List ℕ) (fs : List Frame) (code : Code) (m : Standing) (n : Noted) : Type 0 where
  pub frame : Frame
  pub means : IsFrame x b code m n n.left frame
  pub top : IsTop x b root fs frame

-- it asks this, by its code and in the model
pub record AsksAbove (x : Site) (b : Build) (root : List ℕ) (fs : List Frame) (w : Waiting) (e : Event) : Type 0 where
  pub runs : RunsAbove x b root fs w.code.now w.machine w.notes
  pub asks : (present x.update).next runs.frame.task runs.frame.progress.answers ≡ effect_of e
  pub came : EvaluatedTo w.code.now w.notes.task.args (map answer_of runs.frame.progress.answers) (wants e)

-- it fails by itself: so does the root, by the laws on ends
pub record FailsAbove (x : Site) (b : Build) (root : List ℕ) (fs : List Frame) (t : Task) (k : FaultKind) : Type 0 where
  pub frame : Frame
  pub task : frame.task ≡ enc_task t
  pub top : IsTop x b root fs frame
  pub last : List Observation
  pub ends : Ends world (present x.update) frame last (Failed frame.task (fault_of k))

-- it is done: its record is right, what it staged is what its evaluation wrote first, and with the record it ends in the build
pub record DoneAbove (x : Site) (b : Build) (n : Noted) (v : Value) : Type 0 where
  pub right : EndsRight x b n (Done v)
  pub ends : (S : List ℕ → Option Record) → ChangesAt (recorded b.names b.records) S (enc_task n.task) (record_of (left_as n (Done v)))
      → EndsIn world (present x.update) (recorded b.names b.records) S (map enc_task b.names) (enc_task n.task) (record_of (left_as n (Done v)))

-- ---- it begins, and pauses

-- on top of a stack a task that may begin runs by the code of its function, where nothing is staged of it
abbrev pub TasksBeginAbove : Type 0
TasksBeginAbove =
    (x : Site) (b : Build) (root : List ℕ) (fs : List Frame) (t : Task) (k : ℕ) (f : RunningTask) → slice_get b.names k ≡ Some t
    → HasFunction x.update.functions x.codes t f.code.now → IsStarted f.code.now t k f → ((p : List ℕ) → content b.stage k p ≡ None)
    → IsTop x b root fs (begun world (enc_task t)) → RunsAbove x b root fs f.code.now f.machine f.notes

-- with an output within the limits a task is done
abbrev pub EndsAbove : Site → Build → List ℕ → List Frame → Noted → Value → Bool → Type 0
EndsAbove x b root fs n v true = DoneAbove x b n v
EndsAbove x b root fs n v false = FailsAbove x b root fs n.task Big

-- what comes of it
abbrev pub PausesAbove : Site → Build → List ℕ → List Frame → Paused → Type 0
PausesAbove x b root fs (pauses.Asks w e) = AsksAbove x b root fs w e
PausesAbove x b root fs (pauses.Ends n v) = EndsAbove x b root fs n v (is_small (tree_of v))
PausesAbove x b root fs (pauses.Fails n k) = FailsAbove x b root fs n.task k

-- is what its machine gives
abbrev pub TasksPauseAbove : Type 0
TasksPauseAbove =
    (x : Site) (b : Build) (root : List ℕ) (fs : List Frame) (f : RunningTask) (p : Paused) → among root x.update.roots ≡ true → IsThere x
    → AreTasks b.names → RunsAbove x b root fs f.code.now f.machine f.notes → Gives f p → PausesAbove x b root fs p

-- ---- it is told

-- a task that was told something goes on, or fails
abbrev pub GoesOrFails : Site → Build → List ℕ → List Frame → Task → Told → Type 0
GoesOrFails x b root fs t (tolds.Goes f) = RunsAbove x b root fs f.code.now f.machine f.notes
GoesOrFails x b root fs t (tolds.Fails n k) = FailsAbove x b root fs t k

-- a task looks that required tasks with outputs
pub record LooksAbove (x : Site) (b : Build) (root : List ℕ) (fs : List Frame) (w : Waiting) (e : Event) : Type 0 where
  pub there : IsThere x
  pub sound : IsSound x b
  pub asking : AsksAbove x b root fs w e
  pub left : 0 < w.notes.left
  pub outputs : HaveOutputs b w.notes.needs

-- whether a file is there, its bytes or their hash
abbrev pub PresencesAreTold : Type 0
PresencesAreTold =
    (x : Site) (b : Build) (root : List ℕ) (fs : List Frame) (w : Waiting) (path : List ℕ) (t : Told) → LooksAbove x b root fs w (events.Exists path)
    → IsToldPresence x.update.directory (SeesOut x b w.notes path) w path t → GoesOrFails x b root fs w.notes.task t

abbrev pub ReadingsAreTold : Type 0
ReadingsAreTold =
    (x : Site) (b : Build) (root : List ℕ) (fs : List Frame) (w : Waiting) (path : List ℕ) (by : By) (t : Told)
    → LooksAbove x b root fs w (events.Read path by) → IsToldSight x.update.directory (SeesOut x b w.notes path) w path by t
    → GoesOrFails x b root fs w.notes.task t

abbrev pub DigestsAreTold : Type 0
DigestsAreTold =
    (x : Site) (b : Build) (root : List ℕ) (fs : List Frame) (w : Waiting) (path : List ℕ) (t : Told) → LooksAbove x b root fs w (events.Digest path)
    → IsToldDigest x.update.directory (SeesOut x b w.notes path) w path t → GoesOrFails x b root fs w.notes.task t

-- the entries of a directory
abbrev pub ListingsAreTold : Type 0
ListingsAreTold =
    (x : Site) (b : Build) (root : List ℕ) (fs : List Frame) (w : Waiting) (dir : List ℕ) (t : Told) → AsksAbove x b root fs w (events.List dir)
    → 0 < w.notes.left → IsToldList w dir (listing_in x.update.directory dir) t → GoesOrFails x b root fs w.notes.task t

-- and that it wrote, which is staged
abbrev pub WritesAreTold : Type 0
WritesAreTold =
    (x : Site) (b : Build) (root : List ℕ) (fs : List Frame) (w : Waiting) (path bytes : List ℕ) (later : Staged) (t : Told)
    → AsksAbove x b root fs w (events.Write path bytes) → 0 < w.notes.left → IsToldWrite (is_out path) w b.stage later path bytes t
    → GoesOrFails x (record b { stage = later }) root fs w.notes.task t

-- ---- it requires

-- a task within the limits is required in the model too, and the requirer that is put aside waits for it
pub record RequiresAbove (x : Site) (b : Build) (f : Frame) (w : Waiting) (t : Task) (how : How) : Type 0 where
  pub requires : Requires x.update f (how_of how) (enc_task t)
  pub waits : IsCaller x b (set_aside f (w.notes.left - 1)) (calling w t how)

abbrev pub RequirersWait : Type 0
RequirersWait =
    (x : Site) (b : Build) (root : List ℕ) (fs : List Frame) (w : Waiting) (t : Task) (how : How)
    → (a : AsksAbove x b root fs w (events.Require t how)) → 0 < w.notes.left → is_small_task t ≡ true → IsCanonicalTask t (enc_task t)
    → RequiresAbove x b a.runs.frame w t how

-- one past the limits ends it
abbrev pub BigRequiresFail : Type 0
BigRequiresFail =
    (x : Site) (b : Build) (root : List ℕ) (fs : List Frame) (w : Waiting) (t : Task) (how : How) → AsksAbove x b root fs w (events.Require t how)
    → 0 < w.notes.left → is_small_task t ≡ false → FailsAbove x b root fs w.notes.task Big

-- a task that waited is on top again, and is told the output of the one that it required: it runs on
abbrev pub CallersRunOn : Type 0
CallersRunOn =
    (x : Site) (b : Build) (root : List ℕ) (fs : List Frame) (g : Frame) (c : Caller) (k : ℕ) (rec : TaskRecord) (v : Value) (height : ℕ)
    (f : RunningTask) → AreTasks b.names → IsTable world (present x.update) (recorded b.names b.records) (map enc_task b.names)
    → IsTop x b root fs (before_wait g) → IsCaller x b g c → slice_get b.names k ≡ Some c.required → kept_of b.records k ≡ Some rec → HasGiven rec v
    → IsTold c.waiting f (required (of_task c.how c.required v) k height c.waiting.notes) (requiring_answer c.how v)
    → RunsAbove x b root fs f.code.now f.machine f.notes

-- ---- it fails

-- a failure is the root's
abbrev pub FailuresAreTheRoots : Type 0
FailuresAreTheRoots =
    (x : Site) (b : Build) (root : List ℕ) (fs : List Frame) (t : Task) (k : FaultKind) → FailsAbove x b root fs t k
    → outcome_of (evaluation world (present x.update) root) ≡ Failed (enc_task t) (fault_of k)

-- which then enters no task that wasn't entered
abbrev pub FailuresEnterNothing : Type 0
FailuresEnterNothing =
    (x : Site) (b : Build) (done : List (List ℕ)) (root : List ℕ) (fs : List Frame) (t : Task) (k : FaultKind)
    → IsTable world (present x.update) (recorded b.names b.records) (map enc_task b.names) → AreRecorded (recorded b.names b.records) done
    → FailsAbove x b root fs t k → AllEntered (setting x.update) done root (map enc_task b.names)
