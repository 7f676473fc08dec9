-- What waits on the stack of a build without a list, as the builder has it, and that it stays while the build goes on.
use Rattle.std.specs.Prelude.{◌≡◌, ℕ, true, List, [], ◌∷◌, ◌++◌, map, length, None, Some, slice_get}
use Rattle.pie_value.specs.declared.task.Task.{Task}
use Rattle.pie_value.specs.Canonical.{enc_task}
use Rattle.pie_code.specs.declared.code.Code.{Code}
use Rattle.pie_vm.specs.Machines.{Standing}
use Rattle.pie_view.specs.Content.{Staged, content}
use Rattle.pie_record.specs.declared.records.Records.{Records}
use Rattle.pie_record.specs.declared.task_record.TaskRecord.{TaskRecord}
use Rattle.pie_record.specs.inner.Records.{record_of as kept_of}
use Rattle.pie_model.specs.Paths.{among}
use Rattle.pie_model.specs.Evaluation.{Project}
use Rattle.pie_model.specs.Records.{Record}
use Rattle.pie_model.specs.inner.RecordLaws.{Passes}
use Rattle.pie_model.specs.inner.Consistent.{IsSettled}
use Rattle.pie_model.specs.inner.Stack.{Frame, tasks_of}
use Rattle.pie_step_laws.specs.Table.{IsTable}
use Rattle.pie_step_laws.specs.Frames.{set_aside}
use Rattle.pie_settle_laws.specs.Going.{before_wait}
use Rattle.pie_model_pipeline.specs.World.{world}
use Rattle.pie_builder_laws.specs.Names.{AreTasks}
use Rattle.pie_builder_laws.specs.Tables.{recorded}
use Rattle.pie_running.specs.declared.frame.Caller.{Caller}
use Rattle.pie_running.specs.inner.Noted.{Noted}
use Rattle.pie_core_laws.specs.Update.{present}
use Rattle.pie_task_laws.specs.Sites.{Site, Build}
use Rattle.pie_task_laws.specs.Frames.{IsCaller}
use Rattle.pie_topdown_laws.specs.Tables.{unrecorded, EndsIn}
use Rattle.pie_topdown_laws.specs.CheckLaws.{TellsApart}
use Rattle.pie_topdown_laws.specs.Ledgers.{setting}
use Rattle.pie_topdown_laws.specs.Places.{ChecksAt}
use Rattle.pie_topdown_laws.specs.Running.{IsTop, RunsAbove}

-- ---- what waits

-- a check of a record that has come to a place and required these tasks, or a task that runs
pub data Entry : Type 0 where
  checks : TaskRecord → ℕ → List ℕ → Entry
  waits : Caller → Entry

-- a check is one of a record of some earlier project, which tells apart what is met
pub record IsCheckOf (x : Site) (b : Build) (root : List ℕ) (fs : List Frame) (rec : TaskRecord) (at : ℕ) (required : List ℕ) : Type 0 where
  pub before : Project
  pub apart : TellsApart (setting x.update) before
  pub check : ChecksAt x.update before b.names b.records root fs rec at required

-- it waits as its frame, put aside
pub record WaitsAt (x : Site) (b : Build) (root : List ℕ) (fs : List Frame) (rec : TaskRecord) (at : ℕ) (required : List ℕ) (g : Frame) : Type 0 where
  pub of_record : IsCheckOf x b root fs rec at required
  pub is : g ≡ set_aside of_record.check.checked.frame of_record.check.checked.asks.left

-- one entry is this frame, above those
abbrev pub IsEntry : Site → Build → List ℕ → List Frame → Entry → Frame → Type 0
IsEntry x b root fs (checks rec at required) g = WaitsAt x b root fs rec at required g
IsEntry x b root fs (waits c) g = IsCaller x b g c

-- and so are all, the newest first
abbrev pub AreEntries : Site → Build → List ℕ → List Entry → List Frame → Type 0
AreEntries x b root [] [] = Unit {0}
AreEntries x b root (e ∷ es) (g ∷ gs) = IsEntry x b root gs e g × AreEntries x b root es gs
AreEntries x b root [] (g ∷ gs) = ⊥
AreEntries x b root (e ∷ es) [] = ⊥

-- ---- they stay

-- a build has gone on beside these frames: tasks keep their numbers, what was settled is, and what their tasks staged stays
pub record GoesBeside (b after : Build) (fs : List Frame) : Type 0 where
  pub named : (n : ℕ) (t : Task) → slice_get b.names n ≡ Some t → slice_get after.names n ≡ Some t
  pub settled : (u : List ℕ) → IsSettled (recorded b.names b.records) (Passes (unrecorded (recorded b.names b.records))) u
      → IsSettled (recorded after.names after.records) (Passes (unrecorded (recorded after.names after.records))) u
  pub staged : (n : ℕ) (t : Task) → slice_get b.names n ≡ Some t → among (enc_task t) (tasks_of fs) ≡ true
      → (p : List ℕ) → content after.stage n p ≡ content b.stage n p

abbrev pub EntriesStay : Type 0
EntriesStay =
    (x : Site) (b after : Build) (root : List ℕ) (es : List Entry) (fs : List Frame) → GoesBeside b after fs → AreEntries x b root es fs
    → AreEntries x after root es fs

-- a check in hand stays too
abbrev pub ChecksStay : Type 0
ChecksStay =
    (x : Site) (b after : Build) (root : List ℕ) (fs gs : List Frame) (rec : TaskRecord) (at : ℕ) (required : List ℕ) → GoesBeside b after gs
    → IsCheckOf x b root fs rec at required → IsCheckOf x after root fs rec at required

-- a task that runs stays where it is still on top
abbrev pub RunsStay : Type 0
RunsStay =
    (x : Site) (b after : Build) (root : List ℕ) (fs : List Frame) (code : Code) (m : Standing) (n : Noted)
    → (r : RunsAbove x b root fs code m n) → GoesBeside b after (r.frame ∷ fs) → IsTop x after root fs r.frame → RunsAbove x after root fs code m n

-- ---- how a build goes on beside them

-- a new task comes
abbrev pub NewTasksGoBeside : Type 0
NewTasksGoBeside =
    (b : Build) (t : Task) (fs : List Frame) → kept_of b.records (length b.names) ≡ None
    → GoesBeside b (record b { names = b.names ++ t ∷ [] }) fs

-- a task ends with a right record
abbrev pub EndsGoBeside : Type 0
EndsGoBeside =
    (x : Site) (b : Build) (new : Records) (u : List ℕ) (r : Record) (fs : List Frame)
    → IsTable world (present x.update) (recorded b.names b.records) (map enc_task b.names)
    → EndsIn world (present x.update) (recorded b.names b.records) (recorded b.names new) (map enc_task b.names) u r
    → GoesBeside b (record b { records = new }) fs

-- contents are staged of the task on top alone
abbrev pub OwnStagesGoBeside : Type 0
OwnStagesGoBeside =
    (x : Site) (b : Build) (later : Staged) (root : List ℕ) (fs : List Frame) (f : Frame) (k : ℕ) (t : Task) → IsTop x b root fs f → f.task ≡ enc_task t
    → slice_get b.names k ≡ Some t → ((n : ℕ) → (n ≡ k → ⊥) → (p : List ℕ) → content later n p ≡ content b.stage n p)
    → GoesBeside b (record b { stage = later }) fs

-- and of tasks with records alone
abbrev pub FetchesGoBeside : Type 0
FetchesGoBeside =
    (x : Site) (b : Build) (later : Staged) (root : List ℕ) (fs : List Frame) (f : Frame) → IsTop x b root fs f → AreTasks b.names
    → ((n : ℕ) → kept_of b.records n ≡ None → (p : List ℕ) → content later n p ≡ content b.stage n p)
    → GoesBeside b (record b { stage = later }) (f ∷ fs)

-- ---- the newest goes on

-- a check that waited is in hand again, on top
abbrev pub ChecksGoOn : Type 0
ChecksGoOn =
    (x : Site) (b : Build) (root : List ℕ) (fs : List Frame) (rec : TaskRecord) (at : ℕ) (required : List ℕ) (g : Frame)
    → (w : WaitsAt x b root fs rec at required g) → before_wait g ≡ w.of_record.check.checked.frame
