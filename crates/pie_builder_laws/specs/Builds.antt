-- A build that ends is the clean build of the model.
use Rattle.std.specs.Prelude.{◌≡◌, ℕ, ◌<◌, List, [], ◌∷◌, ◌++◌, map, length, All, Contains, Option, Some, None, slice_get}
use Rattle.pie_base.specs.declared.fault.FaultKind.{FaultKind}
use Rattle.pie_value.specs.declared.task.Task.{Task}
use Rattle.pie_value.specs.declared.value.Value.{Value}
use Rattle.pie_value.specs.declared.verdict.Refusal.{Refusal}
use Rattle.pie_value.specs.declared.verdict.Refusal.TheVariants as refusals
use Rattle.pie_value.specs.declared.verdict.Verdict.TheVariants.{Accepted, Refused}
use Rattle.pie_value.specs.Canonical.{enc_task}
use Rattle.pie_record.specs.declared.records.Records.{Records}
use Rattle.pie_record.specs.declared.task_record.Outcome.TheVariants.{Done}
use Rattle.pie_record.specs.declared.task_record.TaskRecord.{TaskRecord}
use Rattle.pie_record.specs.inner.Records.{record_of as kept_of}
use Rattle.pie_store.specs.Canonical.{AreInOrder}
use Rattle.pie_checks.specs.Records.{Wrote, Missed}
use Rattle.pie_checks.specs.Refusals.{FindsFirst}
use Rattle.pie_parser.specs.FunctionTrees.{FunctionTree}
use Rattle.pie_files.specs.Directory.{Directory}
use Rattle.pie_model.specs.declared.words.Outcome.TheVariants.{Ended, Failed, Cycled}
use Rattle.pie_model.specs.Trees.{entered}
use Rattle.pie_model.specs.Evaluation.{evaluation}
use Rattle.pie_model.specs.inner.Stack.{Begins}
use Rattle.pie_step_laws.specs.Table.{Rests}
use Rattle.pie_step_laws.specs.UnderWay.{HasEnded}
use Rattle.pie_step_laws.specs.Roots.{Between}
use Rattle.pie_model_pipeline.specs.Words.{fault_of}
use Rattle.pie_model_pipeline.specs.World.{world, project}
use Rattle.pie_model_pipeline.specs.Clean.{IsCleanBuild}
use Rattle.pie_builder_laws.specs.Names.{AreTasks}
use Rattle.pie_builder_laws.specs.Tables.{recorded}
use Rattle.pie_builder_laws.specs.Views.{Staged, IsStaged}

-- these roots are done, and these tasks with their records are those that they entered
pub record AreDone (fs : List FunctionTree) (d : Directory) (done names : List Task) (records : Records) : Type 0 where
  pub tasks : AreTasks names
  pub between : Between world (project fs d) (map enc_task done) (recorded names records) (map enc_task names)

-- ---- from root to root

-- with nothing entered and no root done
abbrev pub NoneAreDoneAtFirst : Type 0
NoneAreDoneAtFirst = (fs : List FunctionTree) (d : Directory) (records : Records) → ((n : ℕ) → kept_of records n ≡ None) → AreDone fs d [] [] records

-- a root that was entered before is done
abbrev pub KnownRootsAreDone : Type 0
KnownRootsAreDone =
    (fs : List FunctionTree) (d : Directory) (done names : List Task) (records : Records) (root : Task) → AreDone fs d done names records
    → Contains names root → AreDone fs d (done ++ root ∷ []) names records

-- and so is one that ended with a value
abbrev pub EndedRootsAreDone : Type 0
EndedRootsAreDone =
    (fs : List FunctionTree) (d : Directory) (done base names : List Task) (before after : Records) (root : Task) (v : List ℕ)
    → AreDone fs d done base before → AreTasks names → Rests world (project fs d) (recorded names after) (map enc_task names)
    → HasEnded world (project fs d) (enc_task root) (map enc_task base) (map enc_task names) (Ended v) → AreDone fs d (done ++ root ∷ []) names after

-- ---- the last checks

-- each task is among the numbers that the last checks go through
abbrev pub AreLive : List Task → List ℕ → Type 0
AreLive names live = (n : ℕ) → n < length names → Contains live n

-- the last checks answer this
abbrev pub Answers : List Task → Records → List ℕ → Option Refusal → Type 0
Answers names records live answer = FindsFirst (Wrote names records live) (Missed names records live) answer

-- ---- what an accepted build leaves

-- the rows are all records, each that of the task with its number, in the order of the store
pub record AreRows (names : List Task) (records : Records) (rows : List TaskRecord) : Type 0 where
  pub order : AreInOrder rows
  pub named : (n : ℕ) (rec : TaskRecord) → kept_of records n ≡ Some rec → slice_get names n ≡ Some rec.task
  pub only : All (λ (rec : TaskRecord). (n : ℕ) × (kept_of records n ≡ Some rec)) rows
  pub each : (n : ℕ) (rec : TaskRecord) → kept_of records n ≡ Some rec → Contains rows rec

-- the task with this number has a record, and wrote the path
pub record WroteAt (records : Records) (n : ℕ) (path : List ℕ) : Type 0 where
  pub rec : TaskRecord
  pub kept : kept_of records n ≡ Some rec
  pub hash : List ℕ
  pub wrote : Contains rec.writes (path, hash)

-- a file has what a task that wrote its path staged there
pub record IsFile (records : Records) (staged : Staged) (path bytes : List ℕ) : Type 0 where
  pub number : ℕ
  pub wrote : WroteAt records number path
  pub staged_is : staged number path ≡ Some bytes

-- the files are those that tasks wrote, and there is one at each path that a task wrote
pub record AreFiles (records : Records) (staged : Staged) (files : List (List ℕ × List ℕ)) : Type 0 where
  pub only : (path bytes : List ℕ) → Contains files (path, bytes) → IsFile records staged path bytes
  pub each : (n : ℕ) (path : List ℕ) → WroteAt records n path → (bytes : List ℕ) × Contains files (path, bytes)

-- a task with the value in its record
pub record IsOutput (names : List Task) (records : Records) (output : Task × Value) : Type 0 where
  pub number : ℕ
  pub named : slice_get names number ≡ Some output.0
  pub rec : TaskRecord
  pub kept : kept_of records number ≡ Some rec
  pub gave : rec.outcome ≡ Done output.1

-- each root with the value in its record
pub record AreOutputs (names : List Task) (records : Records) (roots : List Task) (outputs : List (Task × Value)) : Type 0 where
  pub tasks : map (λ (o : Task × Value). o.0) outputs ≡ roots
  pub each : All (IsOutput names records) outputs

-- ---- the laws; the entered tasks are those that were started

-- all roots are done and the last checks find nothing
abbrev pub AcceptedBuildsAreClean : Type 0
AcceptedBuildsAreClean =
    (fs : List FunctionTree) (d : Directory) (roots names : List Task) (records : Records) (live : List ℕ) (staged : Staged) (rows : List TaskRecord)
    (files : List (List ℕ × List ℕ)) (outputs : List (Task × Value)) → AreDone fs d roots names records → AreLive names live
    → Answers names records live None → IsStaged world (project fs d) names records staged → AreRows names records rows
    → AreFiles records staged files → AreOutputs names records roots outputs → IsCleanBuild fs d roots names Accepted rows files outputs

-- all roots are done and the last checks refuse
abbrev pub CheckedBuildsAreClean : Type 0
CheckedBuildsAreClean =
    (fs : List FunctionTree) (d : Directory) (roots names : List Task) (records : Records) (live : List ℕ) (refusal : Refusal)
    → AreDone fs d roots names records → AreLive names live → Answers names records live (Some refusal)
    → IsCleanBuild fs d roots names (Refused refusal) [] [] []

-- a root fails by the fault of a task
abbrev pub FailedBuildsAreClean : Type 0
FailedBuildsAreClean =
    (fs : List FunctionTree) (d : Directory) (roots done rest names base : List Task) (before : Records) (root t : Task) (k : FaultKind)
    → AreDone fs d done base before → roots ≡ done ++ root ∷ rest
    → HasEnded world (project fs d) (enc_task root) (map enc_task base) (map enc_task names) (Failed (enc_task t) (fault_of k))
    → IsCleanBuild fs d roots names (Refused (refusals.Fault (record { task = t; kind = k }))) [] [] []

-- a root ends in a cycle
abbrev pub CyclesAreClean : Type 0
CyclesAreClean =
    (fs : List FunctionTree) (d : Directory) (roots done rest names base : List Task) (before : Records) (root : Task) (ts : List Task)
    → AreDone fs d done base before → roots ≡ done ++ root ∷ rest
    → HasEnded world (project fs d) (enc_task root) (map enc_task base) (map enc_task names) (Cycled (map enc_task ts))
    → IsCleanBuild fs d roots names (Refused (refusals.Cycle ts)) [] [] []

-- a root enters one task more than may be
abbrev pub FullBuildsAreClean : Type 0
FullBuildsAreClean =
    (fs : List FunctionTree) (d : Directory) (roots done rest names base : List Task) (before : Records) (root : Task) (one : List ℕ)
    → AreDone fs d done base before → roots ≡ done ++ root ∷ rest → length names ≡ 50000
    → Begins (map enc_task names ++ one ∷ []) (entered (evaluation world (project fs d) (enc_task root)) (map enc_task base))
    → IsCleanBuild fs d roots names (Refused refusals.Many) [] [] []
