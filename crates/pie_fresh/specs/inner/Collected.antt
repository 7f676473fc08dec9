-- What an accepted build leaves is what its tasks recorded and staged, and so it is the clean build of the model.
use Rattle.std.specs.Prelude.{◌≡◌, ℕ, ◌<◌, List, [], ◌∷◌, ◌++◌, Option, None, Some, IfSome, IsSome, Vec}
use Rattle.std.specs.Ordering.{nat_cmp}
use Rattle.std.specs.Cmp.Lexicographic.{slice_cmp}
use Rattle.std.specs.BTreeMap.{BTreeMap, get}
use Rattle.pie_value.specs.declared.task.Task.{Task}
use Rattle.pie_value.specs.declared.value.Value.{Value}
use Rattle.pie_record.specs.declared.records.Records.{Records}
use Rattle.pie_record.specs.declared.task_record.Outcome.{Outcome}
use Rattle.pie_record.specs.declared.task_record.Outcome.TheVariants.{Done, Failed, Cycled}
use Rattle.pie_record.specs.declared.task_record.TaskRecord.{TaskRecord}
use Rattle.pie_record.specs.inner.Records.{record_of}
use Rattle.pie_view.specs.Content.{content}
use Rattle.pie_checks.specs.declared.built.Built.{Built}
use Rattle.pie_parser.specs.FunctionTrees.{FunctionTree}
use Rattle.pie_files.specs.Directory.{Directory}
use Rattle.pie_model_pipeline.specs.World.{world, project}
use Rattle.pie_model_pipeline.specs.Clean.{IsCleanBuild}
use Rattle.pie_builder_laws.specs.Views.{IsStaged}
use Rattle.pie_builder_laws.specs.Builds.{AreDone, AreLive, AreFiles, Answers, WroteAt, IsFile, IsOutput}
use Rattle.pie_fresh.specs.declared.ledger.Ledger.{Ledger}
use Rattle.pie_fresh.specs.Cleans.{contents_in}
use Rattle.pie_fresh.specs.Told.{TellsTrue}
use Rattle.pie_fresh.specs.inner.Means.{IsKeptOutput}

-- ---- files

-- the file at a path
abbrev pub file_at : {Z : Type 0} → BTreeMap (List ℕ) (Vec ℕ Z) → List ℕ → Option (Vec ℕ Z)
file_at files path = get (slice_cmp nat_cmp) files path

-- each file has what a task that wrote its path staged there
abbrev pub AreOfTasks : {Z : Type 0} → Ledger → BTreeMap (List ℕ) (Vec ℕ Z) → Type 0
AreOfTasks {Z} l files = (path : List ℕ) → IfSome (file_at files path) (λ (b : Vec ℕ Z). IsFile l.records (content l.stage) path b.items)

-- at each path with a file there still is one
abbrev pub KeepsPaths : {Z : Type 0} → BTreeMap (List ℕ) (Vec ℕ Z) → BTreeMap (List ℕ) (Vec ℕ Z) → Type 0
KeepsPaths old new = (path : List ℕ) → IsSome (file_at old path) → IsSome (file_at new path)

-- if the task with this number staged something at the path, there is a file
abbrev pub HasStaged : {Z : Type 0} → Ledger → ℕ → BTreeMap (List ℕ) (Vec ℕ Z) → List ℕ → Type 0
HasStaged l n files path = IsSome (content l.stage n path) → IsSome (file_at files path)

-- so it is at each path that the task wrote
abbrev pub HasWritten : {Z : Type 0} → Ledger → ℕ → BTreeMap (List ℕ) (Vec ℕ Z) → Type 0
HasWritten l n files = (path : List ℕ) → WroteAt l.records n path → HasStaged l n files path

-- and so it is of each task with a lower number
abbrev pub HasAllBelow : {Z : Type 0} → Ledger → ℕ → BTreeMap (List ℕ) (Vec ℕ Z) → Type 0
HasAllBelow l below files = (n : ℕ) → n < below → HasWritten l n files

-- these are the files of the tasks
abbrev pub AreFilesOf : {Z : Type 0} → Ledger → List (List ℕ × Vec ℕ Z) → Type 0
AreFilesOf l files = AreFiles l.records (content l.stage) (contents_in files)

-- what tasks wrote is staged
abbrev pub WritesAreStaged : Ledger → Type 0
WritesAreStaged l = (n : ℕ) (path : List ℕ) → WroteAt l.records n path → IsSome (content l.stage n path)

-- ---- outputs

-- the output that a task ended with, if it did
abbrev pub output_in : Outcome → Option Value
output_in (Done value) = Some value
output_in (Failed fault) = None
output_in (Cycled tasks) = None

-- that of a record
abbrev pub output_by : Option TaskRecord → Option Value
output_by None = None
output_by (Some rec) = output_in rec.outcome

-- that of the task with this number
abbrev pub output_at : Records → ℕ → Option Value
output_at records n = output_by (record_of records n)

-- the answer is the output of this task
abbrev pub Gives : Ledger → Task → Option Value → Type 0
Gives l t None = ⊥
Gives l t (Some value) = IsOutput l.names l.records (t, value)

-- one task more with its output
pub record GainsOutput (l : Ledger) (t : Task) (old new : List (Task × Value)) : Type 0 where
  pub output : Value
  pub gives : IsOutput l.names l.records (t, output)
  pub is : new ≡ old ++ (t, output) ∷ []

-- ---- builds

-- the last checks of all tasks find nothing
pub record PassesChecks (l : Ledger) : Type 0 where
  pub live : List ℕ
  pub all : AreLive l.names live
  pub passes : Answers l.names l.records live None

-- these roots are done, of each task what it wrote in the model is staged, and its output is one that the program has
pub record HasDone (fs : List FunctionTree) (d : Directory) (roots : List Task) (l : Ledger) : Type 0 where
  pub done : AreDone fs d roots l.names l.records
  pub staged : IsStaged world (project fs d) l.names l.records (content l.stage)
  pub outputs : (n : ℕ) → IfSome (record_of l.records n) (λ rec. IsKeptOutput rec.outcome)

-- it is the clean build of these roots, which starts the tasks of the ledger, and what it tells is true
abbrev pub IsClean : List FunctionTree → Directory → List Task → Ledger → Built → Type 0
IsClean fs d roots l b =
    IsCleanBuild fs d roots l.names b.verdict b.rows.items (contents_in b.files.items) b.outputs.items × TellsTrue l.names b.verdict b.outputs.items

-- whatever the pipeline and the directory are of which the roots are done, it is their clean build
abbrev pub CleansDone : List Task → Ledger → Built → Type 0
CleansDone roots l b = (fs : List FunctionTree) (d : Directory) → HasDone fs d roots l → IsClean fs d roots l b
