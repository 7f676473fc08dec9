-- Which tasks a build by what changed runs, and why.
use Rattle.std.specs.Prelude.{◌≡◌, ◌⊎◌, ℕ, ◌<◌, ◌≤◌, Bool, false, true, List, [], ◌∷◌, ◌++◌, length, Option, Some, IsSome, slice_get, slice_index_or}
use Rattle.pie_value.specs.declared.task.Task.{Task}
use Rattle.pie_value.specs.Canonical.{enc_task, IsCanonicalTask}
use Rattle.pie_files.specs.Directory.{Directory}
use Rattle.pie_graph.specs.Numbers.{IsMarked}
use Rattle.pie_record.specs.declared.task_record.TaskRecord.{TaskRecord}
use Rattle.pie_record.specs.inner.Records.{record_of}
use Rattle.pie_tables.specs.declared.tables.Tables.{Tables}
use Rattle.pie_old.specs.inner.Code.{is_same_code}
use Rattle.pie_types.specs.Whole.{number_from}
use Rattle.pie_model.specs.Forest.{entered_tasks}
use Rattle.pie_model.specs.Paths.{among}
use Rattle.pie_model.specs.Reasons.{RunReason}
use Rattle.pie_model_pipeline.specs.World.{world}
use Rattle.pie_earlier_laws.specs.Functions.{digest_under}
use Rattle.pie_core_laws.specs.Update.{Update, present, old_record}
use Rattle.pie_bottomup.specs.declared.state.Core.{Core}
use Rattle.pie_bottomup.specs.declared.state.First.TheVariants.{Tests}
use Rattle.pie_bottomup.specs.declared.state.Turn.{Turn}
use Rattle.pie_bottomup.specs.declared.state.Turn.TheVariants.{Went, Settled, StartAfresh}
use Rattle.pie_bottomup.specs.inner.Causes.{HasRunAs, IsReached}
use Rattle.pie_bottomup.specs.inner.Exact.{IsSiteNow, IsExactCore, IsTakenExact}
use Rattle.pie_bottomup.specs.inner.Going.{IsBuildNow, IsResting, StandsWhole}
use Rattle.pie_bottomup.specs.inner.States.{NoMoreRan}
use Rattle.pie_bottomup.specs.inner.Loaded.{IsStoredIn}

-- an old task has a number below this, and a record
pub record IsKnownAs (t : Tables) (count : ℕ) (bytes : List ℕ) : Type 0 where
  pub number : ℕ
  pub task : Task
  pub old : number < count
  pub named : slice_get t.names number ≡ Some task
  pub is : enc_task task ≡ bytes
  pub recorded : IsSome (record_of t.records number)

-- the tasks of the earlier build have the first numbers, and of each it is known whether its function has one digest then and now
pub record KnowsCode (u : Update) (funcs digests : List (List ℕ × List ℕ)) (same : List Bool) (t : Tables) : Type 0 where
  pub few : length same ≤ length t.names
  pub each : (n : ℕ) (task : Task) → n < length same → slice_get t.names n ≡ Some task
      → slice_index_or same n false ≡ is_same_code funcs digests task.func
  pub olds : (bytes : List ℕ) → IsSome (old_record u bytes) → IsKnownAs t (length same) bytes

-- so a build begins, whatever the update is, unless it has too many old tasks
abbrev pub BeginsKnowing : List (List ℕ × List ℕ) → List (List ℕ × List ℕ) → List TaskRecord → List (List ℕ) → Core → Type 0
BeginsKnowing funcs digests kept changes c =
    (u : Update) → IsStoredIn u funcs digests kept changes → c.first ≡ Tests → KnowsCode u funcs digests c.plan.same.items c.tables

-- a task has a reason to run: it is new, its code is another, or something that its record observed or wrote is
abbrev pub HasReason : Update → List (List ℕ × List ℕ) → List (List ℕ × List ℕ) → Task → Type 0
HasReason u funcs digests t =
    RunReason world (present u) u.directory (old_record u (enc_task t)) (digest_under funcs t.func) (digest_under digests t.func)

-- no other task has run that hadn't before
abbrev pub RanAlone : Tables → Tables → ℕ → Type 0
RanAlone old new number = (n : ℕ) → IsMarked new.ran.items n → IsMarked old.ran.items n ⊎ (n ≡ number)

-- a task that hadn't run starts to run, for a reason, and is reached from a root; no other does
pub record StartsFor (u : Update) (funcs digests : List (List ℕ × List ℕ)) (old new : Tables) (before after : List Task) : Type 0 where
  pub number : ℕ
  pub task : Task
  pub named : slice_get old.names number ≡ Some task
  pub rested : slice_index_or old.ran.items number false ≡ false
  pub ran : IsMarked new.ran.items number
  pub added : after ≡ before ++ task ∷ []
  pub reason : HasReason u funcs digests task
  pub reached : IsReached u task
  pub alone : RanAlone old new number

-- no task starts to run
abbrev pub RunsNone : Tables → Tables → List Task → List Task → Type 0
RunsNone old new before after = (after ≡ before) × NoMoreRan old new

-- no task starts to run, or one does for a reason
abbrev pub RunsFor : Update → List (List ℕ × List ℕ) → List (List ℕ × List ℕ) → Tables → Tables → List Task → List Task → Type 0
RunsFor u funcs digests old new before after = RunsNone old new before after ⊎ StartsFor u funcs digests old new before after

-- a task starts to run: it is marked, and added to the runs
pub record HasStarted (old : Core) (n : ℕ) (new : Core) (before after : List Task) : Type 0 where
  pub task : Task
  pub named : slice_get old.tables.names n ≡ Some task
  pub ran : IsMarked new.tables.ran.items n
  pub added : after ≡ before ++ task ∷ []
  pub alone : RanAlone old.tables new.tables n

-- the task with a number is reached from a root
abbrev pub IsReachedAt : Update → Core → ℕ → Type 0
IsReachedAt u c n = (t : Task) → slice_get c.tables.names n ≡ Some t → IsReached u t

-- one was taken: it alone may start to run, and does for a reason
abbrev pub TakesFor : Core → ℕ → Core → List Task → List Task → Type 0
TakesFor old n new before after =
    (u : Update) (funcs digests : List (List ℕ × List ℕ)) → IsBuildNow u old.plan → IsTakenExact u old n → IsReachedAt u old n
    → KnowsCode u funcs digests old.plan.same.items old.tables → RunsFor u funcs digests old.tables new.tables before after

-- so it is where the walk goes on
abbrev pub WalksFor : Core → Core → List Task → List Task → Type 0
WalksFor old new before after =
    (u : Update) (funcs digests : List (List ℕ × List ℕ)) → IsBuildNow u old.plan → IsExactCore u old → IsResting u old
    → KnowsCode u funcs digests old.plan.same.items old.tables → RunsFor u funcs digests old.tables new.tables before after

-- so it is in a step over these files
abbrev pub StepsFor : Option Directory → Core → Core → List Task → List Task → Type 0
StepsFor held old new before after =
    (u : Update) (funcs digests : List (List ℕ × List ℕ)) → IsBuildNow u old.plan → IsSiteNow u held → StandsWhole u old
    → KnowsCode u funcs digests old.plan.same.items old.tables → RunsFor u funcs digests old.tables new.tables before after

-- ---- once the roots are settled

-- a clean build enters a task, which is of a function of the pipeline
pub record IsEntered (u : Update) (t : Task) : Type 0 where
  pub canonical : IsCanonicalTask t (enc_task t)
  pub entered : among (enc_task t) (entered_tasks world (present u) u.roots) ≡ true
  pub number : ℕ
  pub function : number_from 0 u.functions t ≡ Some number

-- each such task that has a reason to run has run
abbrev pub AllHaveRun : Update → List (List ℕ × List ℕ) → List (List ℕ × List ℕ) → Core → Type 0
AllHaveRun u funcs digests c = (t : Task) → IsEntered u t → HasReason u funcs digests t → HasRunAs c.tables t

-- so it is where a step leaves the roots settled
abbrev pub SettlesFor : Core → Turn → Type 0
SettlesFor c Went = Unit {0}
SettlesFor c Settled =
    (u : Update) (funcs digests : List (List ℕ × List ℕ)) → IsBuildNow u c.plan → IsExactCore u c
    → KnowsCode u funcs digests c.plan.same.items c.tables → AllHaveRun u funcs digests c
SettlesFor c (StartAfresh cause) = Unit {0}
