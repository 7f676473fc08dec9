-- Which tasks an evaluation runs, and why.
use Rattle.std.specs.Prelude.{◌≡◌, ◌≢◌, ◌⊎◌, ℕ, false, List, ◌++◌, map, All, Option, Some, None, slice_get, slice_index_or, Contains}
use Rattle.std.specs.List.{AllPairs}
use Rattle.pie_bottomup.specs.declared.state.Core.{Core}
use Rattle.pie_bottomup.specs.declared.state.First.TheVariants.{TooMany}
use Rattle.pie_bottomup.specs.inner.Causes.{IsOldTask, IsReached}
use Rattle.pie_bottomup.specs.inner.Exact.{IsSiteNow}
use Rattle.pie_bottomup.specs.inner.Going.{IsBuildNow, StandsWhole}
use Rattle.pie_bottomup.specs.inner.Loaded.{IsStoredIn}
use Rattle.pie_bottomup.specs.inner.Ran.{HasReason, KnowsCode}
use Rattle.pie_core_laws.specs.Update.{Update}
use Rattle.pie_entering_laws.specs.Entering.{IsTaskOf, Enters}
use Rattle.pie_entering_laws.specs.inner.Laws.{IsRoot}
use Rattle.pie_files.specs.Directory.{Directory}
use Rattle.pie_graph.specs.Numbers.{IsMarked}
use Rattle.pie_parser.specs.FunctionTrees.{FunctionTree}
use Rattle.pie_store.specs.declared.cause.Cause.{Cause}
use Rattle.pie_store.specs.declared.cause.Cause.TheVariants as causes
use Rattle.pie_store.specs.declared.image.StoreImage.{StoreImage}
use Rattle.pie_tables.specs.declared.tables.Tables.{Tables}
use Rattle.pie_types.specs.Whole.{number_from}
use Rattle.pie_types.specs.inner.WholeRules.{IsTyped}
use Rattle.pie_value.specs.Canonical.{enc_task}
use Rattle.pie_value.specs.declared.task.Task.{Task}
use Rattle.pie_incremental.specs.declared.evaluate.Ended.{Ended}
use Rattle.pie_incremental.specs.declared.evaluate.Ended.TheVariants.{Built, Afresh}
use Rattle.pie_incremental.specs.inner.Causes.{HasTooMany}
use Rattle.pie_incremental.specs.inner.Evaluated.{IsUpdateHere}

-- no task stands twice among those that ran in a build of an update, each has a reason to run, by the digests that the store kept and those of now, and
-- is reached from a root
pub record HaveReasons (u : Update) (funcs digests : List (List ℕ × List ℕ)) (ran : List Task) : Type 0 where
  pub once : AllPairs (λ t v. t ≢ v) ran
  pub reasons : All (HasReason u funcs digests) ran
  pub reached : All (IsReached u) ran

-- a clean build of an update whose functions are typed and whose roots are their tasks enters tasks of these functions alone, and each that has a reason is
-- among these
abbrev pub AllAreDue : Update → List (List ℕ × List ℕ) → List (List ℕ × List ℕ) → List Task → Type 0
AllAreDue u funcs digests ran =
    (roots : List Task) → map enc_task roots ≡ u.roots → IsTyped u.functions → All (IsRoot u.functions) roots → (x : List ℕ)
    → Enters u.functions u.directory roots x → (of : IsTaskOf u.functions x) × (HasReason u funcs digests of.task → Contains ran of.task)

-- and none is missing that has one and that a clean build enters
pub record AreDue (u : Update) (funcs digests : List (List ℕ × List ℕ)) (ran : List Task) : Type 0 where
  pub have : HaveReasons u funcs digests ran
  pub all : AllAreDue u funcs digests ran

-- ---- between two steps

-- a task has run under its number
pub record HasRun (t : Tables) (task : Task) : Type 0 where
  pub number : ℕ
  pub named : slice_get t.names number ≡ Some task
  pub marked : IsMarked t.ran.items number

-- the task with a number is one of these
pub record IsOneOf (t : Tables) (tasks : List Task) (n : ℕ) : Type 0 where
  pub task : Task
  pub listed : Contains tasks task
  pub named : slice_get t.names n ≡ Some task

-- the tasks that were started have run in these tables, each once and for a reason, and no others that hadn't at first
pub record HaveRun (u : Update) (funcs digests : List (List ℕ × List ℕ)) (first t : Tables) (before after : List Task) : Type 0 where
  pub gained : List Task
  pub is : after ≡ before ++ gained
  pub ran : HaveReasons u funcs digests gained
  pub marked : All (HasRun t) gained
  pub only : (n : ℕ) → IsMarked t.ran.items n → IsMarked first.ran.items n ⊎ IsOneOf t gained n

-- a core knows of each old task whether its code is as it was
abbrev pub Knows : Update → List (List ℕ × List ℕ) → List (List ℕ × List ℕ) → Core → Type 0
Knows u funcs digests c = KnowsCode u funcs digests c.plan.same.items c.tables

-- over files that hold the directory of an update, a core that knew that knows it still, and so it is with the tasks that were started
abbrev pub RunsOn : Option Directory → Core → Core → List Task → List Task → Type 0
RunsOn held old new before after = (u : Update) (funcs digests : List (List ℕ × List ℕ)) → IsSiteNow u held → IsBuildNow u old.plan → StandsWhole u old
    → Knows u funcs digests old → Knows u funcs digests new × HaveRun u funcs digests old.tables new.tables before after

-- where there were too many old tasks, there are still
abbrev pub StaysMany : Core → Core → Type 0
StaysMany old new = (task : Task) → old.first ≡ TooMany task → new.first ≡ TooMany task

-- ---- once the roots are settled

-- the tasks that were started ran each once and for a reason, and none is missing, where the old ones are known
pub record HaveStarted (u : Update) (funcs digests : List (List ℕ × List ℕ)) (before after : List Task) : Type 0 where
  pub gained : List Task
  pub is : after ≡ before ++ gained
  pub ran : AreDue u funcs digests gained

-- one of the tasks of a ring ran
pub record RanOfRing (tasks ran : List Task) : Type 0 where
  pub task : Task
  pub listed : Contains tasks task
  pub has : Contains ran task

-- of the tasks that are too many, those that came ran, unless they are of no function of the pipeline; besides these only old ones did
pub record RanOfMany (u : Update) (old new : ℕ) (task : Task) (ran : List Task) : Type 0 where
  pub many : HasTooMany u old new task
  pub only : All (λ v. IsOldTask u v ⊎ Contains many.news v) ran
  pub has : All (λ v. Contains ran v ⊎ (number_from 0 u.functions v ≡ None)) many.news

-- so it is with the tasks that a cause tells
abbrev pub RanOf : Update → Cause → List Task → Type 0
RanOf u causes.Interrupted ran = Unit {0}
RanOf u causes.NoStore ran = Unit {0}
RanOf u (causes.Damaged fault) ran = Unit {0}
RanOf u causes.BadPending ran = Unit {0}
RanOf u (causes.UnionCycle tasks) ran = RanOfRing tasks ran
RanOf u (causes.UnionMany old new task) ran = RanOfMany u old new task ran

-- before it has to start afresh for a cause the tasks that were started ran each once and for a reason, and are reached from a root
pub record HaveBegun (u : Update) (funcs digests : List (List ℕ × List ℕ)) (cause : Cause) (before after : List Task) : Type 0 where
  pub gained : List Task
  pub is : after ≡ before ++ gained
  pub ran : HaveReasons u funcs digests gained
  pub told : RanOf u cause gained

-- no task has run
abbrev pub NoneRan : Core → Type 0
NoneRan c = (n : ℕ) → slice_index_or c.tables.ran.items n false ≡ false

-- so it is over files that hold the directory of an update; there weren't too many old tasks
pub record RunsWhole (held : Option Directory) (c : Core) (before after : List Task) : Type 0 where
  pub few : (task : Task) → c.first ≡ TooMany task → ⊥
  pub each : (u : Update) (funcs digests : List (List ℕ × List ℕ)) → IsSiteNow u held → IsBuildNow u c.plan → StandsWhole u c → Knows u funcs digests c
      → NoneRan c → HaveStarted u funcs digests before after

-- the old tasks are known, and none has run, where there aren't too many
abbrev pub KnowsFirst : Update → List (List ℕ × List ℕ) → List (List ℕ × List ℕ) → Core → Type 0
KnowsFirst u funcs digests c = ((task : Task) → c.first ≡ TooMany task → ⊥) → Knows u funcs digests c × NoneRan c

-- so it is where it has to start afresh for a cause
pub record RunsBefore (held : Option Directory) (c : Core) (cause : Cause) (before after : List Task) : Type 0 where
  pub each : (u : Update) (funcs digests : List (List ℕ × List ℕ)) → IsSiteNow u held → IsBuildNow u c.plan → StandsWhole u c → KnowsFirst u funcs digests c
      → HaveBegun u funcs digests cause before after

abbrev pub SettlesRuns : Option Directory → Core → List Task → List Task → Option Cause → Type 0
SettlesRuns held c before after None = RunsWhole held c before after
SettlesRuns held c before after (Some cause) = RunsBefore held c cause before after

-- ---- an evaluation

-- of each update to these functions and roots from this store, with these names, the tasks that were started ran each once and for a reason
pub record RunsEach (held : Option Directory) (fs : List FunctionTree) (digests : List (List ℕ × List ℕ)) (roots : List Task) (s : StoreImage)
    (names : List (List ℕ)) (before after : List Task) : Type 0 where
  pub each : (u : Update) → IsUpdateHere u held fs roots → IsStoredIn u s.funcs digests s.rows names → HaveStarted u s.funcs digests before after

-- where it has to start afresh, those that were started before ran so
pub record BeginsEach (held : Option Directory) (fs : List FunctionTree) (digests : List (List ℕ × List ℕ)) (roots : List Task) (s : StoreImage)
    (names : List (List ℕ)) (cause : Cause) (before after : List Task) : Type 0 where
  pub each : (u : Update) → IsUpdateHere u held fs roots → IsStoredIn u s.funcs digests s.rows names → HaveBegun u s.funcs digests cause before after

abbrev pub RunsWhere : Option Directory → List FunctionTree → List (List ℕ × List ℕ) → List Task → StoreImage → List (List ℕ) → List Task → List Task → Ended
    → Type 0
RunsWhere held fs digests roots s names before after (Built b) = RunsEach held fs digests roots s names before after
RunsWhere held fs digests roots s names before after (Afresh cause) = BeginsEach held fs digests roots s names cause before after
