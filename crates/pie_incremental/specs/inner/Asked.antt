-- Which paths the parts of a build by what changed ask for.
use Rattle.std.specs.Prelude.{◌≡◌, ◌⊎◌, ℕ, true, List, ◌++◌, drop, length, map, Contains, Option, None, Some}
use Rattle.pie_bottomup.specs.declared.state.Core.{Core}
use Rattle.pie_bottomup.specs.inner.Exact.{IsSiteNow}
use Rattle.pie_bottomup.specs.inner.Going.{IsBuildNow, StandsWhole}
use Rattle.pie_bottomup.specs.inner.Loaded.{IsStoredIn}
use Rattle.pie_core_laws.specs.Update.{Update, present}
use Rattle.pie_files.specs.Directory.{Directory}
use Rattle.pie_files.specs.declared.files.Call.{Call}
use Rattle.pie_files.specs.declared.files.Call.TheVariants.{Read, Names, AllUnder, Write, Remove, Sync}
use Rattle.pie_model.specs.Paths.{among}
use Rattle.pie_model.specs.Reasons.{MayAsk, project_files}
use Rattle.pie_model_pipeline.specs.World.{world}
use Rattle.pie_named.specs.Asking.{AsksFor, MakesOnly}
use Rattle.pie_parser.specs.FunctionTrees.{FunctionTree}
use Rattle.pie_project.specs.declared.project.Project.{Project}
use Rattle.pie_report.specs.declared.report.Report.{Report}
use Rattle.pie_store.specs.declared.cause.Cause.{Cause}
use Rattle.pie_store.specs.declared.image.StoreImage.{StoreImage}
use Rattle.pie_store.specs.Pending.{in_order}
use Rattle.pie_value.specs.Canonical.{enc_task}
use Rattle.pie_value.specs.declared.task.Task.{Task}
use Rattle.pie_incremental.specs.declared.base.Base.{Base}
use Rattle.pie_incremental.specs.declared.ending.Ending.{Ending}
use Rattle.pie_incremental.specs.declared.evaluate.Ended.{Ended}
use Rattle.pie_incremental.specs.declared.evaluate.Ended.TheVariants.{Built, Afresh}
use Rattle.pie_incremental.specs.declared.run.Done.{Done}
use Rattle.pie_incremental.specs.declared.run.Done.TheVariants.{Reported, Stopped}
use Rattle.pie_incremental.specs.Asked.{AsksRight, LooksOnlyAt}
use Rattle.pie_incremental.specs.Starts.{IsBase}
use Rattle.pie_incremental.specs.inner.Evaluated.{IsUpdateHere}
use Rattle.pie_incremental.specs.inner.Ran.{Knows, NoneRan}
use Rattle.pie_incremental.specs.inner.Updated.{IsUpdateFrom}

-- ---- calls

-- a call changes the files, or makes changes last; it looks at nothing
abbrev pub IsChange : Call → Type 0
IsChange (Read p) = ⊥
IsChange (Names p) = ⊥
IsChange (AllUnder p) = ⊥
IsChange (Write p mark) = Unit {0}
IsChange (Remove p) = Unit {0}
IsChange Sync = Unit {0}

-- ---- the beginning

-- a file that says what the project is, or one of the builder's own
abbrev pub IsProjectFile : List ℕ → Type 0
IsProjectFile p = among p project_files ≡ true

-- one of these, or a name of the list, or a pending one
abbrev pub IsAtFirst : List (List ℕ) → List (List ℕ) → List ℕ → Type 0
IsAtFirst list pending p = IsProjectFile p ⊎ Contains (in_order (list ++ pending)) p

-- ---- the evaluation

-- a path that a build of an update may ask for where these tasks ran
abbrev pub MayAskIn : Update → List Task → List ℕ → Type 0
MayAskIn u ran p = MayAsk world (present u) u.names (map enc_task ran) p

-- only such paths were asked for, by the tasks that were started meanwhile
abbrev pub AsksWith : Update → List Task → List Task → Option (List Call) → Option (List Call) → Type 0
AsksWith u before after asked asked_now = AsksFor (MayAskIn u (drop (length before) after)) asked asked_now

-- so it is from a core on that stands and knows its old tasks, of which none ran yet
abbrev pub SettlesAsking : Option Directory → Core → List Task → List Task → Option (List Call) → Option (List Call) → Type 0
SettlesAsking held c before after asked asked_now = (u : Update) (funcs digests : List (List ℕ × List ℕ)) → IsSiteNow u held → IsBuildNow u c.plan
    → StandsWhole u c → Knows u funcs digests c → NoneRan c → AsksWith u before after asked asked_now

-- so it is once the roots are settled
abbrev pub SettledAsking : Option Directory → Core → List Task → List Task → Option (List Call) → Option (List Call) → Option Cause → Type 0
SettledAsking held c before after asked asked_now None = SettlesAsking held c before after asked asked_now
SettledAsking held c before after asked asked_now (Some cause) = Unit {0}

-- so it is in an evaluation of each update to these functions and roots from this store, with these names
pub record AsksEach (held : Option Directory) (fs : List FunctionTree) (digests : List (List ℕ × List ℕ)) (roots : List Task) (s : StoreImage)
    (names : List (List ℕ)) (before after : List Task) (asked asked_now : Option (List Call)) : Type 0 where
  pub each : (u : Update) → IsUpdateHere u held fs roots → IsStoredIn u s.funcs digests s.rows names → AsksWith u before after asked asked_now

-- so it is unless it has to start afresh
abbrev pub AsksWhere : Option Directory → List FunctionTree → List (List ℕ × List ℕ) → List Task → StoreImage → List (List ℕ) → List Task → List Task
    → Option (List Call) → Option (List Call) → Ended → Type 0
AsksWhere held fs digests roots s names before after asked asked_now (Built b) = AsksEach held fs digests roots s names before after asked asked_now
AsksWhere held fs digests roots s names before after asked asked_now (Afresh cause) = Unit {0}

-- ---- the whole build

-- a build of an update looks only at such paths, where these tasks ran
abbrev pub BuildsAsking : Update → List Task → Option (List Call) → Option (List Call) → Type 0
BuildsAsking u ran asked asked_now = MakesOnly (LooksOnlyAt (MayAskIn u ran)) asked asked_now

-- so it is with a build from this store that doesn't start afresh
abbrev pub GoesAsking : StoreImage → Ending → Project → Option Directory → Option (List Call) → Option (List Call) → Done → Type 0
GoesAsking s e p held asked asked_now (Reported r) = (u : Update) → IsUpdateHere u held p.typed p.roots.items
    → IsStoredIn u s.funcs p.digests.items s.rows e.names.items → BuildsAsking u r.value.ran.items asked asked_now
GoesAsking s e p held asked asked_now (Stopped stop) = Unit {0}

-- so it is from this base, whatever was asked before the build began with it
abbrev pub RunsAsking : Base → Project → List (List ℕ) → Option Directory → Option (List Call) → Option (List Call) → Done → Type 0
RunsAsking b p list held asked asked_now (Reported r) = (u : Update) → IsUpdateFrom u held b p list → BuildsAsking u r.value.ran.items asked asked_now
RunsAsking b p list held asked asked_now (Stopped stop) = Unit {0}

-- over files that tell their directory, and with no cause to start afresh
pub record AsksUnlessAfresh (b : Base) (p : Project) (list : List (List ℕ)) (held : Option Directory) (asked asked_now : Option (List Call)) (r : Report)
    : Type 0 where
  pub once : (d : Directory) → held ≡ Some d → r.fresh ≡ None → (u : Update) → IsUpdateFrom u held b p list
      → BuildsAsking u r.ran.items asked asked_now

-- ---- in the words of an earlier build

-- so it is from the base that is there
pub record FromAsking (b : Base) (list : List (List ℕ)) (held : Option Directory) (asked asked_now : Option (List Call)) (r : Report) : Type 0 where
  pub of : (d : Directory) → held ≡ Some d → IsBase d b → AsksRight list d r asked asked_now
