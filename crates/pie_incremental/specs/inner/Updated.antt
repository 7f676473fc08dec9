-- What the parts of a build by what changed say of an update.
use Rattle.std.specs.Prelude.{◌≡◌, ℕ, List, ◌++◌, Option, Some, None, IsSome}
use Rattle.pie_bottomup.specs.inner.Loaded.{IsStoredIn}
use Rattle.pie_core_laws.specs.Update.{Update}
use Rattle.pie_files.specs.Directory.{Directory}
use Rattle.pie_project.specs.declared.project.Project.{Project}
use Rattle.pie_report.specs.declared.report.Report.{Report}
use Rattle.pie_store.specs.declared.cause.Cause.{Cause}
use Rattle.pie_store.specs.declared.image.StoreImage.{StoreImage}
use Rattle.pie_store.specs.Pending.{in_order}
use Rattle.pie_value.specs.declared.task.Task.{Task}
use Rattle.pie_incremental.specs.declared.base.Base.{Base}
use Rattle.pie_incremental.specs.declared.ending.Ending.{Ending}
use Rattle.pie_incremental.specs.declared.run.Done.{Done}
use Rattle.pie_incremental.specs.declared.run.Done.TheVariants.{Reported, Stopped}
use Rattle.pie_incremental.specs.Clean.{BuildsClean, IsAfresh}
use Rattle.pie_incremental.specs.Starts.{IsBase}
use Rattle.pie_incremental.specs.inner.Built.{IsKnown}
use Rattle.pie_incremental.specs.inner.Causes.{IsCauseNow}
use Rattle.pie_incremental.specs.inner.Clean.{BuildsCleanOf}
use Rattle.pie_incremental.specs.inner.Digested.{digested}
use Rattle.pie_incremental.specs.inner.Evaluated.{IsUpdateHere, StopsWhere}
use Rattle.pie_incremental.specs.inner.Ran.{AreDue, BeginsEach, HaveBegun, HaveReasons, RanOf}

-- a build from this store, with what its end needs, tells no cause to start afresh, and is that of each update to this project of which that is known; the
-- tasks that it tells ran once and for a reason
pub record GoesClean (s : StoreImage) (e : Ending) (p : Project) (before after : Option Directory) (r : Report) : Type 0 where
  pub none : r.fresh ≡ None
  pub each : (u : Update) → IsUpdateHere u before p.typed p.roots.items → IsStoredIn u s.funcs p.digests.items s.rows e.names.items
      → IsKnown e.own e.held u.directory → BuildsCleanOf u p.digests.items p.roots.items r after
  pub ran : (u : Update) → IsUpdateHere u before p.typed p.roots.items → IsStoredIn u s.funcs p.digests.items s.rows e.names.items
      → AreDue u s.funcs p.digests.items r.ran.items

-- so it is unless it has to start afresh, for a cause that is so
abbrev pub GoesOn : StoreImage → Ending → Project → Option Directory → Option Directory → Done → Type 0
GoesOn s e p before after (Reported r) = GoesClean s e p before after r.value
GoesOn s e p before after (Stopped stop) = StopsWhere before p.typed p.digests.items p.roots.items s e.names.items stop.value.cause

-- an update to this project in what the files hold, where the store of this base is that of the earlier build, and what changed is in a list or pending
pub record IsUpdateFrom (u : Update) (held : Option Directory) (b : Base) (p : Project) (list : List (List ℕ)) : Type 0 where
  pub here : IsUpdateHere u held p.typed p.roots.items
  pub base : IsBase u.directory b
  pub stored : IsStoredIn u (digested u.directory p.digests.items b.image).funcs p.digests.items b.image.rows (in_order (list ++ b.names.items))

-- a build of this project from this base tells no cause to start afresh, and is that of each such update, with the tasks that it tells
pub record RunsClean (b : Base) (p : Project) (list : List (List ℕ)) (before after : Option Directory) (r : Report) : Type 0 where
  pub none : r.fresh ≡ None
  pub each : (u : Update) → IsUpdateFrom u before b p list → BuildsCleanOf u p.digests.items p.roots.items r after
  pub ran : (u : Update) → IsUpdateFrom u before b p list → AreDue u (digested u.directory p.digests.items b.image).funcs p.digests.items r.ran.items

-- of each such update, a cause to start afresh is so
pub record StopsFrom (b : Base) (p : Project) (list : List (List ℕ)) (before : Option Directory) (cause : Cause) : Type 0 where
  pub each : (u : Update) → IsUpdateFrom u before b p list → IsCauseNow u cause

-- so it is unless it has to start afresh, for such a cause
abbrev pub RunsOrStops : Base → Project → List (List ℕ) → Option Directory → Option Directory → Done → Type 0
RunsOrStops b p list before after (Reported r) = RunsClean b p list before after r.value
RunsOrStops b p list before after (Stopped stop) = StopsFrom b p list before stop.value.cause

-- ---- the tasks that ran before it started afresh

-- where a build from this store has to, the tasks that were started ran each once, for a reason, and are reached from a root
abbrev pub BeginsOn : StoreImage → Ending → Project → Option Directory → List Task → List Task → Done → Type 0
BeginsOn s e p held before after (Reported r) = Unit {0}
BeginsOn s e p held before after (Stopped stop) = BeginsEach held p.typed p.digests.items p.roots.items s e.names.items stop.value.cause before after

-- so it is with a build from this base
pub record BeginsFrom (b : Base) (p : Project) (list : List (List ℕ)) (held : Option Directory) (cause : Cause) (before after : List Task) : Type 0 where
  pub each : (u : Update) → IsUpdateFrom u held b p list
      → HaveBegun u (digested u.directory p.digests.items b.image).funcs p.digests.items cause before after

abbrev pub BeginsOrRuns : Base → Project → List (List ℕ) → Option Directory → List Task → List Task → Done → Type 0
BeginsOrRuns b p list held before after (Reported r) = Unit {0}
BeginsOrRuns b p list held before after (Stopped stop) = BeginsFrom b p list held stop.value.cause before after

-- of each such update, these tasks ran so before this cause
pub record RanFrom (b : Base) (p : Project) (list : List (List ℕ)) (held : Option Directory) (cause : Cause) (ran : List Task) : Type 0 where
  pub each : (u : Update) → IsUpdateFrom u held b p list → HaveReasons u (digested u.directory p.digests.items b.image).funcs p.digests.items ran
  pub told : (u : Update) → IsUpdateFrom u held b p list → RanOf u cause ran

-- a report is that of a clean build after these tasks
pub record IsAfreshAfter (d : Directory) (r : Report) (after : Option Directory) (ran : List Task) : Type 0 where
  pub afresh : IsAfresh d r after
  pub is : afresh.before ≡ ran

-- ---- all of it

-- over files that tell their directory, a report that tells no cause to start afresh is that of such a build, and another one that of a clean build, and tells
-- a cause that is so, and the tasks that ran before
pub record RunsCleanOnce (b : Base) (p : Project) (list : List (List ℕ)) (before after : Option Directory) (r : Report) : Type 0 where
  pub once : (d : Directory) → before ≡ Some d → r.fresh ≡ None → RunsClean b p list before after r
  pub afresh : (d : Directory) → before ≡ Some d → IsSome r.fresh → IsAfresh d r after
  pub cause : (d : Directory) → before ≡ Some d → (c : Cause) → r.fresh ≡ Some c → StopsFrom b p list before c
  pub ran : (d : Directory) (told : before ≡ Some d) (some : IsSome r.fresh) (c : Cause) → r.fresh ≡ Some c
      → RanFrom b p list before c (afresh d told some).before

-- a build from the base that is there came to what a build with this list does
pub record FromClean (b : Base) (list : List (List ℕ)) (before after : Option Directory) (r : Report) : Type 0 where
  pub of : (d : Directory) → before ≡ Some d → IsBase d b → BuildsClean list d r after
