-- What a part of a build by what changed is handed, and what it says, each as one record.
use Rattle.std.specs.Prelude.{◌≡◌, ◌≤◌, ℕ, ◌+◌, List, ◌++◌, drop, length, Box, Option, None, Some, Result, Ok, IfOk, IfSome, OnOk}
use Rattle.std.specs.List.{All}
use Rattle.std.specs.declared.alloc.Global.{Global}
use Rattle.std.proofs.Common.{Vec}
use Rattle.pie_build.specs.Crashes.{StaysAtRest}
use Rattle.pie_build.specs.Left.{KeepsRest}
use Rattle.pie_build.specs.inner.Projects.{IsReady}
use Rattle.pie_build.specs.inner.Rebuilt.{IsRefusal, RebuildSays}
use Rattle.pie_commit.specs.Outcomes.{IsOfThree, KeepsOthers, LeavesFromRest}
use Rattle.pie_commit.specs.declared.plan.Plan.{Plan}
use Rattle.pie_digest.specs.Digests.{HasNames}
use Rattle.pie_files.specs.Directory.{Directory}
use Rattle.pie_files.specs.Images.{Only}
use Rattle.pie_files.specs.Streams.{Counted}
use Rattle.pie_files.specs.declared.files.Call.{Call}
use Rattle.pie_files.specs.declared.files.FilesError.{FilesError}
use Rattle.pie_files.specs.declared.files.FilesError.TheVariants.{Failed}
use Rattle.pie_named.specs.Asking.{MakesOnly}
use Rattle.pie_project.specs.declared.fault.BuildError.{BuildError}
use Rattle.pie_project.specs.declared.project.Project.{Project}
use Rattle.pie_report.specs.declared.report.Report.{Report}
use Rattle.pie_store.specs.Canonical.{AreFuncs}
use Rattle.pie_store.specs.Frame.{IsSealed}
use Rattle.pie_store.specs.declared.cause.Cause.{Cause}
use Rattle.pie_store.specs.declared.image.StoreImage.{StoreImage}
use Rattle.pie_value.specs.Canonical.{IsEncodableTask}
use Rattle.pie_value.specs.declared.task.Task.{Task}
use Rattle.pie_value.specs.declared.verdict.Verdict.{Verdict}
use Rattle.pie_incremental.specs.declared.base.Base.{Base}
use Rattle.pie_incremental.specs.declared.ending.Ending.{Ending}
use Rattle.pie_incremental.specs.declared.run.Done.{Done}
use Rattle.pie_incremental.specs.Own.{IsClosed}
use Rattle.pie_incremental.specs.Runs.{TellsFew}
use Rattle.pie_incremental.specs.inner.Asked.{AsksUnlessAfresh, FromAsking, GoesAsking, IsChange, RunsAsking}
use Rattle.pie_incremental.specs.inner.Crashed.{StaysBefore}
use Rattle.pie_incremental.specs.inner.Joined.{IsAsBefore, IsImage, IsRetold, Reports, Started}
use Rattle.pie_incremental.specs.inner.Plans.{HasChanged, MayPlace, MayPut, Places, Puts}
use Rattle.pie_incremental.specs.inner.Refused.{RefusesRight}
use Rattle.pie_incremental.specs.inner.Updated.{BeginsOn, BeginsOrRuns, FromClean, GoesOn, RunsCleanOnce, RunsOrStops}

-- ---- what is required

-- a project can be built: its digests have the names of its functions, each once in order, and its roots have canonical bytes
pub record IsBuildable (p : Project) : Type 0 where
  pub names : HasNames p.typed p.digests.items
  pub funcs : AreFuncs p.digests.items
  pub roots : All IsEncodableTask p.roots.items

-- a project was read: over observable files its functions are typed and its roots are tasks of them; its digests have the names of its functions, each once in
-- order
pub record IsProjectIn (held : Option Directory) (p : Project) : Type 0 where
  pub ready : IfSome held (λ d. IsReady p.typed p.roots.items)
  pub names : HasNames p.typed p.digests.items
  pub funcs : AreFuncs p.digests.items

-- a build can go on: the records of its store can be stored, are of the program and stand in order, and the text that was read ends in the digest of the rest
pub record CanGoOn (s : StoreImage) (e : Ending) : Type 0 where
  pub image : IsImage s
  pub sealed : IsSealed e.own.store.items

-- ---- the files

-- no path changed but those that a build may change; and where nothing was pending, at each moment a crash leaves one of these, the images at the end are as
-- this says, and once this is settled nothing is pending
pub record Endures {S : Type 0} (holds : S → Option Directory) (moment : S → ℕ) (left_since : S → ℕ → Directory → Type 0) (images : S → Directory → Type 0)
    (May : Directory → Directory → Type 0) (Ends : Directory → (Directory → Type 0) → Type 0) (settled : Type 0) (old new : S) : Type 0 where
  pub rest : KeepsRest (holds old) (holds new)
  pub crash : LeavesFromRest holds moment left_since images May old new
  pub marked : IfSome (holds old) (λ d. Only d (images old) → Ends d (images new))
  pub durable : settled → StaysAtRest holds images old new

-- a build that has to start afresh has changed nothing, and a crash leaves nothing new
pub record StopsAsBefore {S : Type 0} (holds : S → Option Directory) (moment : S → ℕ) (left_since : S → ℕ → Directory → Type 0)
    (images : S → Directory → Type 0) (old new : S) (result : Result Done FilesError) : Type 0 where
  pub stopped : IfOk result (IsAsBefore (holds old) (holds new))
  pub still : IfOk result (StaysBefore holds moment left_since images old new)

-- a plan that was committed left each path as it wants it and no marker, where none stood, and that of an accepted build left what its parts say, with the
-- content of each file; whatever was answered, no other path changed
pub record Commits {A : Type 0} (p : Plan) (before after : Option Directory) (result : Result A FilesError) : Type 0 where
  pub done : IfSome before (λ d. IsClosed d → OnOk result (HasChanged p d after))
  pub puts : IfSome before (λ d. OnOk result (Puts p d after))
  pub places : IfSome before (λ d. OnOk result (Places p d after))
  pub outside : KeepsOthers p before after

-- where nothing was pending, at each moment of the commit of a plan a crash leaves one of three, and of that of an accepted build what its parts say, with the
-- content of each file
pub record StopsCommitting {S : Type 0} (holds : S → Option Directory) (moment : S → ℕ) (left_since : S → ℕ → Directory → Type 0)
    (images : S → Directory → Type 0) (p : Plan) (old new : S) : Type 0 where
  pub crash : LeavesFromRest holds moment left_since images (IsOfThree p) old new
  pub may_put : LeavesFromRest holds moment left_since images (MayPut p) old new
  pub may_place : LeavesFromRest holds moment left_since images (MayPlace p) old new

-- calls that look at nothing: each changes the files or makes changes last, and the count of faults tells exactly whether one failed
pub record ChangesOnly {S T : Type 0} (asked : S → Option (List Call)) (faults : S → ℕ) (old new : S) (result : Result T FilesError) : Type 0 where
  pub asks : MakesOnly IsChange (asked old) (asked new)
  pub counted : Counted faults Failed old new result

-- ---- the tasks that were started

-- tasks were started that have canonical bytes, so many at the most
pub record StartsFew (most : ℕ) (old new : List Task) : Type 0 where
  pub started : Started old new
  pub few : length new ≤ length old + most

-- at most so many tasks were started, and a report tells them
pub record ReportsFew (most : ℕ) (old new : List Task) (result : Result Done FilesError) : Type 0 where
  pub ran : IfOk result (Reports old new)
  pub few : length new ≤ length old + most

-- at most so many tasks were started, a report tells them, and each has canonical bytes
pub record TellsRuns (most : ℕ) (old new : List Task) (result : Result Report BuildError) : Type 0 where
  pub ran : IfOk result (λ r. new ≡ old ++ r.ran.items)
  pub few : length new ≤ length old + most
  pub encodable : IfOk result (λ r. All IsEncodableTask r.ran.items)

-- so it is with 100,000 tasks, and with 50,000 where the report tells no cause to start afresh
pub record TellsRunsOnce (old new : List Task) (result : Result Report BuildError) : Type 0 where
  pub ran : IfOk result (λ r. new ≡ old ++ r.ran.items)
  pub few : length new ≤ length old + 100000
  pub once : IfOk result (λ r. r.fresh ≡ None → length new ≤ length old + 50000)
  pub encodable : IfOk result (λ r. All IsEncodableTask r.ran.items)

-- so it is with 100,000 tasks, and the report tells so many at the most, and 50,000 where it tells no cause to start afresh
pub record TellsRunsFew (old new : List Task) (result : Result Report BuildError) : Type 0 where
  pub ran : IfOk result (λ r. new ≡ old ++ r.ran.items)
  pub few : length new ≤ length old + 100000
  pub most : IfOk result TellsFew
  pub encodable : IfOk result (λ r. All IsEncodableTask r.ran.items)

-- at most 50,000 more tasks were started; a report tells this cause to start afresh, and all tasks that were started after so many, each with canonical bytes
pub record TellsAgain (cause : Cause) (before : ℕ) (old new : List Task) (result : Result Report BuildError) : Type 0 where
  pub fresh : IfOk result (λ r. r.fresh ≡ Some cause)
  pub ran : IfOk result (λ r. r.ran.items ≡ drop before new)
  pub grows : IfOk result (λ r. (more : List Task) × (new ≡ old ++ more))
  pub few : length new ≤ length old + 50000
  pub encodable : IfOk result (λ r. All IsEncodableTask r.ran.items)

-- ---- the report

-- a report has this verdict, tells these tasks as those that ran, and no cause to start afresh
pub record TellsVerdict (v : Verdict) (tasks : Vec Task Global) (result : Result (Box Report Global) FilesError) : Type 0 where
  pub verdict : IfOk result (λ r. r.value.verdict ≡ v)
  pub fresh : IfOk result (λ r. r.value.fresh ≡ None)
  pub ran : IfOk result (λ r. r.value.ran ≡ tasks)

-- where there is an answer, the report of it is the old one with this cause to start afresh and these tasks as those that ran
pub record Retells {A E : Type 0} (cause : Cause) (tasks : List Task) (old : Report) (result : Result A E) (new : A → Report) : Type 0 where
  pub retold : IfOk result (λ a. IsRetold old (new a))
  pub fresh : IfOk result (λ a. (new a).fresh ≡ Some cause)
  pub ran : IfOk result (λ a. (new a).ran.items ≡ tasks)

-- ---- a refusal of the project

-- where the project is refused, the files are as before, and it is refused so
pub record RefusesUnchanged (before after : Option Directory) (result : Result Report BuildError) : Type 0 where
  pub refused : IsRefusal result → after ≡ before
  pub says : IfSome before (λ d. RefusesRight d result)

-- where the project is refused, no task was started; and a report comes of a directory that has a project
pub record BuildsProject (held : Option Directory) (old new : List Task) (result : Result Report BuildError) : Type 0 where
  pub idle : IfSome held (λ d. IsRefusal result → new ≡ old)
  pub project : IfSome held (λ d. IfOk result (λ r. RebuildSays d (Ok r)))

-- ---- of each update

-- a build from this store is that of each update (clean) and looks only at what it may (asks); where it has to start afresh, the tasks that were started before
-- ran for a reason (before)
pub record GoesFor (s : StoreImage) (e : Ending) (p : Project) (held after : Option Directory) (asked asked_now : Option (List Call)) (old new : List Task)
    (result : Result Done FilesError) : Type 0 where
  pub clean : IfOk result (GoesOn s e p held after)
  pub asks : IfOk result (GoesAsking s e p held asked asked_now)
  pub before : IfOk result (BeginsOn s e p held old new)

-- so it is with a build from this base, with this list
pub record RunsFor (b : Base) (p : Project) (list : List (List ℕ)) (held after : Option Directory) (asked asked_now : Option (List Call))
    (old new : List Task) (result : Result Done FilesError) : Type 0 where
  pub clean : IfOk result (RunsOrStops b p list held after)
  pub asks : IfOk result (RunsAsking b p list held asked asked_now)
  pub before : IfOk result (BeginsOrRuns b p list held old new)

-- and with the whole build of a project
pub record BuildsFor (b : Base) (p : Project) (list : List (List ℕ)) (held after : Option Directory) (asked asked_now : Option (List Call))
    (result : Result Report BuildError) : Type 0 where
  pub clean : IfOk result (RunsCleanOnce b p list held after)
  pub asks : IfOk result (AsksUnlessAfresh b p list held asked asked_now)

-- and with the build of a directory that has this base
pub record BuildsFrom (b : Base) (list : List (List ℕ)) (held after : Option Directory) (asked asked_now : Option (List Call))
    (result : Result Report BuildError) : Type 0 where
  pub clean : IfOk result (FromClean b list held after)
  pub asks : IfOk result (FromAsking b list held asked asked_now)
