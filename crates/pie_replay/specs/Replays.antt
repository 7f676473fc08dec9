-- What replaying a script says.
use Rattle.std.specs.Prelude.{◌≡◌, ◌⊎◌, ℕ, Bool, false, List, [], ◌∷◌, ◌++◌, Option, Some, IfSome, Result, Ok, Err, OnOk}
use Rattle.std.specs.List.{list_any}
use Rattle.pie_base.specs.Path.{same_text}
use Rattle.pie_build.specs.Left.{KeepsRest, may_change}
use Rattle.pie_files.specs.Directory.{Directory, file_at}
use Rattle.pie_files.specs.Calls.{MayHaveWritten, MayHaveRemoved}
use Rattle.pie_files.specs.declared.files.Call.{Call}
use Rattle.pie_files.specs.Reading.{Leaves}
use Rattle.pie_project.specs.declared.fault.BuildError.{BuildError}
use Rattle.pie_project.specs.declared.fault.BuildError.TheVariants as errors
use Rattle.pie_report.specs.declared.report.Report.{Report}
use Rattle.pie_script.specs.Steps.{Plain, PutFile, DelFile, Name, BuildNow}
use Rattle.pie_value.specs.declared.task.Task.{Task}
use Rattle.pie_replay.specs.Crashes.{LeavesSince, StepLeaves, Survives}
use Rattle.pie_replay.specs.Looks.{LooksRight}
use Rattle.pie_replay.specs.Trace.{Trace}

-- the pipeline or the roots are refused
abbrev pub Refuses : BuildError → Type 0
Refuses (errors.Pipeline fault) = Unit {0}
Refuses (errors.Roots reason) = Unit {0}
Refuses errors.Files = ⊥
Refuses errors.OutOfMemory = ⊥

-- what a step leaves that failed: a file that was to be put may have any bytes, one that was to be removed may be gone or not; a project that is refused is
-- as it was, and it comes of a build alone
abbrev pub Fails : {S : Type 0} → (S → Option Directory) → Plain → BuildError → S → S → Type 0
Fails holds (PutFile path bytes) e old new = ¬ (Refuses e) × IfSome (holds old) (λ d. MayHaveWritten d path (holds new))
Fails holds (DelFile path) e old new = ¬ (Refuses e) × IfSome (holds old) (λ d. MayHaveRemoved d path (holds new))
Fails holds (Name path) e old new = ¬ (Refuses e) × (new ≡ old)
Fails holds BuildNow e old new = KeepsRest (holds old) (holds new) × (Refuses e → holds new ≡ holds old)

-- the steps before one that failed were done, with these reports
pub record Stopped {S : Type 0} (holds : S → Option Directory) (steps : List Plain) (gained : List Report) (e : BuildError) (old new : S) : Type 0 where
  pub front : List Plain
  pub step : Plain
  pub rest : List Plain
  pub parted : steps ≡ front ++ step ∷ rest
  pub names : List (List ℕ)
  pub mid : S
  pub done : Trace holds old front names gained mid
  pub failed : Fails holds step e mid new

-- all steps were done, or those before one that failed
abbrev pub Went : {S T : Type 0} → (S → Option Directory) → List Plain → List Report → S → S → Result T BuildError → Type 0
Went holds steps gained old new (Ok done) = (names : List (List ℕ)) × Trace holds old steps names gained new
Went holds steps gained old new (Err e) = Stopped holds steps gained e old new

-- where the directory is observable, a crash now, or at a moment since a script began that stopped, leaves only what it may leave of the steps that were
-- done and of the one that failed
abbrev pub SurvivesStop : {S : Type 0} (holds : S → Option Directory) (moment : S → ℕ) (left_since : S → ℕ → Directory → Type 0)
    (images : S → Directory → Type 0) (steps : List Plain) (gained : List Report) (e : BuildError) (old new : S) → Stopped holds steps gained e old new → Type 0
SurvivesStop holds moment left_since images steps gained e old new stopped = IfSome (holds old) (λ d. Leaves moment left_since images
    (λ c. LeavesSince holds images old stopped.done c ⊎ StepLeaves holds images old stopped.done stopped.step c) old new)

-- what a crash leaves of a script, all of whose steps were done, or those before one that failed
abbrev pub WentSurviving : {S T : Type 0} (holds : S → Option Directory) (moment : S → ℕ) (left_since : S → ℕ → Directory → Type 0)
    (images : S → Directory → Type 0) (steps : List Plain) (gained : List Report) (old new : S) (result : Result T BuildError)
    → Went holds steps gained old new result → Type 0
WentSurviving holds moment left_since images steps gained old new (Ok done) went = Survives holds moment left_since images old new went.1
WentSurviving holds moment left_since images steps gained old new (Err e) stopped =
    SurvivesStop holds moment left_since images steps gained e old new stopped

-- where the builds of a script looked that were done
abbrev pub WentLooking : {S T : Type 0} (holds : S → Option Directory) (asked : S → Option (List Call)) (steps : List Plain) (gained : List Report)
    (old new : S)
    (result : Result T BuildError) → Went holds steps gained old new result → Type 0
WentLooking holds asked steps gained old new (Ok done) went = LooksRight holds asked old went.1
WentLooking holds asked steps gained old new (Err e) stopped = LooksRight holds asked old stopped.done

-- the tasks that were started in some builds
abbrev pub tasks_of : List Report → List Task
tasks_of [] = []
tasks_of (r ∷ reports) = r.ran.items ++ tasks_of reports

-- what replaying these steps says: the reports that came, how the steps went, what a crash leaves of them, where the builds looked, and which tasks were
-- started
pub record Replays {S T : Type 0} (holds : S → Option Directory) (moment : S → ℕ) (left_since : S → ℕ → Directory → Type 0) (images : S → Directory → Type 0)
    (asked : S → Option (List Call)) (steps : List Plain) (old new : S) (before after : List Report) (runs ran : List Task) (result : Result T BuildError)
    : Type 0 where
  pub gained : List Report
  pub appended : after ≡ before ++ gained
  pub went : Went holds steps gained old new result
  pub crash : WentSurviving holds moment left_since images steps gained old new result went
  pub looks : WentLooking holds asked steps gained old new result went
  pub started : OnOk result (ran ≡ runs ++ tasks_of gained)

-- a step puts or removes the file at this path
abbrev pub touches : List ℕ → Plain → Bool
touches q (PutFile path bytes) = same_text q path
touches q (DelFile path) = same_text q path
touches q (Name path) = false
touches q BuildNow = false

-- where the directory is observable, it is told still, and every path that no build may change and none of the steps puts or removes has the file that it had
pub record KeepsOthers (steps : List Plain) (before after : Option Directory) : Type 0 where
  pub kept : IfSome before (λ d. (e : Directory) × (after ≡ Some e)
      × ((q : List ℕ) → may_change q ≡ false → list_any (touches q) steps ≡ false → file_at e q ≡ file_at d q))
