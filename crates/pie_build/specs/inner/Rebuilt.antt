-- What `rebuild` says of a project, of what it leaves, and of the count of faults.
use Rattle.std.specs.Prelude.{◌≡◌, ◌≤◌, ℕ, List, Option, Result, Ok, Err, IfSome, IfOk, IsErrOf}
use Rattle.pie_files.specs.Directory.{Directory}
use Rattle.pie_files.specs.Faults.{Rose}
use Rattle.pie_parser.specs.FunctionTrees.{FunctionTree}
use Rattle.pie_value.specs.declared.task.Task.{Task}
use Rattle.pie_project.specs.declared.fault.BuildError.{BuildError}
use Rattle.pie_project.specs.declared.fault.BuildError.TheVariants as errors
use Rattle.pie_project.specs.Fronts.{ProjectSays}
use Rattle.pie_project.specs.Refusals.{Refusal, IsVerdict, Says}
use Rattle.pie_report.specs.declared.report.Report.{Report}
use Rattle.pie_build.specs.Left.{ChangesIfAccepted, KeepsRest, Leaves}

-- a report comes of a directory that has a project, and a refusal is its refusal
abbrev pub RebuildSays : Directory → Result Report Refusal → Type 0
RebuildSays d (Ok r) = (front : List FunctionTree × List Task) × ProjectSays d (Ok front)
RebuildSays d (Err e) = ProjectSays d (Err e)

-- and no other answer is right: beside a report no refusal is that of the directory, and beside a refusal it has no functions and roots
abbrev pub RebuildsOnly : Directory → Result Report Refusal → Type 0
RebuildsOnly d (Ok r) = (e : Refusal) → ProjectSays d (Err e) → ⊥
RebuildsOnly d (Err e) = (front : List FunctionTree × List Task) → ProjectSays d (Ok front) → ⊥

-- what comes back is said of the project of an observable directory, and no other answer is right
pub record SaysAlone (held : Option Directory) (result : Result Report BuildError) : Type 0 where
  pub says : IfSome held (λ d. Says (λ (r : Report). r) (RebuildSays d) result)
  pub only : IfSome held (λ d. Says (λ (r : Report). r) (RebuildsOnly d) result)

-- a project was there
abbrev pub IsReport : Result Report Refusal → Type 0
IsReport (Ok r) = Unit {0}
IsReport (Err e) = ⊥

-- the pipeline or the roots are refused
abbrev pub IsRefusal : {A : Type 0} → Result A BuildError → Type 0
IsRefusal (Ok a) = ⊥
IsRefusal (Err (errors.Pipeline f)) = Unit {0}
IsRefusal (Err (errors.Roots r)) = Unit {0}
IsRefusal (Err errors.Files) = ⊥
IsRefusal (Err errors.OutOfMemory) = ⊥

-- a build of an observable directory leaves what its report says; whatever was answered, the directory changed only where the model accepts its project, and
-- only at paths that a build may change
pub record LeavesOfProject (before after : Option Directory) (result : Result Report BuildError) : Type 0 where
  pub left : IfSome before (λ d. IfOk result (λ r. Leaves d r after))
  pub changed : IfSome before (λ d. ChangesIfAccepted d after)
  pub rest : KeepsRest before after

-- where the project is refused, the files are as before, and no task was started
pub record RefusesIdle (before after : Option Directory) (old new : List Task) (result : Result Report BuildError) : Type 0 where
  pub refused : IsRefusal result → after ≡ before
  pub idle : IsRefusal result → new ≡ old

-- the count of faults never falls, doesn't rise where there is an answer, and rose where a call on the files failed
pub record Tells {S T : Type 0} (faults : S → ℕ) (old new : S) (result : Result T BuildError) : Type 0 where
  pub later : faults old ≤ faults new
  pub steady : IsVerdict result → faults new ≡ faults old
  pub cause : IsErrOf result errors.Files → Rose (faults old) (faults new)
