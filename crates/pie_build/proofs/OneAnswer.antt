-- What is told of a project is all that could be told.
use Rattle.std.proofs.Common.{◌≡◌, Option, None, Some, Result, Ok, Err}
use Rattle.std.specs.Prelude.{IfSome}
use Rattle.pie_build.specs.inner.Rebuilt.{IsRefusal, IsReport, RebuildSays, RebuildsOnly, SaysAlone}
use Rattle.pie_files.specs.Directory.{Directory}
use Rattle.pie_project.specs.declared.fault.BuildError.{BuildError}
use Rattle.pie_project.specs.declared.fault.BuildError.TheVariants as errors
use Rattle.pie_project.specs.declared.project.Project.{Project}
use Rattle.pie_project.specs.Fronts.{Front, ProjectSays}
use Rattle.pie_project.specs.Refusals.{OfPipeline, OfRoots, plain, Only, Says}
use Rattle.pie_project.specs.inner.Projects.{front_of}
use Rattle.pie_report.specs.declared.report.Report.{Report}

-- a project that was read and built is that of the directory
report_says : (o : Option Directory) (p : Project) (result : Result Report BuildError) → IfSome o (λ d. ProjectSays d (Ok (front_of p)))
    → Says (λ (r : Report). r) IsReport result → IfSome o (λ d. Says (λ (r : Report). r) (RebuildSays d) result)
report_says None p result found says = tt
report_says (Some d) p (Ok r) found says = (front_of p, found)
report_says (Some d) p (Err (errors.Pipeline f)) found says = absurd says
report_says (Some d) p (Err (errors.Roots r)) found says = absurd says
report_says (Some d) p (Err errors.Files) found says = tt
report_says (Some d) p (Err errors.OutOfMemory) found says = tt

-- and has no refusal
report_only : (o : Option Directory) (p : Project) (result : Result Report BuildError) → IfSome o (λ d. Only front_of (ProjectSays d) (Ok p))
    → Says (λ (r : Report). r) IsReport result → IfSome o (λ d. Says (λ (r : Report). r) (RebuildsOnly d) result)
report_only None p result only says = tt
report_only (Some d) p (Ok r) only says = λ e wrong. let is : ◌≡◌ {A = Front} (Err e) (Ok (front_of p)) = only (Err e) wrong in absurd (cc)
report_only (Some d) p (Err (errors.Pipeline f)) only says = absurd says
report_only (Some d) p (Err (errors.Roots r)) only says = absurd says
report_only (Some d) p (Err errors.Files) only says = tt
report_only (Some d) p (Err errors.OutOfMemory) only says = tt

-- what is said of it alone
pub report_alone : (o : Option Directory) (p : Project) (result : Result Report BuildError) → IfSome o (λ d. ProjectSays d (Ok (front_of p)))
    → IfSome o (λ d. Only front_of (ProjectSays d) (Ok p)) → Says (λ (r : Report). r) IsReport result → SaysAlone o result
report_alone o p result found only says = record { says = report_says o p result found says; only = report_only o p result only says }

-- a project that was refused is so refused
refusal_says : (o : Option Directory) (e : BuildError) → IfSome o (λ d. Says front_of (ProjectSays d) (Err e))
    → IfSome o (λ d. Says (λ (r : Report). r) (RebuildSays d) (Err e))
refusal_says None e found = tt
refusal_says (Some d) (errors.Pipeline f) found = found
refusal_says (Some d) (errors.Roots r) found = found
refusal_says (Some d) errors.Files found = tt
refusal_says (Some d) errors.OutOfMemory found = tt

-- and has no functions and roots
refusal_only : (o : Option Directory) (e : BuildError) → IfSome o (λ d. Only front_of (ProjectSays d) (Err e))
    → IfSome o (λ d. Says (λ (r : Report). r) (RebuildsOnly d) (Err e))
refusal_only None e only = tt
refusal_only (Some d) (errors.Pipeline f) only = λ front says.
    let is : ◌≡◌ {A = Front} (Ok front) (Err (OfPipeline (plain f))) = only (Ok front) says in absurd (cc)
refusal_only (Some d) (errors.Roots r) only = λ front says.
    let is : ◌≡◌ {A = Front} (Ok front) (Err (OfRoots r)) = only (Ok front) says in absurd (cc)
refusal_only (Some d) errors.Files only = tt
refusal_only (Some d) errors.OutOfMemory only = tt

-- what is said of it alone
pub refusal_alone : (o : Option Directory) (e : BuildError) → IfSome o (λ d. Says front_of (ProjectSays d) (Err e))
    → IfSome o (λ d. Only front_of (ProjectSays d) (Err e)) → SaysAlone o (Err e)
refusal_alone o e found only = record { says = refusal_says o e found; only = refusal_only o e only }

-- a build that gives a report, or no verdict, refuses no project
pub reported : (result : Result Report BuildError) (A : Type 0) → Says (λ (r : Report). r) IsReport result → IsRefusal result → A
reported (Ok r) A says h = absurd h
reported (Err (errors.Pipeline f)) A says h = absurd says
reported (Err (errors.Roots r)) A says h = absurd says
reported (Err errors.Files) A says h = absurd h
reported (Err errors.OutOfMemory) A says h = absurd h
