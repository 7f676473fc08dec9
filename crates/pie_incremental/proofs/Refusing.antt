-- A project that is refused is the one that was read.
use Rattle.std.proofs.Common.{◌≡◌, Option, None, Some, Result, Ok, Err, subst}
use Rattle.std.specs.Prelude.{IfSome, IfOk}
use Rattle.pie_build.specs.inner.Rebuilt.{IsRefusal, RebuildSays}
use Rattle.pie_files.specs.Directory.{Directory}
use Rattle.pie_project.specs.declared.fault.BuildError.{BuildError}
use Rattle.pie_project.specs.declared.fault.BuildError.TheVariants as errors
use Rattle.pie_project.specs.declared.project.Project.{Project}
use Rattle.pie_project.specs.Fronts.{Front, ProjectSays}
use Rattle.pie_project.specs.inner.Projects.{front_of}
use Rattle.pie_project.specs.Refusals.{OfPipeline, OfRoots, plain, Only, Says}
use Rattle.pie_report.specs.declared.report.Report.{Report}
use Rattle.pie_incremental.specs.inner.Refused.{RefusesRight}

-- by a clean build
pub rebuilt : (o : Option Directory) (result : Result Report BuildError) → IfSome o (λ d. Says (λ (r : Report). r) (RebuildSays d) result)
    → IfSome o (λ d. RefusesRight d result)
rebuilt None result says = tt
rebuilt (Some d) (Ok r) says = tt
rebuilt (Some d) (Err (errors.Pipeline f)) says = says
rebuilt (Some d) (Err (errors.Roots r)) says = says
rebuilt (Some d) (Err errors.Files) says = tt
rebuilt (Some d) (Err errors.OutOfMemory) says = tt

-- where it was read
pub read : (o : Option Directory) (e : BuildError) → IfSome o (λ d. Says front_of (ProjectSays d) (Err e)) → IfSome o (λ d. RefusesRight {A = Report} d (Err e))
read None e says = tt
read (Some d) (errors.Pipeline f) says = says
read (Some d) (errors.Roots r) says = says
read (Some d) errors.Files says = tt
read (Some d) errors.OutOfMemory says = tt

-- where it isn't refused
pub never : (o : Option Directory) (result : Result Report BuildError) → (IsRefusal result → ⊥) → IfSome o (λ d. RefusesRight d result)
never None result not = tt
never (Some d) (Ok r) not = tt
never (Some d) (Err (errors.Pipeline f)) not = absurd (not tt)
never (Some d) (Err (errors.Roots r)) not = absurd (not tt)
never (Some d) (Err errors.Files) not = tt
never (Some d) (Err errors.OutOfMemory) not = tt

-- where nothing changed before
pub after : (old mid : Option Directory) (result : Result Report BuildError) → mid ≡ old → IfSome mid (λ d. RefusesRight d result)
    → IfSome old (λ d. RefusesRight d result)
after old mid result same says = subst (λ o. IfSome o (λ d. RefusesRight d result)) same says

-- where a project was read and built, its report has it, and it isn't refused
pub has_project : (o : Option Directory) (p : Project) (result : Result Report BuildError) → IfSome o (λ d. ProjectSays d (Ok (front_of p)))
    → IfSome o (λ d. IfOk result (λ r. RebuildSays d (Ok r)))
has_project None p result found = tt
has_project (Some d) p (Ok r) found = (front_of p, found)
has_project (Some d) p (Err e) found = tt

pub not_refused : (A : Type 0) (o mid : Option Directory) (p : Project) (result : Result Report BuildError) → mid ≡ o
    → IfSome o (λ d. Only front_of (ProjectSays d) (Ok p)) → IfSome mid (λ d. RefusesRight d result) → IfSome o (λ d. IsRefusal result → A)
not_refused A o mid p result same only says = by o result only (subst (λ x. IfSome x (λ d. RefusesRight d result)) same says)
  where
    by : (x : Option Directory) (r : Result Report BuildError) → IfSome x (λ d. Only front_of (ProjectSays d) (Ok p)) → IfSome x (λ d. RefusesRight d r)
        → IfSome x (λ d. IsRefusal r → A)
    by None r only says = tt
    by (Some d) (Ok r) only says = λ h. absurd h
    by (Some d) (Err (errors.Pipeline f)) only says = λ h.
        let is : ◌≡◌ {A = Front} (Err (OfPipeline (plain f))) (Ok (front_of p)) = only (Err (OfPipeline (plain f))) says in absurd (cc)
    by (Some d) (Err (errors.Roots r)) only says = λ h.
        let is : ◌≡◌ {A = Front} (Err (OfRoots r)) (Ok (front_of p)) = only (Err (OfRoots r)) says in absurd (cc)
    by (Some d) (Err errors.Files) only says = λ h. absurd h
    by (Some d) (Err errors.OutOfMemory) only says = λ h. absurd h

-- a clean build's report has a project
pub rebuilt_project : (o : Option Directory) (result : Result Report BuildError) → IfSome o (λ d. Says (λ (r : Report). r) (RebuildSays d) result)
    → IfSome o (λ d. IfOk result (λ r. RebuildSays d (Ok r)))
rebuilt_project None result says = tt
rebuilt_project (Some d) (Ok r) says = says
rebuilt_project (Some d) (Err e) says = tt

-- where nothing changed before, and no task was started
pub idle_after : (o mid : Option Directory) (A : Type 0) (result : Result Report BuildError) → mid ≡ o → IfSome mid (λ d. IsRefusal result → A)
    → IfSome o (λ d. IsRefusal result → A)
idle_after o mid A result same idle = subst (λ x. IfSome x (λ d. IsRefusal result → A)) same idle

pub project_after : (o mid : Option Directory) (result : Result Report BuildError) → mid ≡ o → IfSome mid (λ d. IfOk result (λ r. RebuildSays d (Ok r)))
    → IfSome o (λ d. IfOk result (λ r. RebuildSays d (Ok r)))
project_after o mid result same project = subst (λ x. IfSome x (λ d. IfOk result (λ r. RebuildSays d (Ok r)))) same project
