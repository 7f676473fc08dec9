-- A project that is refused is the one that was read.
use Rattle.std.proofs.Common.{◌≡◌, Option, None, Some, Result, Ok, Err, subst}
use Rattle.std.specs.Prelude.{IfSome}
use Rattle.pie_build.specs.inner.Rebuilt.{IsRefusal}
use Rattle.pie_files.specs.Directory.{Directory}
use Rattle.pie_incremental.specs.inner.Refused.{RefusesRight}
use Rattle.pie_project.specs.declared.fault.BuildError.{BuildError}
use Rattle.pie_project.specs.declared.fault.BuildError.TheVariants as errors
use Rattle.pie_report.specs.declared.report.Report.{Report}
use Rattle.pie_auto.specs.declared.automatic.Automatic.{Automatic}

-- by the build
pub found : (o : Option Directory) (e : BuildError) → IfSome o (λ d. RefusesRight {A = Report} d (Err e))
    → IfSome o (λ d. RefusesRight {A = Automatic} d (Err e))
found None e says = tt
found (Some d) (errors.Pipeline f) says = says
found (Some d) (errors.Roots r) says = says
found (Some d) errors.Files says = tt
found (Some d) errors.OutOfMemory says = tt

-- where it isn't refused
pub never : (o : Option Directory) (result : Result Automatic BuildError) → (IsRefusal result → ⊥) → IfSome o (λ d. RefusesRight d result)
never None result not = tt
never (Some d) (Ok r) not = tt
never (Some d) (Err (errors.Pipeline f)) not = absurd (not tt)
never (Some d) (Err (errors.Roots r)) not = absurd (not tt)
never (Some d) (Err errors.Files) not = tt
never (Some d) (Err errors.OutOfMemory) not = tt

-- where nothing changed before
pub after : (old mid : Option Directory) (result : Result Automatic BuildError) → mid ≡ old → IfSome mid (λ d. RefusesRight d result)
    → IfSome old (λ d. RefusesRight d result)
after old mid result same says = subst (λ o. IfSome o (λ d. RefusesRight d result)) same says
