-- A project that is refused is the one that was read.
use Rattle.std.proofs.Common.{Option, None, Some, Ok, Err}
use Rattle.std.specs.Prelude.{IfSome}
use Rattle.pie_files.specs.Directory.{Directory}
use Rattle.pie_incremental.specs.inner.Refused.{RefusesRight}
use Rattle.pie_project.specs.declared.fault.BuildError.{BuildError}
use Rattle.pie_project.specs.declared.fault.BuildError.TheVariants as errors
use Rattle.pie_project.specs.Fronts.{ProjectSays}
use Rattle.pie_project.specs.Refusals.{Says}
use Rattle.pie_project.specs.inner.Projects.{front_of}
use Rattle.pie_topdown_build.specs.declared.offered.Offered.{Offered}

-- of what was offered: no project is refused
pub offered : (o : Option Directory) (r : Offered) → IfSome o (λ d. RefusesRight {A = Offered} d (Ok r))
offered None r = tt
offered (Some d) r = tt

-- where it was read
pub read : (o : Option Directory) (e : BuildError) → IfSome o (λ d. Says front_of (ProjectSays d) (Err e))
    → IfSome o (λ d. RefusesRight {A = Offered} d (Err e))
read None e says = tt
read (Some d) (errors.Pipeline f) says = says
read (Some d) (errors.Roots r) says = says
read (Some d) errors.Files says = tt
read (Some d) errors.OutOfMemory says = tt
