-- A build that refuses a project.
use Rattle.std.specs.Prelude.{Result, Ok, Err}
use Rattle.pie_files.specs.Directory.{Directory}
use Rattle.pie_project.specs.declared.fault.BuildError.{BuildError}
use Rattle.pie_project.specs.Fronts.{ProjectSays}
use Rattle.pie_project.specs.Refusals.{Refusal, Says}

-- the project of a directory is refused so, if one is
abbrev pub IsRefusalOf : {A : Type 0} → Directory → Result A Refusal → Type 0
IsRefusalOf d (Ok a) = Unit {0}
IsRefusalOf d (Err e) = ProjectSays d (Err e)

-- where a build refuses a project, that is the one of a directory, and so it is refused
abbrev pub RefusesRight : {A : Type 0} → Directory → Result A BuildError → Type 0
RefusesRight {A = A} d result = Says {A = A} {B = A} (λ a. a) (IsRefusalOf {A = A} d) result
