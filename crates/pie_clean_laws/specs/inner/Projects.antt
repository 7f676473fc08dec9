-- A directory has one project.
use Rattle.std.specs.Prelude.{◌≡◌}
use Rattle.pie_files.specs.Directory.{Directory}
use Rattle.pie_project.specs.Fronts.{Front, ProjectSays}

-- whatever a directory is said to have for a project is one: the same functions and roots, or the same refusal
abbrev pub ProjectsAreOne : Type 0
ProjectsAreOne = (d : Directory) (r s : Front) → ProjectSays d r → ProjectSays d s → r ≡ s
