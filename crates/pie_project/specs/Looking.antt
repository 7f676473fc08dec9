-- What reading some files asks and leaves.
use Rattle.std.specs.Prelude.{◌≡◌, ◌≤◌, ℕ, List, [], ◌∷◌, ◌++◌, take, codes, Option, Some, Result, IfSome, OnOk, IsErrOf}
use Rattle.std.specs.Option.{option_map}
use Rattle.pie_files.specs.declared.files.Call.{Call}
use Rattle.pie_files.specs.declared.files.Call.TheVariants.{Read}
use Rattle.pie_files.specs.Directory.{Directory, file_at}
use Rattle.pie_files.specs.Faults.{Rose}
use Rattle.pie_project.specs.declared.fault.BuildError.{BuildError}
use Rattle.pie_project.specs.declared.fault.BuildError.TheVariants.{Files}
use Rattle.pie_project.specs.Refusals.{IsVerdict}

-- the bytes of a file, if it is there
abbrev pub file_bytes : Directory → List ℕ → Option (List ℕ)
file_bytes d path = option_map (λ file. file.0) (file_at d path)

-- the paths of the two files that describe a project
abbrev pub pipeline_path : List ℕ
pipeline_path = codes "pie.pipeline"

-- the file of the roots
abbrev pub roots_path : List ℕ
roots_path = codes "pie.roots"

-- the calls that read a project: first its pipeline, then its roots
abbrev pub prefix_calls : List Call
prefix_calls = Read pipeline_path ∷ Read roots_path ∷ []

-- where the list of calls is observable, it has gained a prefix of these
abbrev pub Asks : List Call → Option (List Call) → Option (List Call) → Type 0
Asks calls before after = IfSome before (λ asked. (n : ℕ) × (after ≡ Some (asked ++ take n calls)))

-- where the list of calls is observable, it has gained these
abbrev pub AsksAll : List Call → Option (List Call) → Option (List Call) → Type 0
AsksAll calls before after = IfSome before (λ asked. after ≡ Some (asked ++ calls))

-- reading changes no file, asks these calls in order and no other, and fails only where the count of faults rose
pub record Looks {S T : Type 0} (holds : S → Option Directory) (asked : S → Option (List Call)) (faults : S → ℕ) (calls : List Call) (old new : S)
    (result : Result T BuildError) : Type 0 where
  pub same : holds new ≡ holds old
  pub asks : Asks calls (asked old) (asked new)
  pub all : OnOk result (AsksAll calls (asked old) (asked new))
  pub later : faults old ≤ faults new
  pub steady : IsVerdict result → faults new ≡ faults old
  pub cause : IsErrOf result Files → Rose (faults old) (faults new)
