-- What is told of a directory's project, before it is printed.
use Rattle.std.specs.Prelude.{◌≡◌, ℕ, List, Option, Result, Ok, Err, string_bytes}
use Rattle.pie_base.specs.declared.status.Status.{Status}
use Rattle.pie_base.specs.declared.status.Status.TheVariants as status
use Rattle.pie_files.specs.Directory.{Directory}
use Rattle.pie_files.specs.declared.files.FilesError.{FilesError}
use Rattle.pie_project.specs.Fronts.{CheckSays}
use Rattle.pie_project.specs.Refusals.{Refusal}
use Rattle.pie_inspect_cli.specs.Checked.{Gains, TellsCheck, TellsRefusal, check_status}
use Rattle.pie_inspect_cli.specs.declared.checking.Told.{Told}

-- what is told of a refusal, with its status
abbrev pub Says : Directory → Refusal → Told → Type 0
Says d e told = TellsRefusal d e (string_bytes told.text) × (told.status ≡ status.Refused)

-- what is told of a directory is what a check says of it
abbrev pub TellsFirst : Directory → Told → Type 0
TellsFirst d told = (r : Result (ℕ × ℕ) Refusal) × CheckSays d r × TellsCheck d r (string_bytes told.text) × (told.status ≡ check_status r)

-- what was told was printed, and its status is what a run ends with
abbrev pub Shows : Option (List ℕ) → Option (List ℕ) → Result Told FilesError → Status → Type 0
Shows before after (Ok told) ended = (ended ≡ told.status) × Gains before after (string_bytes told.text)
Shows before after (Err e) ended = ⊥
