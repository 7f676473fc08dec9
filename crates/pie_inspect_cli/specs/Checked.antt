-- What `check` tells a person of a directory, and the status that it ends with.
use Rattle.std.specs.Prelude.{◌≡◌, ℕ, ◌≤◌, Bool, true, false, List, [], ◌∷◌, ◌++◌, length, codes, Option, Some, Result, Ok, Err, IfSome}
use Rattle.std.specs.Fmt.{decimal}
use Rattle.std.specs.Str.{IsUtf8}
use Rattle.pie_base.specs.declared.status.Status.{Status}
use Rattle.pie_base.specs.declared.status.Status.TheVariants as status
use Rattle.pie_files.specs.Directory.{Directory}
use Rattle.pie_project.specs.Fronts.{CheckSays, most}
use Rattle.pie_project.specs.Looking.{file_bytes, pipeline_path}
use Rattle.pie_project.specs.Refusals.{Refusal, OfPipeline, OfRoots}
use Rattle.pie_explain.specs.Places.{BeginsWith, pipeline_place, roots_place}

-- the words that ask for `check`
abbrev pub check_words : List (List ℕ)
check_words = codes "check" ∷ []

-- what is told of the counts of a project
abbrev pub counts_text : ℕ → ℕ → List ℕ
counts_text functions roots = codes "ok: " ++ (decimal functions ++ (codes " functions, " ++ (decimal roots ++ codes " roots\n")))

-- a text tells this refusal of a directory's project: it begins with the place, where that is one in a file
abbrev pub TellsRefusal : Directory → Refusal → List ℕ → Type 0
TellsRefusal d (OfPipeline p) told = (text : List ℕ) → file_bytes d pipeline_path ≡ Some text → IsUtf8 text → length text ≤ most → BeginsWith (pipeline_place text p) told
TellsRefusal d (OfRoots r) told = BeginsWith (roots_place r) told

-- a text tells what a check says of a directory: the counts, or the refusal
abbrev pub TellsCheck : Directory → Result (ℕ × ℕ) Refusal → List ℕ → Type 0
TellsCheck d (Ok p) told = told ≡ counts_text p.0 p.1
TellsCheck d (Err e) told = TellsRefusal d e told

-- the status that `check` ends with
abbrev pub check_status : Result (ℕ × ℕ) Refusal → Status
check_status (Ok p) = status.Ok
check_status (Err e) = status.Refused

-- a status that says what `check` found: not that a fault or out of memory ended it
abbrev pub is_answer : Status → Bool
is_answer status.Ok = true
is_answer status.Refused = true
is_answer s = false

-- the output gained this text
abbrev pub Gains : Option (List ℕ) → Option (List ℕ) → List ℕ → Type 0
Gains before after text = IfSome before (λ bytes. after ≡ Some (bytes ++ text))

-- a directory was checked: what its project is, the status, and what the output gained
abbrev pub HasChecked : Directory → Option (List ℕ) → Option (List ℕ) → Status → Type 0
HasChecked d before after ended = (r : Result (ℕ × ℕ) Refusal) × CheckSays d r × (ended ≡ check_status r)
    × ((told : List ℕ) × TellsCheck d r told × Gains before after told)
