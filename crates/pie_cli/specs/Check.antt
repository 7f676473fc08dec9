-- What `check` prints of a directory, and the status that it ends with.
use Rattle.std.specs.Prelude.{◌≡◌, ℕ, true, List, ◌++◌, codes, Option, Result, Ok, Err, IfSome, string_bytes}
use Rattle.std.specs.Fmt.{decimal}
use Rattle.pie_base.specs.declared.status.Status.{Status}
use Rattle.pie_base.specs.declared.status.Status.TheVariants as status
use Rattle.pie_files.specs.Directory.{Directory}
use Rattle.pie_files.specs.declared.files.Call.{Call}
use Rattle.pie_files.specs.Faults.{Rose}
use Rattle.pie_files.specs.Reading.{LeavesAsBefore}
use Rattle.pie_project.specs.Refusals.{Refusal}
use Rattle.pie_project.specs.Fronts.{CheckSays}
use Rattle.pie_project.specs.Looking.{Asks, prefix_calls}
use Rattle.pie_report.specs.Refused.{refusal_line}
use Rattle.pie_cli.specs.declared.told.CommandResult.{CommandResult}
use Rattle.pie_cli.specs.Run.{is_answer, Gains, GainsAtMost}

-- what is printed of counts
abbrev pub counts_text : ℕ → ℕ → List ℕ
counts_text functions roots = codes "ok " ++ (decimal functions ++ (codes " functions, " ++ (decimal roots ++ codes " roots\n")))

-- what `check` prints of the counts of a project or its refusal
abbrev pub check_text : Result (ℕ × ℕ) Refusal → List ℕ
check_text (Ok p) = counts_text p.0 p.1
check_text (Err e) = refusal_line e

-- the status that `check` ends with
abbrev pub check_status : Result (ℕ × ℕ) Refusal → Status
check_status (Ok p) = status.Ok
check_status (Err e) = status.Pipeline

-- what is told is the counts of a directory's project, or its refusal
abbrev pub Tells : Directory → CommandResult → Type 0
Tells d told = (r : Result (ℕ × ℕ) Refusal) × CheckSays d r × (string_bytes told.text ≡ check_text r) × (told.status ≡ check_status r)

-- whatever the definitions say of a directory, it is what is told
abbrev pub TellsOnly : Directory → CommandResult → Type 0
TellsOnly d told = (r : Result (ℕ × ℕ) Refusal) → CheckSays d r → (string_bytes told.text ≡ check_text r) × (told.status ≡ check_status r)

-- a directory was checked: the status, and what the output gained
abbrev pub HasChecked : Directory → Option (List ℕ) → Option (List ℕ) → Status → Type 0
HasChecked d before after ended = (r : Result (ℕ × ℕ) Refusal) × CheckSays d r × (ended ≡ check_status r) × Gains before after (check_text r)

-- whatever the definitions say of a directory, it is what was answered: the status, and what the output gained
abbrev pub AnswersOnly : Directory → Option (List ℕ) → Option (List ℕ) → Status → Type 0
AnswersOnly d before after ended = (r : Result (ℕ × ℕ) Refusal) → CheckSays d r → (ended ≡ check_status r) × Gains before after (check_text r)

-- a text that `check` prints of this directory: its counts or its refusal
abbrev pub IsCheckText : Directory → List ℕ → Type 0
IsCheckText d text = (r : Result (ℕ × ℕ) Refusal) × CheckSays d r × (text ≡ check_text r)

-- what `check` says, whatever it ended with: an answer, that the definitions have no other one, what the output gained of one, and that it reads the two
-- files of the project alone
pub record RunsCheck {S : Type 0} (holds : S → Option Directory) (moment : S → ℕ) (left_since : S → ℕ → Directory → Type 0) (images : S → Directory → Type 0)
    (asked : S → Option (List Call)) (faults : S → ℕ) (old new : S) (held gained : Option (List ℕ)) (ended : Status) : Type 0 where
  pub checked : is_answer ended ≡ true → IfSome (holds old) (λ d. HasChecked d held gained ended)
  pub only : is_answer ended ≡ true → IfSome (holds old) (λ d. AnswersOnly d held gained ended)
  pub printed : IfSome (holds old) (λ d. GainsAtMost (IsCheckText d) (Rose (faults old) (faults new)) held gained ended)
  pub same : holds new ≡ holds old
  pub crash : LeavesAsBefore holds moment left_since images old new
  pub asks : Asks prefix_calls (asked old) (asked new)
