-- What `fresh` prints of a directory, the status that it ends with, and what it leaves.
use Rattle.std.specs.Prelude.{◌≡◌, ◌⊎◌, ℕ, Bool, true, false, List, Option, Some, IfSome, Err}
use Rattle.pie_base.specs.declared.status.Status.{Status}
use Rattle.pie_base.specs.declared.status.Status.TheVariants as status
use Rattle.pie_build.specs.Asked.{AsksEntered}
use Rattle.pie_build.specs.Crashes.{StaysAtRest, Withstands}
use Rattle.pie_build.specs.Left.{ChangesIfAccepted, Leaves}
use Rattle.pie_files.specs.Directory.{Directory}
use Rattle.pie_files.specs.declared.files.Call.{Call}
use Rattle.pie_files.specs.Faults.{Rose}
use Rattle.pie_project.specs.Fronts.{ProjectSays}
use Rattle.pie_project.specs.Refusals.{Refusal}
use Rattle.pie_report.specs.declared.report.Report.{Report}
use Rattle.pie_report.specs.Objects.{IsJson}
use Rattle.pie_report.specs.Texts.{IsText}
use Rattle.pie_value.specs.declared.verdict.Verdict.{Verdict}
use Rattle.pie_value.specs.declared.verdict.Verdict.TheVariants as verdicts
use Rattle.pie_report.specs.Refused.{refusal_line}
use Rattle.pie_cli.specs.Run.{is_answer, Gains, GainsAtMost}

-- a text is that of a report: its lines, or its one line of JSON
abbrev pub IsPrinted : Bool → Report → List ℕ → Type 0
IsPrinted false report text = IsText report text
IsPrinted true report text = IsJson report text

-- the status that a build with this verdict ends with
abbrev pub verdict_status : Verdict → Status
verdict_status verdicts.Accepted = status.Ok
verdict_status (verdicts.Refused refusal) = status.Refused

-- the project of a directory is refused: the line tells why, and the directory is as it was
abbrev pub IsRefused : Directory → Option Directory → List ℕ → Status → Type 0
IsRefused d after text ended =
    (e : Refusal) × ProjectSays d (Err e) × (after ≡ Some d) × (text ≡ refusal_line e) × (ended ≡ status.Pipeline)

-- a build of a directory left what its report says, and the text is that of the report
abbrev pub IsReported : Directory → Bool → Option Directory → List ℕ → Status → Type 0
IsReported d json after text ended = (report : Report) × Leaves d report after × IsPrinted json report text × (ended ≡ verdict_status report.verdict)

-- what `fresh` leaves of a directory, what it prints, and the status that it ends with
abbrev pub FreshSays : Directory → Bool → Option Directory → List ℕ → Status → Type 0
FreshSays d json after text ended = IsRefused d after text ended ⊎ IsReported d json after text ended

-- `fresh` ran on a directory: what it leaves, the status, and what the output gained
abbrev pub HasBuilt : Directory → Bool → Option Directory → Option (List ℕ) → Option (List ℕ) → Status → Type 0
HasBuilt d json after held gained ended = (text : List ℕ) × FreshSays d json after text ended × Gains held gained text

-- whatever the definitions let `fresh` say of a directory, whatever it leaves, it is what was answered: the status, and what the output gained
abbrev pub FreshSaysOnly : Directory → Bool → Option (List ℕ) → Option (List ℕ) → Status → Type 0
FreshSaysOnly d json held gained ended =
    (after : Option Directory) (text : List ℕ) (told : Status) → FreshSays d json after text told → (ended ≡ told) × Gains held gained text

-- a text that `fresh` prints of this directory, which it left so
abbrev pub IsFreshText : Directory → Bool → Option Directory → List ℕ → Type 0
IsFreshText d json after text = (ended : Status) × FreshSays d json after text ended

-- what `fresh` says, whatever it ended with: an answer, that the definitions have no other one, what the output gained of one, that no other project than one
-- that the model accepts changes anything, what a crash leaves, and which paths an answer takes
pub record RunsFresh {S : Type 0} (holds : S → Option Directory) (moment : S → ℕ) (left_since : S → ℕ → Directory → Type 0) (images : S → Directory → Type 0)
    (asked : S → Option (List Call)) (faults : S → ℕ) (json : Bool) (old new : S) (held gained : Option (List ℕ)) (ended : Status) : Type 0 where
  pub built : is_answer ended ≡ true → IfSome (holds old) (λ d. HasBuilt d json (holds new) held gained ended)
  pub only : is_answer ended ≡ true → IfSome (holds old) (λ d. FreshSaysOnly d json held gained ended)
  pub printed : IfSome (holds old) (λ d. GainsAtMost (IsFreshText d json (holds new)) (Rose (faults old) (faults new)) held gained ended)
  pub changed : IfSome (holds old) (λ d. ChangesIfAccepted d (holds new))
  pub crash : Withstands holds moment left_since images Leaves old new
  pub durable : is_answer ended ≡ true → StaysAtRest holds images old new
  pub asks : is_answer ended ≡ true → IfSome (holds old) (λ d. AsksEntered d (asked old) (asked new))
