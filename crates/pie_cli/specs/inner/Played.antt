-- How the steps of a script end, and what is told of them.
use Rattle.std.specs.Prelude.{◌≡◌, ◌≢◌, ◌⊎◌, ℕ, Bool, true, List, ◌++◌, All, Option, Result, Ok, Err}
use Rattle.pie_base.specs.declared.status.Status.{Status}
use Rattle.pie_base.specs.declared.status.Status.TheVariants as status
use Rattle.pie_files.specs.Directory.{Directory}
use Rattle.pie_files.specs.declared.files.Call.{Call}
use Rattle.pie_files.specs.Faults.{Rose}
use Rattle.pie_project.specs.declared.fault.BuildError.{BuildError}
use Rattle.pie_project.specs.declared.fault.BuildError.TheVariants as errors
use Rattle.pie_project.specs.Refusals.{OfPipeline, OfRoots, plain}
use Rattle.pie_report.specs.declared.report.Report.{Report}
use Rattle.pie_report.specs.Refused.{refusal_line}
use Rattle.pie_script.specs.Steps.{Plain}
use Rattle.pie_value.specs.Canonical.{IsEncodableTask}
use Rattle.pie_words.specs.declared.command.Command.{Command}
use Rattle.pie_words.specs.declared.command.Command.TheVariants as commands
use Rattle.pie_cli.specs.Fresh.{IsPrinted}
use Rattle.pie_cli.specs.Replay.{ArePrinted, HasFailed, ReplaySays, heading, last_status}
use Rattle.pie_cli.specs.Run.{files_fault_text, is_answer, Gains, GainsAtMost}

-- a command that does no script
abbrev pub HasNoScript : Command → Type 0
HasNoScript command = (json : Bool) → command ≢ commands.Replay json

-- a command that changes no other files than those under `out/` and the builder's own three
abbrev pub ChangesWithin : Command → Type 0
ChangesWithin command = HasNoScript command × (command ≢ commands.Auto) × (command ≢ commands.Cached)

-- a command that reads no input
abbrev pub HasNoInput : Command → Type 0
HasNoInput command = ((json : Bool) → (command ≢ commands.Build json) × (command ≢ commands.Replay json)) × (command ≢ commands.Scan) × (command ≢ commands.Auto)

-- the tasks that a report tells have canonical bytes, by which they are ordered
abbrev pub IsTellable : Report → Type 0
IsTellable report = All IsEncodableTask report.ran.items

-- the report of the k-th build was added to a text
abbrev pub Adds : Bool → ℕ → Report → List ℕ → List ℕ → Type 0
Adds json k report old new = (one : List ℕ) × IsPrinted json report one × (new ≡ old ++ (heading json k ++ one))

-- a text is that of these reports and a line
abbrev pub IsBefore : Bool → List Report → List ℕ → List ℕ → Type 0
IsBefore json reports line text = (earlier : List ℕ) × ArePrinted json 1 reports earlier × (text ≡ earlier ++ line)

-- what is told of a script that came to these reports, and ended so
abbrev pub TellsScript : {T : Type 0} → Bool → List Report → Result T BuildError → List ℕ → Status → Type 0
TellsScript json reports (Ok done) text ended = ArePrinted json 1 reports text × (ended ≡ last_status reports)
TellsScript json reports (Err (errors.Pipeline fault)) text ended =
    IsBefore json reports (refusal_line (OfPipeline (plain fault))) text × (ended ≡ status.Pipeline)
TellsScript json reports (Err (errors.Roots reason)) text ended = IsBefore json reports (refusal_line (OfRoots reason)) text × (ended ≡ status.Pipeline)
TellsScript json reports (Err errors.Files) text ended = IsBefore json reports files_fault_text text × (ended ≡ status.Files)
TellsScript json reports (Err errors.OutOfMemory) text ended = ⊥

-- what the steps of a script came to, or that a call on the files failed
abbrev pub PlaySays : {S : Type 0} → (S → Option Directory) → (S → ℕ) → (S → ℕ → Directory → Type 0) → (S → Directory → Type 0)
    → (S → Option (List Call)) → (S → ℕ) → Bool → List Plain → S → S → List ℕ → Status → Type 0
PlaySays holds moment left_since images asked faults json steps old new text ended =
    ((is_answer ended ≡ true) × (faults new ≡ faults old) × ReplaySays holds moment left_since images asked json steps old new text ended)
    ⊎ ((ended ≡ status.Files) × Rose (faults old) (faults new) × HasFailed holds moment left_since images asked json steps old new text)

-- the steps of a script were done, whatever it ended with
pub record Plays {S : Type 0} (holds : S → Option Directory) (moment : S → ℕ) (left_since : S → ℕ → Directory → Type 0) (images : S → Directory → Type 0)
    (asked : S → Option (List Call)) (faults : S → ℕ) (json : Bool) (steps : List Plain) (old new : S) (held gained : Option (List ℕ)) (ended : Status)
    : Type 0 where
  pub played : is_answer ended ≡ true → (faults new ≡ faults old)
      × (text : List ℕ) × ReplaySays holds moment left_since images asked json steps old new text ended × Gains held gained text
  pub failed : ended ≡ status.Files → Rose (faults old) (faults new)
      × (text : List ℕ) × HasFailed holds moment left_since images asked json steps old new text × Gains held gained text
  pub printed : GainsAtMost (λ text. (said : Status) × PlaySays holds moment left_since images asked faults json steps old new text said) ⊥ held gained ended
  pub no_input : ended ≢ status.Input
