-- What a command says that reads a list of paths from its input, and when it changes no file.
use Rattle.std.specs.Prelude.{◌≡◌, ◌⊎◌, ℕ, true, List, [], Option, Some, IfSome}
use Rattle.pie_base.specs.declared.status.Status.{Status}
use Rattle.pie_base.specs.declared.status.Status.TheVariants as status
use Rattle.pie_commit.specs.Outcomes.{LeavesFromRest}
use Rattle.pie_files.specs.Directory.{Directory}
use Rattle.pie_files.specs.Faults.{Rose}
use Rattle.pie_incremental.specs.Crashes.{EndsMarked}
use Rattle.pie_input.specs.Names.{AreNames, IsBad}
use Rattle.pie_report.specs.Refused.{bad_input_text}
use Rattle.pie_script.specs.declared.fault.InputFault.{InputFault}
use Rattle.pie_cli.specs.Run.{is_answer, input_fault_text, Gains, GainsAtMost}

-- the list of an input is refused: the line tells why
abbrev pub IsBadInput : Option (List ℕ) → List ℕ → Status → Type 0
IsBadInput left text ended =
    (fault : InputFault) × IfSome left (λ bytes. IsBad bytes fault) × (text ≡ bad_input_text fault) × (ended ≡ status.BadInput)

-- the list of an input has these paths, and the input was read to its end
abbrev pub IsRead : List (List ℕ) → Option (List ℕ) → Option (List ℕ) → Type 0
IsRead names left after = IfSome left (λ bytes. AreNames bytes names × (after ≡ Some []))

-- a command ran that says this of what the files held and hold, whatever it ended with: an answer, and what the output gained of one
pub record RunsSaying {S : Type 0} (says : Option Directory → Option Directory → List ℕ → Status → Type 0) (holds : S → Option Directory) (faults : S → ℕ)
    (old new : S) (held gained : Option (List ℕ)) (ended : Status) : Type 0 where
  pub said : is_answer ended ≡ true → (text : List ℕ) × says (holds old) (holds new) text ended × Gains held gained text
  pub printed : GainsAtMost (λ text. (said : Status) × says (holds old) (holds new) text said) (Rose (faults old) (faults new)) held gained ended

-- what a command says that says this of a list of paths: the list is refused, and nothing is asked of the files; or it was read, and the rest is that of
-- its paths
abbrev pub ListSays : {S : Type 0} → (List (List ℕ) → Option Directory → Option Directory → List ℕ → Status → Type 0) → (S → Option Directory)
    → S → S → Option (List ℕ) → Option (List ℕ) → List ℕ → Status → Type 0
ListSays says holds old new left after text ended = (IsBadInput left text ended × (new ≡ old))
    ⊎ ((names : List (List ℕ)) × IsRead names left after × says names (holds old) (holds new) text ended)

-- a text that such a command prints: what it says, or that the input failed
abbrev pub IsListText : {S : Type 0} → (List (List ℕ) → Option Directory → Option Directory → List ℕ → Status → Type 0) → (S → Option Directory)
    → S → S → Option (List ℕ) → Option (List ℕ) → Type 0 → List ℕ → Type 0
IsListText says holds old new left after InputFailed text =
    ((ended : Status) × ListSays says holds old new left after text ended) ⊎ (InputFailed × (text ≡ input_fault_text))

-- where nothing was pending, what a crash leaves of such a command: nothing was asked of the files; or the list was read, and it leaves only what has P of its
-- paths
abbrev pub ListLeaves : {S : Type 0} → (List (List ℕ) → Directory → Directory → Type 0) → (S → Option Directory) → (S → ℕ) → (S → ℕ → Directory → Type 0)
    → (S → Directory → Type 0) → S → S → Option (List ℕ) → Option (List ℕ) → Type 0
ListLeaves P holds moment left_since images old new left after =
    (new ≡ old) ⊎ ((names : List (List ℕ)) × IsRead names left after × LeavesFromRest holds moment left_since images (P names) old new)

-- where nothing was pending, what every image has at the end of such a command: nothing was asked of the files; or the list was read, and the marker stands in
-- each unless nothing changed, or each has D of its paths
abbrev pub ListEnds : {S : Type 0} → (List (List ℕ) → Directory → Directory → Type 0) → (S → Option Directory) → (S → Directory → Type 0) → S → S
    → Option (List ℕ) → Option (List ℕ) → Type 0
ListEnds D holds images old new left after = (new ≡ old) ⊎ ((names : List (List ℕ)) × IsRead names left after × EndsMarked holds images (D names) old new)

-- what such a command says, whatever it ended with: an answer, what the output gained of one, and that a list that is refused, or an input that fails,
-- leaves the files alone
pub record RunsByList {S I : Type 0} (says : List (List ℕ) → Option Directory → Option Directory → List ℕ → Status → Type 0) (holds : S → Option Directory)
    (faults : S → ℕ) (left : I → Option (List ℕ)) (input_faults : I → ℕ) (old new : S) (input after : I) (held gained : Option (List ℕ)) (ended : Status)
    : Type 0 where
  pub said : is_answer ended ≡ true → (text : List ℕ) × ListSays says holds old new (left input) (left after) text ended × Gains held gained text
  pub printed : GainsAtMost (IsListText says holds old new (left input) (left after) (Rose (input_faults input) (input_faults after)))
      (Rose (faults old) (faults new)) held gained ended
  pub bad : IfSome (left input) (λ bytes. (fault : InputFault) → IsBad bytes fault → new ≡ old)
  pub unread : ended ≡ status.Input → new ≡ old
