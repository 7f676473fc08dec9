-- What a run of the program says.
use Rattle.std.specs.Prelude.{◌≡◌, ◌≢◌, ◌⊎◌, ℕ, Bool, true, false, List, [], ◌++◌, take, Option, Some, IfSome, codes}
use Rattle.pie_base.specs.declared.status.Status.{Status}
use Rattle.pie_base.specs.declared.status.Status.TheVariants as status
use Rattle.pie_files.specs.Faults.{Rose}
use Rattle.pie_words.specs.Commands.{words_of, is_allowed, usage_text}
use Rattle.pie_words.specs.declared.command.Command.{Command}
use Rattle.pie_words.specs.declared.command.Command.TheVariants as commands

-- no command has these words
abbrev pub IsUsage : List (List ℕ) → Type 0
IsUsage words = (command : Command) → is_allowed command ≡ true → words ≢ words_of command

-- no command that reads its input has these words
abbrev pub NeedsNoInput : List (List ℕ) → Type 0
NeedsNoInput words =
    ((json : Bool) → (words ≢ words_of (commands.Build json)) × (words ≢ words_of (commands.Replay json)))
    × (words ≢ words_of commands.Scan) × (words ≢ words_of commands.Auto)

-- no command that does the steps of a script has these words
abbrev pub IsNoScript : List (List ℕ) → Type 0
IsNoScript words = (json : Bool) → words ≢ words_of (commands.Replay json)

-- no command that may change other files than those under `out/` and the builder's own three has these words
abbrev pub StaysWithin : List (List ℕ) → Type 0
StaysWithin words = IsNoScript words × (words ≢ words_of commands.Auto) × (words ≢ words_of commands.Cached)

-- what is printed where a call on the files failed
abbrev pub files_fault_text : List ℕ
files_fault_text = codes "files fault\n"

-- what is printed where the input failed
abbrev pub input_fault_text : List ℕ
input_fault_text = codes "input fault\n"

-- a status that says what became of the command: not that a fault or out of memory ended it
abbrev pub is_answer : Status → Bool
is_answer status.Ok = true
is_answer status.Refused = true
is_answer status.Usage = true
is_answer status.BadInput = true
is_answer status.Pipeline = true
is_answer status.Files = false
is_answer status.Input = false
is_answer status.Output = false
is_answer status.Memory = false

-- the output gained this text
abbrev pub Gains : Option (List ℕ) → Option (List ℕ) → List ℕ → Type 0
Gains before after text = IfSome before (λ bytes. after ≡ Some (bytes ++ text))

-- the output gained a prefix of this text
abbrev pub GainsPrefix : Option (List ℕ) → Option (List ℕ) → List ℕ → Type 0
GainsPrefix before after text = IfSome before (λ bytes. (n : ℕ) × (after ≡ Some (bytes ++ take n text)))

-- a status whose text was printed whole
abbrev pub is_told : Status → Bool
is_told status.Ok = true
is_told status.Refused = true
is_told status.Usage = true
is_told status.BadInput = true
is_told status.Pipeline = true
is_told status.Files = true
is_told status.Input = true
is_told status.Output = false
is_told status.Memory = false

-- a status that says that a text was printed whole is the wanted one, and the output gained the text
abbrev pub Shows : Option (List ℕ) → Option (List ℕ) → List ℕ → Status → Status → Type 0
Shows before after text wanted ended = is_told ended ≡ true → (ended ≡ wanted) × Gains before after text

-- the output gained a text with this line at its end, and the line alone where nothing stands before it
abbrev pub GainsLine : Type 0 → Option (List ℕ) → Option (List ℕ) → List ℕ → Type 0
GainsLine Alone before after line = (front : List ℕ) × (Alone → front ≡ []) × Gains before after (front ++ line)

-- why a run ended: a status that is no answer has its cause, out of memory alone has none; and the counts of faults rose only where it says so. Only a
-- script has reports before the line of a fault
pub record Ends (Alone : Type 0) (asked_before asked_after read_before read_after printed_before printed_after : ℕ) (held gained : Option (List ℕ))
    (ended : Status) : Type 0 where
  pub files : ended ≡ status.Files → Rose asked_before asked_after × GainsLine Alone held gained files_fault_text
  pub input : ended ≡ status.Input → Rose read_before read_after × Gains held gained input_fault_text
  pub output : ended ≡ status.Output → Rose printed_before printed_after
  pub steady : is_answer ended ≡ true → (asked_after ≡ asked_before) × (read_after ≡ read_before) × (printed_after ≡ printed_before)
  pub output_steady : ended ≡ status.Files → printed_after ≡ printed_before
  pub input_steady : ended ≡ status.Files → read_after ≡ read_before
  pub input_alone : ended ≡ status.Input → (asked_after ≡ asked_before) × (printed_after ≡ printed_before)

-- the output gained a prefix of a text that is allowed, or of the line of a fault of the files where a call on them failed
abbrev pub GainsSome : (List ℕ → Type 0) → Type 0 → Option (List ℕ) → Option (List ℕ) → Type 0
GainsSome Allowed Failed held gained =
    ((text : List ℕ) × Allowed text × GainsPrefix held gained text) ⊎ (Failed × GainsPrefix held gained files_fault_text)

-- the same, or it gained nothing; where it failed it gained some
pub record GainsAtMost (Allowed : List ℕ → Type 0) (Failed : Type 0) (held gained : Option (List ℕ)) (ended : Status) : Type 0 where
  pub prefix : GainsSome Allowed Failed held gained ⊎ (gained ≡ held)
  pub cut : ended ≡ status.Output → GainsSome Allowed Failed held gained

-- words that are no command: the usage line is printed, and nothing is asked of the files
pub record PrintsUsage {S : Type 0} (old new : S) (held gained : Option (List ℕ)) (ended : Status) : Type 0 where
  pub usage : is_answer ended ≡ true → (ended ≡ status.Usage) × Gains held gained usage_text
  pub prefix : GainsPrefix held gained usage_text
  pub nothing_asked : new ≡ old
