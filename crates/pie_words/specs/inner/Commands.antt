-- Words that are a command.
use Rattle.std.specs.Prelude.{◌≡◌, ℕ, Bool, true, false, List}
use Rattle.pie_words.specs.Commands.{words_of, is_allowed}
use Rattle.pie_words.specs.declared.command.Command.{Command}
use Rattle.pie_words.specs.declared.command.Command.TheVariants.{Check, Fresh, Build, Replay, Demo, Topdown, Scan, Auto, Cached}

-- some command that words may ask for has these words
abbrev pub IsCommand : List (List ℕ) → Type 0
IsCommand words = (command : Command) × (is_allowed command ≡ true) × (words ≡ words_of command)

-- a command without numbers
abbrev pub is_plain : Command → Bool
is_plain Check = true
is_plain (Fresh json) = true
is_plain (Build json) = true
is_plain (Replay json) = true
is_plain (Topdown json) = true
is_plain Scan = true
is_plain Auto = true
is_plain Cached = true
is_plain (Demo seed size) = false

-- some command without numbers has these words
abbrev pub IsPlain : List (List ℕ) → Type 0
IsPlain words = (command : Command) × (is_plain command ≡ true) × (words ≡ words_of command)
