-- The words of each command.
use Rattle.std.specs.Prelude.{ℕ, ◌&&◌, nat_le, Bool, true, false, List, [], ◌∷◌, codes, map, String, string_bytes, decimal}
use Rattle.std.specs.declared.alloc.Global.{Global}
use Rattle.pie_words.specs.declared.command.Command.{Command}
use Rattle.pie_words.specs.declared.command.Command.TheVariants.{Check, Fresh, Build, Replay, Demo, Topdown, Scan, Auto, Cached}

-- the words that ask for a command
abbrev pub words_of : Command → List (List ℕ)
words_of Check = codes "check" ∷ []
words_of (Fresh false) = codes "fresh" ∷ []
words_of (Fresh true) = codes "fresh" ∷ codes "--json" ∷ []
words_of (Build false) = codes "build" ∷ []
words_of (Build true) = codes "build" ∷ codes "--json" ∷ []
words_of (Replay false) = codes "replay" ∷ []
words_of (Replay true) = codes "replay" ∷ codes "--json" ∷ []
words_of (Topdown false) = codes "topdown" ∷ []
words_of (Topdown true) = codes "topdown" ∷ codes "--json" ∷ []
words_of Scan = codes "scan" ∷ []
words_of Auto = codes "auto" ∷ []
words_of Cached = codes "cached" ∷ []
words_of (Demo seed size) = codes "demo" ∷ decimal seed ∷ decimal size ∷ []

-- a command that words may ask for: the seed of a demo has 64 bits, and it has 1 to 1,000 files
abbrev pub is_allowed : Command → Bool
is_allowed Check = true
is_allowed (Fresh json) = true
is_allowed (Build json) = true
is_allowed (Replay json) = true
is_allowed (Topdown json) = true
is_allowed Scan = true
is_allowed Auto = true
is_allowed Cached = true
is_allowed (Demo seed size) = nat_le seed 18446744073709551615 && (nat_le 1 size && nat_le size 1000)

-- words as lists of their bytes
abbrev pub texts_of : List (String Global) → List (List ℕ)
texts_of words = map string_bytes words

-- what is printed where the words are no command
abbrev pub usage_text : List ℕ
usage_text = codes "usage: pie check, fresh [--json], build [--json], replay [--json], demo SEED SIZE, topdown [--json], scan, auto, cached\n"
