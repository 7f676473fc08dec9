-- The bytes of a pipeline text: which make words and digits, and which part tokens.
use Rattle.std.specs.Prelude.{ℕ, Bool, false, not, ◌&&◌, ◌||◌, cond, ◌==◌, List, [], ◌∷◌}
use Rattle.std.specs.List.{prefix_len}
use Rattle.std.specs.Char.{is_ascii_digit, is_ascii_alphabetic, is_ascii_alphanumeric}

-- a letter, with which a word begins
abbrev pub is_letter : ℕ → Bool
is_letter b = is_ascii_alphabetic b

-- a digit
abbrev pub is_digit : ℕ → Bool
is_digit b = is_ascii_digit b

-- a byte that goes on with a word: a letter, a digit or `_`
abbrev pub is_word_byte : ℕ → Bool
is_word_byte b = is_ascii_alphanumeric b || b == 95

-- a byte that parts tokens: a space, a tab, a newline or a carriage return
abbrev pub is_space : ℕ → Bool
is_space b = b == 32 || b == 9 || b == 10 || b == 13

-- any byte but a newline
abbrev pub off_line_end : ℕ → Bool
off_line_end b = not (b == 10)

-- the text begins as a comment
abbrev pub opens_comment : List ℕ → Bool
opens_comment (a ∷ b ∷ _) = a == 47 && b == 47
opens_comment text = false

-- the text begins with a byte that parts tokens
abbrev pub opens_space : List ℕ → Bool
opens_space (b ∷ _) = is_space b
opens_space [] = false

-- how many bytes in front part tokens: a comment up to its line's end, or one space; 0 where a token stands
abbrev pub gap_len : List ℕ → ℕ
gap_len text = cond (opens_comment text) (prefix_len off_line_end text) (cond (opens_space text) 1 0)
