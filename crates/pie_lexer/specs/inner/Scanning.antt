-- A scan over the bytes behind an opening quote, a byte at a time.
use Rattle.std.specs.Prelude.{ℕ, ◌+◌, ◌-◌, Bool, true, false, cond, ◌==◌, List, [], ◌∷◌, ◌++◌, Option, Some, None}
use Rattle.pie_lexer.specs.Quotes.{escape_of}
use Rattle.pie_lexer.specs.declared.unquote.Quoted.{Quoted}
use Rattle.pie_lexer.specs.declared.unquote.Quoted.TheVariants as quotes
use Rattle.pie_lexer.specs.declared.unquote.Step.{Step}
use Rattle.pie_lexer.specs.declared.unquote.Step.TheVariants.{Within, Close, LineEnd, NoEscape}

-- how a text in quotes ends
pub data End : Type 0 where
  Closes : List ℕ → ℕ → End
  Opens : End
  Fails : ℕ → End

-- the end that the code has found
abbrev pub end_of : Quoted → End
end_of (quotes.Closed said n) = Closes said.items n
end_of quotes.Open = Opens
end_of (quotes.BadEscape n) = Fails n

-- the scan so far: what was said, and whether a backslash was last
abbrev pub Scanned : Type 0
Scanned = List ℕ × Bool

-- behind a backslash
abbrev pub after_backslash : List ℕ → Option ℕ → Step × Scanned
after_backslash said (Some c) = (Within, (said ++ c ∷ [], false))
after_backslash said None = (NoEscape, (said, true))

-- behind another byte
abbrev pub after_other : List ℕ → ℕ → Step × Scanned
after_other said b = cond (b == 34) (Close, (said, false)) (cond (b == 10) (LineEnd, (said, false))
    (cond (b == 92) (Within, (said, true)) (Within, (said ++ b ∷ [], false))))

-- what the next byte is, and the scan after it
abbrev pub step_of : Scanned → ℕ → Step × Scanned
step_of s b = cond s.1 (after_backslash s.0 (escape_of b)) (after_other s.0 b)

-- where a scan goes on, or ends
abbrev pub on_step : Step × Scanned → ℕ → (Scanned → End) → End
on_step (Within, s) n go_on = go_on s
on_step (Close, s) n go_on = Closes s.0 (n + 1)
on_step (LineEnd, s) n go_on = Opens
on_step (NoEscape, s) n go_on = Fails (n - 1)

-- the end of the text in quotes of which these bytes are left, behind so many
abbrev pub scan : Scanned → List ℕ → ℕ → End
scan s [] n = Opens
scan s (b ∷ bs) n = on_step (step_of s b) n (λ t. scan t bs (n + 1))
