-- How deep brackets nest.
use Rattle.std.specs.Prelude.{◌≡◌, ◌<◌, ℕ, ◌+◌, ◌-◌, Bool, true, false, cond, List, [], ◌∷◌, ◌++◌}
use Rattle.pie_lexer.specs.declared.token.Token.{Token}
use Rattle.pie_parser.specs.declared.kind.Kind.{Kind}
use Rattle.pie_parser.specs.declared.kind.Kind.TheVariants as kinds
use Rattle.pie_parser.specs.Kinds.{kind_of_token}

-- a kind that opens a bracket
abbrev pub opens : Kind → Bool
opens kinds.OpenRound = true
opens kinds.OpenSquare = true
opens kinds.OpenBrace = true
opens k = false

-- a kind that closes a bracket
abbrev pub closes : Kind → Bool
closes kinds.CloseRound = true
closes kinds.CloseSquare = true
closes kinds.CloseBrace = true
closes k = false

-- how many brackets stand open behind a token, where so many stand open before it
abbrev pub open_behind : ℕ → Kind → ℕ
open_behind n k = cond (opens k) (n + 1) (cond (closes k) (n - 1) n)

-- how many brackets stand open behind these tokens, where so many stand open before them
abbrev pub open_after : ℕ → List Token → ℕ
open_after n [] = n
open_after n (t ∷ ts) = open_after (open_behind n (kind_of_token t.kind)) ts

-- each opening bracket among these tokens stands inside fewer than 64 open ones
abbrev pub IsShallow : List Token → Type 0
IsShallow ts = (a : List Token) (x : Token) (r : List Token) → ts ≡ a ++ x ∷ r → opens (kind_of_token x.kind) ≡ true
    → open_after 0 a < 64
