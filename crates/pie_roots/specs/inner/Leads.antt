-- What the first token of a value says of it, and the tokens between its parts.
use Rattle.std.specs.Prelude.{ℕ, ℤ, pos, negsuc, Bool, true, false, cond, ◌==◌, List, [], ◌∷◌, Option, Some, None, codes}
use lib.Pointwise.{pointwise}
use Rattle.pie_lexer.specs.declared.token.TokenKind.{TokenKind}
use Rattle.pie_lexer.specs.declared.token.TokenKind.TheVariants as kinds
use Rattle.pie_roots.specs.declared.lead.Lead.{Lead}
use Rattle.pie_roots.specs.declared.lead.Lead.TheVariants as leads
use Rattle.pie_roots.specs.declared.lead.Sign.{Sign}
use Rattle.pie_roots.specs.declared.lead.Sign.TheVariants.{Comma, OpenRound, CloseRound, CloseSquare}

-- two texts are the same bytes
abbrev pub same_text : List ℕ → List ℕ → Bool
same_text = pointwise ◌==◌

-- digits say a number that isn't below zero
abbrev pub digits_lead : ℤ → Option Lead
digits_lead (pos n) = Some (leads.Int (pos n))
digits_lead (negsuc n) = None

-- the one name that begins a value
abbrev pub word_lead : List ℕ → Option Lead
word_lead w = cond (same_text w (codes "bytes")) (Some leads.Bytes) None

-- what a token says of the value that begins with it
abbrev pub lead_of : TokenKind → Option Lead
lead_of kinds.UnitWord = Some leads.Unit
lead_of kinds.True = Some (leads.Bool true)
lead_of kinds.False = Some (leads.Bool false)
lead_of kinds.Minus = Some leads.Minus
lead_of kinds.Path = Some leads.Path
lead_of kinds.OpenSquare = Some leads.List
lead_of kinds.OpenRound = Some leads.Tuple
lead_of kinds.Null = Some leads.Null
lead_of (kinds.Int n) = digits_lead n
lead_of (kinds.Text text) = Some (leads.Text text)
lead_of (kinds.Name w) = word_lead w
lead_of k = None

-- a token is this one
abbrev pub is_sign : Sign → TokenKind → Bool
is_sign Comma kinds.Comma = true
is_sign OpenRound kinds.OpenRound = true
is_sign CloseRound kinds.CloseRound = true
is_sign CloseSquare kinds.CloseSquare = true
is_sign s k = false

-- the first token is this one
abbrev pub starts : Sign → List TokenKind → Bool
starts s [] = false
starts s (k ∷ ks) = is_sign s k
