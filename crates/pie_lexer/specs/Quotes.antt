-- Texts in quotes: what stands between the quotes, and which bytes it says.
use Rattle.std.specs.Prelude.{◌≡◌, ◌≢◌, ◌⊎◌, ℕ, cond, ◌==◌, List, [], ◌∷◌, Option, Some, None}

-- the byte that an escape stands for, by the byte after its backslash: `"`, `\`, `n` or `t`
abbrev pub escape_of : ℕ → Option ℕ
escape_of e = cond (e == 34) (Some 34) (cond (e == 92) (Some 92) (cond (e == 110) (Some 10) (cond (e == 116) (Some 9) None)))

-- what may stand between two quotes, and the bytes that it says
pub data Inside : List ℕ → List ℕ → Type 0 where
  nothing : Inside [] []
  plain : {b : ℕ} {inner said : List ℕ} → b ≢ 34 → b ≢ 92 → b ≢ 10 → Inside inner said → Inside (b ∷ inner) (b ∷ said)
  escape : {e c : ℕ} {inner said : List ℕ} → escape_of e ≡ Some c → Inside inner said → Inside (92 ∷ e ∷ inner) (c ∷ said)

-- a text that isn't closed goes on so: it ends, at a backslash or not, or its line does
abbrev pub EndsOpen : List ℕ → Type 0
EndsOpen [] = Unit {0}
EndsOpen (b ∷ []) = (b ≡ 10) ⊎ (b ≡ 92)
EndsOpen (b ∷ c ∷ _) = b ≡ 10

-- a backslash before a byte that makes no escape
abbrev pub IsBadEscape : List ℕ → Type 0
IsBadEscape (b ∷ e ∷ _) = (b ≡ 92) × (escape_of e ≡ None)
IsBadEscape text = ⊥
