-- The names that a refused build keeps for the next one.
use Rattle.std.specs.Prelude.{ℕ, cond, nat_lt, List, [], ◌∷◌, length, Option, Some, None}
use Rattle.pie_store.specs.Pending.{in_order, lines}

-- their text, or nothing where that is too long for the next build to read
abbrev pub kept_text : List ℕ → List ℕ
kept_text text = cond (nat_lt 16777216 (length text)) [] text

-- the bytes of the file of pending names with these names; no file where there are none
abbrev pub kept_names : List (List ℕ) → Option (List ℕ)
kept_names [] = None
kept_names (name ∷ names) = Some (kept_text (lines (in_order (name ∷ names))))
