-- Whether a path has more than one segment.
use Rattle.std.specs.Prelude.{ℕ, Bool, true, false, cond, eqb, List, [], ◌∷◌}

-- whether a byte string has a `/`
abbrev pub has_slash : List ℕ → Bool
has_slash [] = false
has_slash (c ∷ p) = cond (eqb c 47) true (has_slash p)
