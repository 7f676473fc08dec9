-- Functions that have one digest in two lists.
use Rattle.std.specs.Prelude.{ℕ, ◌==◌, Bool, false, cond, List, [], ◌∷◌, Option, Some, None}
use Rattle.std.specs.Str.{bytes_eq}
use lib.Pointwise.{pointwise}

-- the first of two answers that there is
abbrev pub kept : Option (List ℕ) → Option (List ℕ) → Option (List ℕ)
kept (Some first) other = Some first
kept None other = other

-- the first digest of a name
abbrev pub digest_in : List (List ℕ × List ℕ) → List ℕ → Option (List ℕ)
digest_in [] name = None
digest_in (f ∷ funcs) name = kept (cond (bytes_eq name f.0) (Some f.1) None) (digest_in funcs name)

-- there are two digests, and they are one
abbrev pub same_digest : Option (List ℕ) → Option (List ℕ) → Bool
same_digest (Some one) (Some other) = pointwise ◌==◌ one other
same_digest one other = false

-- a function has one digest in both lists
abbrev pub is_same_code : List (List ℕ × List ℕ) → List (List ℕ × List ℕ) → List ℕ → Bool
is_same_code old now name = same_digest (digest_in old name) (digest_in now name)
