-- The put that goes on, from its two fields.
use Rattle.std.specs.Prelude.{ℕ, List, Option, Some, None}

-- no path: none; a path with its content
abbrev pub under_of : Option (List ℕ) → List ℕ → Option (List ℕ × List ℕ)
under_of None content = None
under_of (Some path) content = Some (path, content)
