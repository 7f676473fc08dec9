-- Numbers of names, of which one more is noted.
use Rattle.std.specs.Prelude.{ℕ, Option, Some, None}

-- the number that was there, or else another one
abbrev pub kept : Option ℕ → Option ℕ → Option ℕ
kept (Some n) other = Some n
kept None other = other
