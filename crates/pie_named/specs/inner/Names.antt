-- The names that a build was told, and the directories above them.
use Rattle.std.specs.Prelude.{◌≡◌, ℕ, Bool, List}
use Rattle.std.specs.Ordering.{nat_cmp}
use Rattle.std.specs.Cmp.Lexicographic.{slice_cmp}
use Rattle.std.specs.BTreeSet.{contains}
use Rattle.pie_named.specs.declared.paths.Paths.{Paths}
use Rattle.pie_named.specs.declared.named.Named.{Named}

-- a path is in a set
abbrev pub has : Paths → List ℕ → Bool
has s q = contains (slice_cmp nat_cmp) s.paths q

-- a path is a name
abbrev pub is_named : Named → List ℕ → Bool
is_named n q = has n.names q

-- a name lies below a directory
abbrev pub is_above : Named → List ℕ → Bool
is_above n q = has n.above q

-- the names are the same, and so are the directories above them
pub record SameNames (old new : Named) : Type 0 where
  pub named : (q : List ℕ) → is_named new q ≡ is_named old q
  pub above : (q : List ℕ) → is_above new q ≡ is_above old q
