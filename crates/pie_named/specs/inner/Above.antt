-- Sets of paths that grow.
use Rattle.std.specs.Prelude.{◌≡◌, ℕ, Bool, true, false, cond, ◌||◌, List, Option, Some, None}
use Rattle.std.specs.Ordering.{nat_cmp, is_eq}
use Rattle.std.specs.Cmp.Lexicographic.{slice_cmp}
use Rattle.pie_base.specs.Path.{is_below, same_text}
use Rattle.pie_named.specs.declared.paths.Paths.{Paths}
use Rattle.pie_named.specs.inner.Names.{has}

-- one path comes, and all others stay
abbrev pub Adds : Paths → Paths → List ℕ → Type 0
Adds old new path = (q : List ℕ) → has new q ≡ cond (is_eq (slice_cmp nat_cmp path q)) true (has old q)

-- a path is this one or a directory above it
abbrev pub at_or_above : List ℕ → Option (List ℕ) → Bool
at_or_above q None = false
at_or_above q (Some dir) = same_text q dir || is_below q dir

-- the directories that are still to come, and those that are there, are the ones above a path and those that were there
abbrev pub Rises : Paths → Paths → List ℕ → Option (List ℕ) → Type 0
Rises first now path at = (q : List ℕ) → (at_or_above q at || has now q) ≡ (is_below q path || has first q)
