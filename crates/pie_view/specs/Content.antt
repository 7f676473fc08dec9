-- Staged contents: for each task the files that it wrote.
use Rattle.std.specs.Prelude.{◌≡◌, ℕ, ◌&&◌, Bool, cond, List, Option, Some, None}
use Rattle.std.specs.Ordering.{nat_cmp, is_eq}
use Rattle.std.specs.Cmp.Lexicographic.{slice_cmp}
use Rattle.std.specs.Map.{lookup}

-- the files of each task, by their paths
abbrev pub Staged : Type 0
Staged = List (ℕ × List (List ℕ × List ℕ))

-- the content at a path among some files
abbrev pub file_in : Option (List (List ℕ × List ℕ)) → List ℕ → Option (List ℕ)
file_in None path = None
file_in (Some files) path = lookup (λ p. is_eq (slice_cmp nat_cmp path p)) files

-- the content that a task staged at a path
abbrev pub content : Staged → ℕ → List ℕ → Option (List ℕ)
content staged task path = file_in (lookup (λ n. is_eq (nat_cmp task n)) staged) path

-- the same task and the same path
abbrev pub is_pair : ℕ → List ℕ → ℕ → List ℕ → Bool
is_pair task path n p = is_eq (nat_cmp task n) && is_eq (slice_cmp nat_cmp path p)

-- one pair gets a content, and all others stay
abbrev pub Puts : Staged → Staged → ℕ → List ℕ → List ℕ → Type 0
Puts old new task path bytes = (n : ℕ) (p : List ℕ) → content new n p ≡ cond (is_pair task path n p) (Some bytes) (content old n p)

-- the pairs of one task go, and all others stay
abbrev pub Drops : Staged → Staged → ℕ → Type 0
Drops old new task = (n : ℕ) (p : List ℕ) → content new n p ≡ cond (is_eq (nat_cmp task n)) None (content old n p)
