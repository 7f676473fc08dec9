-- The text of pending names.
use Rattle.std.specs.Prelude.{◌≡◌, ◌≢◌, ℕ, suc, ◌-◌, ◌<◌, ◌≤◌, ◌==◌, Bool, true, List, [], ◌∷◌, ◌++◌, length, Option, Some, None, IsTrue, All, Contains}
use Rattle.std.specs.Prelude.{slice_get, slice_index_or}
use Rattle.std.specs.List.{fold, flat_map}
use Rattle.std.specs.BTreeSet.{insert_key}
use Rattle.std.specs.declared.cmp.Ordering.{Ordering}
use Rattle.std.specs.Ordering.{nat_cmp, is_lt}
use Rattle.std.specs.Cmp.Lexicographic.{slice_cmp}
use Rattle.pie_value.specs.Reading.{is_path_text}

-- lines end with byte 10
abbrev pub is_newline : ℕ → Bool
is_newline b = b == 10

-- the order of paths: by bytes
abbrev pub path_cmp : List ℕ → List ℕ → Ordering
path_cmp = slice_cmp nat_cmp

-- the distinct paths in path order: each is put at its place, unless it is there
abbrev pub in_order : List (List ℕ) → List (List ℕ)
in_order paths = fold (insert_key path_cmp) [] paths

-- a path and byte 10
unfoldable pub line : List ℕ → List ℕ
line path = path ++ 10 ∷ []

-- paths, each with byte 10 after it
abbrev pub lines : List (List ℕ) → List ℕ
lines paths = flat_map line paths

-- one path comes before another
abbrev pub path_before : List ℕ → List ℕ → Bool
path_before p q = is_lt (path_cmp p q)

-- a path comes after another, if there is one
abbrev pub path_follows : Option (List ℕ) → List ℕ → Bool
path_follows None path = true
path_follows (Some p) path = path_before p path

-- a path comes after the last of these
abbrev pub path_last : List (List ℕ) → List ℕ → Bool
path_last paths path = path_follows (slice_get paths (length paths - 1)) path

-- each path comes before the next
abbrev pub AreAscending : List (List ℕ) → Type 0
AreAscending paths = (k : ℕ) (d : List ℕ) → suc k < length paths → IsTrue (path_before (slice_index_or paths k d) (slice_index_or paths (suc k) d))

-- names are exactly these paths, each once, in path order
pub record AreInPathOrder (names paths : List (List ℕ)) : Type 0 where
  pub ascending : AreAscending names
  pub named : All (λ (p : List ℕ). Contains paths p) names
  pub all : All (λ (p : List ℕ). Contains names p) paths

-- a path in UTF-8; it has no byte 10, since that is a control character
abbrev pub IsName : List ℕ → Type 0
IsName path = IsTrue (is_path_text path) × All (λ b. b ≢ 10) path

-- these bytes are a text of these pending names
pub record IsPending (names : List (List ℕ)) (bs : List ℕ) : Type 0 where
  pub some : 0 < length names
  pub paths : All IsName names
  pub ascending : AreAscending names
  pub bytes : bs ≡ lines names
  pub few : length bs ≤ 16777216
