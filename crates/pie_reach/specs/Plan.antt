-- Which files are removed.
use Rattle.std.specs.Prelude.{◌≡◌, ℕ, List}
use Rattle.std.specs.declared.cmp.Ordering.{Ordering}
use Rattle.std.specs.Ordering.{nat_cmp}
use Rattle.std.specs.Cmp.Lexicographic.{slice_cmp}
use Rattle.std.specs.List.{Contains}
use Rattle.std.specs.List.Sorted.{IsStrictlySortedBy}

-- the order of paths: by their bytes
abbrev pub path_cmp : List ℕ → List ℕ → Ordering
path_cmp = slice_cmp nat_cmp

-- those that are there and aren't kept, in path order, each once
pub record IsPlan (there kept found : List (List ℕ)) : Type 0 where
  pub ordered : IsStrictlySortedBy path_cmp found
  pub only : (path : List ℕ) → Contains found path → Contains there path × ¬ (Contains kept path)
  pub each : (path : List ℕ) → Contains there path → ¬ (Contains kept path) → Contains found path
