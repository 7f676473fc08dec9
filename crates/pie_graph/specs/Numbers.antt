-- Lists of numbers of tasks.
use Rattle.std.specs.Prelude.{◌≡◌, ℕ, ◌<◌, Bool, true, false, List, map, slice_index_or}
use Rattle.std.specs.List.{All, Contains}
use Rattle.std.specs.List.Sorted.{IsStrictlyIncreasing}
use Rattle.pie_graph.specs.declared.edges.TaskNo.{TaskNo}

-- the numbers themselves
abbrev pub numbers : List TaskNo → List ℕ
numbers nos = map (λ t. t.0) nos

-- each number is below a bound
abbrev pub AllBelow : ℕ → List ℕ → Type 0
AllBelow bound nos = All (λ n. n < bound) nos

-- the number has its mark
abbrev pub IsMarked : List Bool → ℕ → Type 0
IsMarked marks n = slice_index_or marks n false ≡ true

-- exactly the numbers with a property, ascending, each once
pub record Exactly (P : ℕ → Type 0) (found : List ℕ) : Type 0 where
  pub ascending : IsStrictlyIncreasing found
  pub only : (n : ℕ) → Contains found n → P n
  pub each : (n : ℕ) → P n → Contains found n
