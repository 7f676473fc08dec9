-- How large and how deep a value is.
use Rattle.std.specs.Prelude.{◌≡◌, ℕ, ◌+◌, ◌-◌, ◌^◌, List, length, min, max}
use Rattle.pie_value.specs.Tree.{Tree, Trees, TUnit, TBool, TInt, TText, TPath, TList, TTuple, TNull, TBytes, Nil, Cons, items_of}

abbrev mutual
  -- how many canonical bytes a value has
  pub size_of : Tree → ℕ
  size_of TUnit = 1
  size_of (TBool b) = 2
  size_of (TInt n) = 9
  size_of (TText bs) = 5 + length bs
  size_of (TPath bs) = 5 + length bs
  size_of (TList ts) = 5 + sizes_of ts
  size_of (TTuple ts) = 5 + sizes_of ts
  size_of TNull = 1
  size_of (TBytes bs) = 5 + length bs

  -- how many canonical bytes items have together
  pub sizes_of : Trees → ℕ
  sizes_of Nil = 0
  sizes_of (Cons t ts) = size_of t + sizes_of ts

abbrev mutual
  -- how deep a value nests: 1 without items, else one more than the deepest item
  pub depth_of : Tree → ℕ
  depth_of TUnit = 1
  depth_of (TBool b) = 1
  depth_of (TInt n) = 1
  depth_of (TText bs) = 1
  depth_of (TPath bs) = 1
  depth_of (TList ts) = deepest_of ts + 1
  depth_of (TTuple ts) = deepest_of ts + 1
  depth_of TNull = 1
  depth_of (TBytes bs) = 1

  -- the depth of the deepest item, 0 without items
  pub deepest_of : Trees → ℕ
  deepest_of Nil = 0
  deepest_of (Cons t ts) = max (depth_of t) (deepest_of ts)

-- a number, or the greatest of 64 bits where it is greater
abbrev pub capped_64 : ℕ → ℕ
capped_64 n = min n (2 ^ 64 - 1)

-- a number, or the greatest of 32 bits where it is greater
abbrev pub capped_32 : ℕ → ℕ
capped_32 n = min n (2 ^ 32 - 1)

-- these are the size and the depth of some values together
pub record Measures (ts : List Tree) (bytes deepest : ℕ) : Type 0 where
  pub size : bytes ≡ capped_64 (sizes_of (items_of ts))
  pub depth : deepest ≡ capped_32 (deepest_of (items_of ts))
