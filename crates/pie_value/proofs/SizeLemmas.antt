-- Size and depth of a list that grows by a value.
use Rattle.std.proofs.Common.{◌≡◌, ℕ, ◌+◌, ◌-◌, ◌^◌, min, max, List, [], ◌∷◌, ◌++◌, arith}
use Rattle.pie_value.specs.Tree.{Tree, items_of}
use Rattle.pie_value.specs.Size.{size_of, sizes_of, depth_of, deepest_of, capped_64, capped_32, Measures}

pub sizes_of_append : (ts : List Tree) (t : Tree) → sizes_of (items_of (ts ++ t ∷ [])) ≡ sizes_of (items_of ts) + size_of t
sizes_of_append [] t = omega arith
sizes_of_append (x ∷ xs) t = omega (arith, sizes_of_append xs t)

pub deepest_of_append : (ts : List Tree) (t : Tree) → deepest_of (items_of (ts ++ t ∷ [])) ≡ max (deepest_of (items_of ts)) (depth_of t)
deepest_of_append [] t = omega arith
deepest_of_append (x ∷ xs) t = omega (arith, deepest_of_append xs t)

-- the measures after a value is appended
pub measures_grow : (ts : List Tree) (t : Tree) (bytes deepest : ℕ) → Measures ts bytes deepest
    → Measures (ts ++ t ∷ []) (min (bytes + capped_64 (size_of t)) (2 ^ 64 - 1)) (max deepest (capped_32 (depth_of t)))
measures_grow ts t bytes deepest m = record {
  size = omega (arith, sizes_of_append ts t, m.size);
  depth = omega (arith, deepest_of_append ts t, m.depth);
}
