-- The stack of values, its top first.
use Rattle.std.specs.Prelude.{ℕ, List, reverse, map, Vec, Option, option_map}
use Rattle.pie_value.specs.declared.value.Value.{Value}
use Rattle.pie_value.specs.Tree.{Tree}
use Rattle.pie_value.specs.Values.{tree_of}

-- the trees of values, the last one first
abbrev pub flipped : List Value → List Tree
flipped values = reverse (map tree_of values)

-- the bytes of the keys of a set of paths
abbrev pub bytes_of : {Z : Type 0} → List (Vec ℕ Z) → List (List ℕ)
bytes_of {Z} keys = map (λ (k : Vec ℕ Z). k.items) keys

-- the tree of an item that may not be there, of a list that may not be there
abbrev pub items_told : Option (Option Value) → Option (Option Tree)
items_told o = option_map (option_map tree_of) o
