-- Items as a plain list, and lists read from their ends.
use Rattle.std.proofs.Common.{◌≡◌, ℕ, ◌<◌, ◌+◌, List, [], ◌∷◌, ◌++◌, length, drop, reverse, get_or, ap, ◌∙◌}
use Rattle.std.proofs.lemmas.List.{reverse-append}
use Rattle.pie_value.specs.declared.value.Value.{Value}
use Rattle.pie_value.specs.Values.{tree_of, trees_of}
use Rattle.pie_value.proofs.Elements.{trees_left}

-- the items from a place on, backwards, end with the one at the place
pub one_before : (vs : List Value) (i : ℕ) (v : Value) → i < length vs → v ≡ get_or vs i v
    → reverse (trees_of (drop i vs)) ≡ reverse (trees_of (drop (i + 1) vs)) ++ tree_of v ∷ []
one_before vs i v h e = ap reverse (trees_left vs i v h e) ∙ reverse-append (tree_of v ∷ []) (trees_of (drop (i + 1) vs))
