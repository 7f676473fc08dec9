-- What is written in two steps.
use Rattle.std.proofs.Common.{◌≡◌, ℕ, List, ◌++◌, length, ap, ◌∙◌, append_assoc}
use Rattle.pie_value.specs.declared.value.Value.{Value}
use Rattle.pie_value.specs.Tree.{Tree, items_of}
use Rattle.pie_value.specs.Values.{trees_of}
use Rattle.pie_value.specs.Canonical.{be32, encs, enc_items}
use Rattle.pie_value.proofs.Elements.{count_of_trees}

-- the number of the values, and then the values
pub items_written : (ts : List Tree) (vs : List Value) (a b c : List ℕ) → trees_of vs ≡ ts
    → b ≡ a ++ be32 (length vs) → c ≡ b ++ encs (items_of (trees_of vs)) → c ≡ a ++ enc_items (items_of ts)
items_written ts vs a b c e h k =
    rw (← e, count_of_trees vs) (k ∙ ap (λ x. x ++ encs (items_of (trees_of vs))) h ∙ append_assoc a _ _)
