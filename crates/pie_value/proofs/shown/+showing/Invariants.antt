use Rattle.std.proofs.Common.{◌≡◌, ◌+◌, ◌++◌, drop}
use Rattle.std.specs.Prelude.{string_bytes}
use Rattle.pie_value.specs.Tree.{mass, weight, items_of}
use Rattle.pie_value.specs.Values.{tree_of, trees_of}
use Rattle.pie_value.specs.Shown.{listed_on}
use Rattle.pie_value.proofs.shown.+showing.Given as goal

abbrev pub decreases-put_value : goal.decreases-put_value
decreases-put_value l = mass (tree_of l.value.now)

abbrev pub decreases-put_items : goal.decreases-put_items
decreases-put_items l = weight (trees_of l.values.now) + 1

abbrev pub decreases-put_rest : goal.decreases-put_rest
decreases-put_rest l = weight (trees_of l.values.now)

abbrev pub invariant-put_rest-loop-value : goal.invariant-put_rest-loop-value
invariant-put_rest-loop-value l =
    string_bytes l.out ++ listed_on (items_of (trees_of (drop l.value-index l.values))) ≡ string_bytes l.fn.out ++ listed_on (items_of (trees_of l.values))
