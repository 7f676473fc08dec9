use Rattle.std.proofs.Common.{◌≡◌, ◌++◌, ◌+◌, drop}
use Rattle.pie_value.specs.Tree.{mass, weight, items_of}
use Rattle.pie_value.specs.Values.{tree_of, trees_of}
use Rattle.pie_value.specs.Canonical.{encs, HaveShortParts, HaveTrueLeaves}
use Rattle.pie_value.proofs.writer.+writing.Given as goal

abbrev pub decreases-put : goal.decreases-put
decreases-put l = mass (tree_of l.value.now)

abbrev pub decreases-put_items : goal.decreases-put_items
decreases-put_items l = weight l.items.now + 1

abbrev pub decreases-put_all : goal.decreases-put_all
decreases-put_all l = weight (trees_of l.values.now)

abbrev pub invariant-put_all-loop-value : goal.invariant-put_all-loop-value
invariant-put_all-loop-value l =
    (l.out.items ++ encs (items_of (trees_of (drop l.value-index l.values))) ≡ l.fn.out.items ++ encs (items_of (trees_of l.values)))
    × HaveShortParts (items_of (trees_of (drop l.value-index l.values)))
    × (HaveTrueLeaves (items_of (trees_of (drop l.value-index l.values))) → HaveTrueLeaves (items_of (trees_of l.values)))
