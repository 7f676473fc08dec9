-- What is done, and then what the rest gives.
use Rattle.std.proofs.Common.{◌≡◌, ◌++◌, drop, option_map}
use Rattle.pie_value.specs.Tree.{items_of}
use Rattle.pie_value.specs.Values.{trees_of}
use Rattle.pie_value.specs.BuiltinItems.{all_as, as_int}
use Rattle.pie_builtins.proofs.sorts.all_ints.Given as goal

abbrev pub invariant-loop-item : goal.invariant-loop-item
invariant-loop-item l = option_map (λ rest. l.ints.items ++ rest) (all_as as_int (items_of (trees_of (drop l.item-index l.items)))) ≡ all_as as_int
    (items_of (trees_of l.items))
