-- What is done, and then what the rest gives.
use Rattle.std.proofs.Common.{◌≡◌, ◌++◌, drop, option_map, map}
use Rattle.pie_value.specs.Tree.{items_of}
use Rattle.pie_value.specs.Values.{trees_of}
use Rattle.pie_value.specs.BuiltinItems.{all_as, as_text}
use Rattle.pie_builtins.proofs.sorts.all_texts.Given as goal

abbrev pub invariant-loop-item : goal.invariant-loop-item
invariant-loop-item l = option_map (λ rest. map (λ text. text.now) l.texts.items ++ rest)
    (all_as as_text (items_of (trees_of (drop l.item-index l.items)))) ≡ all_as as_text (items_of (trees_of l.items))
