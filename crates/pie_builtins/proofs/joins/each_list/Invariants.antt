-- What is done, and then what the rest gives.
use Rattle.std.proofs.Common.{◌≡◌, ◌++◌, drop}
use Rattle.pie_value.specs.Values.{trees_of}
use Rattle.pie_builtins.specs.Gathered.{items_among}
use Rattle.pie_builtins.proofs.joins.each_list.Given as goal

abbrev pub invariant-loop-list : goal.invariant-loop-list
invariant-loop-list l = l.items ++ items_among (trees_of (drop l.list-index l.lists)) ≡ items_among (trees_of l.lists)
