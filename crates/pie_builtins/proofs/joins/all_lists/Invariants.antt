-- What is done, and then what the rest gives.
use Rattle.std.proofs.Common.{◌≡◌, drop}
use Rattle.pie_value.specs.Values.{trees_of}
use Rattle.pie_builtins.specs.Gathered.{all_lists}
use Rattle.pie_builtins.proofs.joins.all_lists.Given as goal

abbrev pub invariant-loop-value : goal.invariant-loop-value
invariant-loop-value l = all_lists (trees_of (drop l.value-index l.values)) ≡ all_lists (trees_of l.values)
