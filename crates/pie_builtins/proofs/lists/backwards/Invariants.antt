-- The items from the place on are there backwards.
use Rattle.std.proofs.Common.{◌≡◌, ◌≤◌, length, drop}
use Rattle.std.proofs.Common.{reverse as reversed}
use Rattle.pie_value.specs.Values.{trees_of}
use Rattle.pie_builtins.proofs.lists.backwards.Given as goal

abbrev pub decreases-loop-left : goal.decreases-loop-left
decreases-loop-left l = l.left

abbrev pub invariant-loop-left : goal.invariant-loop-left
invariant-loop-left l = record { turned : l.turned ≡ reversed (trees_of (drop l.left l.items)); below : l.left ≤ length l.items }
