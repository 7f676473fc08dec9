-- What is copied, and then what the rest gives.
use Rattle.std.proofs.Common.{◌≡◌, ◌++◌, drop}
use Rattle.pie_value.specs.Values.{trees_of}
use Rattle.pie_vm.proofs.stack.copies.Given as goal

abbrev pub invariant-loop-value : goal.invariant-loop-value
invariant-loop-value l = l.items ++ trees_of (drop l.value-index l.values) ≡ trees_of l.values
