-- What is there, and then the units that are owed.
use Rattle.std.proofs.Common.{◌≡◌, ◌++◌, ◌-◌}
use Rattle.pie_value.specs.Values.{trees_of}
use Rattle.pie_code.specs.Running.{units}
use Rattle.pie_vm.proofs.slots.add_units.Given as goal

abbrev pub invariant-loop : goal.invariant-loop
invariant-loop l = trees_of l.values.items ++ units (l.count - l.counter) ≡ trees_of l.fn.values.items ++ units l.count
