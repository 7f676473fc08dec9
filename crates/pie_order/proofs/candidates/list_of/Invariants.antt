use Rattle.std.proofs.Common.{◌≡◌, ◌++◌}
use Rattle.pie_graph.specs.Numbers.{numbers}
use Rattle.pie_order.proofs.candidates.list_of.Given as goal

abbrev pub invariant-loop-no : goal.invariant-loop-no
invariant-loop-no l = numbers l.list.items ++ l.no-iterator ≡ l.set.keys
