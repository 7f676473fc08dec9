use Rattle.pie_graph.specs.Numbers.{numbers, AllBelow}
use Rattle.test_graph.proofs.union_tests.needs.Given as goal

abbrev pub invariant-loop : goal.invariant-loop
invariant-loop l = AllBelow l.count (numbers l.needs.items)
