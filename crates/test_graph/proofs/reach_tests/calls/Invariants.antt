use Rattle.pie_graph.specs.Numbers.{numbers, AllBelow}
use Rattle.test_graph.proofs.reach_tests.calls.Given as goal

abbrev pub invariant-loop-no : goal.invariant-loop-no
invariant-loop-no g l = AllBelow l.count (numbers l.needs.items)
