use Rattle.pie_graph.specs.Numbers.{numbers, AllBelow}
use Rattle.test_graph.proofs.view_tests.below.Given as goal

abbrev pub invariant-loop-no : goal.invariant-loop-no
invariant-loop-no l = AllBelow l.bound (numbers l.found.items)
