use Rattle.pie_graph.specs.Numbers.{numbers, AllBelow}
use Rattle.bench_leaves.proofs.graphs.edges_to.Given as goal

abbrev pub invariant-loop-i : goal.invariant-loop-i
invariant-loop-i l = AllBelow l.to (numbers l.edges.needs.items)
