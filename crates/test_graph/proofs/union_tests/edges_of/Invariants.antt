use Rattle.std.proofs.Common.{◌≡◌, length}
use Rattle.std.specs.List.{All}
use Rattle.pie_graph.specs.declared.edges.Edges.{Edges}
use Rattle.pie_graph.specs.Numbers.{numbers, AllBelow}
use Rattle.test_graph.proofs.union_tests.edges_of.Given as goal

abbrev pub invariant-loop-i : goal.invariant-loop-i
invariant-loop-i l = (length l.all.items ≡ l.i) × All (λ (e : Edges). AllBelow (length l.rows) (numbers e.needs.items)) l.all.items
