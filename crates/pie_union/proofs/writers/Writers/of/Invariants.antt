use Rattle.std.proofs.Common.{◌≡◌, ◌++◌, ℕ, List, map}
use Rattle.pie_graph.specs.Numbers.{numbers}
use Rattle.pie_union.proofs.PairRange.{tasks_in, between}
use Rattle.pie_union.proofs.writers.Writers.of.Given as goal

abbrev pub invariant-loop-pair : goal.invariant-loop-pair
invariant-loop-pair l = numbers l.found.items ++ map (λ (e : List ℕ × ℕ). e.1) l.pair-iterator ≡ tasks_in (between l.path) l.self.pairs.keys
