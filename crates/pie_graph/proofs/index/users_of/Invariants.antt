use Rattle.std.proofs.Common.{◌≡◌, ◌++◌, ℕ, map}
use Rattle.pie_graph.specs.declared.uses.Use.{Use}
use Rattle.pie_graph.specs.Numbers.{numbers}
use Rattle.pie_graph.proofs.EdgeRange.{users_in, between}
use Rattle.pie_graph.proofs.index.users_of.Given as goal

abbrev pub invariant-loop-edge : goal.invariant-loop-edge
invariant-loop-edge l = numbers l.found.items ++ map (λ (e : Use × ℕ). e.1) l.edge-iterator ≡ users_in (between l.fn.what) l.index.keys
