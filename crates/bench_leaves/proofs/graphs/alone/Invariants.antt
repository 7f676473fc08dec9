use Rattle.std.proofs.Common.{◌≡◌, length}
use Rattle.bench_leaves.proofs.graphs.alone.Given as goal

abbrev pub invariant-loop : goal.invariant-loop
invariant-loop l = length l.rows ≡ l.counter
