use Rattle.std.proofs.Common.{◌≡◌, length}
use Rattle.bench_leaves.proofs.graphs.chain.Given as goal

abbrev pub invariant-loop-i : goal.invariant-loop-i
invariant-loop-i l = length l.rows ≡ l.i-end
