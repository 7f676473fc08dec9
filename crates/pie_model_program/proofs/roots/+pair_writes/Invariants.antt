use Rattle.std.proofs.Common.{length}
use Rattle.pie_model_program.proofs.roots.+pair_writes.Given as goal

abbrev pub decreases-pair_writes : goal.decreases-pair_writes
decreases-pair_writes l = length l.writes.now
