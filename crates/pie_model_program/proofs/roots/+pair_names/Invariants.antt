use Rattle.std.proofs.Common.{length}
use Rattle.pie_model_program.proofs.roots.+pair_names.Given as goal

abbrev pub decreases-pair_names : goal.decreases-pair_names
decreases-pair_names l = length l.names.now
