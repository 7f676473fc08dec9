use Rattle.std.proofs.Common.{length}
use Rattle.pie_model_program.proofs.roots.+evaluate_roots.Given as goal

abbrev pub decreases-evaluate_roots : goal.decreases-evaluate_roots
decreases-evaluate_roots g l = length l.roots.now
