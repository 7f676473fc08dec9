use Rattle.std.proofs.Common.{length}
use Rattle.pie_model_program.proofs.checks.+find_in.Given as goal

abbrev pub decreases-find_in : goal.decreases-find_in
decreases-find_in l = length l.ys.now
