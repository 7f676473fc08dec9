use Rattle.std.proofs.Common.{length}
use Rattle.pie_model_program.proofs.checks.+find_all.Given as goal

abbrev pub decreases-find_all : goal.decreases-find_all
decreases-find_all l = length l.xs.now
