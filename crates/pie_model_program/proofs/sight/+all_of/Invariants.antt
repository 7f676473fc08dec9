use Rattle.std.proofs.Common.{length}
use Rattle.pie_model_program.proofs.sight.+all_of.Given as goal

abbrev pub decreases-all_of : goal.decreases-all_of
decreases-all_of l = length l.all.now
