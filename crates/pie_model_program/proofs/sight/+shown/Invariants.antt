use Rattle.std.proofs.Common.{length}
use Rattle.pie_model_program.proofs.sight.+shown.Given as goal

abbrev pub decreases-shown : goal.decreases-shown
decreases-shown l = length l.all.now
