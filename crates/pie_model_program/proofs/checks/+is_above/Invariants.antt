use Rattle.std.proofs.Common.{length}
use Rattle.pie_model_program.proofs.checks.+is_above.Given as goal

abbrev pub decreases-is_above : goal.decreases-is_above
decreases-is_above l = length l.path.now
