use Rattle.std.proofs.Common.{length}
use Rattle.pie_model_program.proofs.checks.+least_of.Given as goal

abbrev pub decreases-least_of : goal.decreases-least_of
decreases-least_of l = length l.found.now
