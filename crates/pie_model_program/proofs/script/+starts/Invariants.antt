use Rattle.std.proofs.Common.{length}
use Rattle.pie_model_program.proofs.script.+starts.Given as goal

abbrev pub decreases-starts : goal.decreases-starts
decreases-starts l = length l.path.now
