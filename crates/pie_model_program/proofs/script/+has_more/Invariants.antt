use Rattle.std.proofs.Common.{length}
use Rattle.pie_model_program.proofs.script.+has_more.Given as goal

abbrev pub decreases-has_more : goal.decreases-has_more
decreases-has_more l = length l.path.now
