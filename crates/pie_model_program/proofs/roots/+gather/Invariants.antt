use Rattle.std.proofs.Common.{length}
use Rattle.pie_model_program.proofs.roots.+gather.Given as goal

abbrev pub decreases-gather : goal.decreases-gather
decreases-gather g l = length l.tasks.now
