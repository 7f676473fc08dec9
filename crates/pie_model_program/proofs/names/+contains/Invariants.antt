use Rattle.std.proofs.Common.{length}
use Rattle.pie_model_program.proofs.names.+contains.Given as goal

abbrev pub decreases-contains : goal.decreases-contains
decreases-contains l = length l.names.now
