use Rattle.std.proofs.Common.{length}
use Rattle.pie_model_program.proofs.names.+round_onto.Given as goal

abbrev pub decreases-round_onto : goal.decreases-round_onto
decreases-round_onto l = length l.above.now
