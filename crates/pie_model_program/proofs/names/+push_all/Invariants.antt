use Rattle.std.proofs.Common.{length}
use Rattle.pie_model_program.proofs.names.+push_all.Given as goal

abbrev pub decreases-push_all : goal.decreases-push_all
decreases-push_all l = length l.names.now
