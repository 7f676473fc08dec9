use Rattle.std.proofs.Common.{length}
use Rattle.pie_model_program.proofs.names.+tag_all.Given as goal

abbrev pub decreases-tag_all : goal.decreases-tag_all
decreases-tag_all l = length l.writes.now
