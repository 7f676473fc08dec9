use Rattle.std.proofs.Common.{length}
use Rattle.pie_model_program.proofs.script.+file_at.Given as goal

abbrev pub decreases-file_at : goal.decreases-file_at
decreases-file_at l = length l.files.now
