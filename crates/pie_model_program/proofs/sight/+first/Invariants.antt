use Rattle.std.proofs.Common.{length}
use Rattle.pie_model_program.proofs.sight.+first.Given as goal

abbrev pub decreases-first : goal.decreases-first
decreases-first l = length l.writes.now
