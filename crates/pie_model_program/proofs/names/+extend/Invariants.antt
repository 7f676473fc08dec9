use Rattle.std.proofs.Common.{length}
use Rattle.pie_model_program.proofs.names.+extend.Given as goal

abbrev pub decreases-extend : goal.decreases-extend
decreases-extend l = length l.writes.now
