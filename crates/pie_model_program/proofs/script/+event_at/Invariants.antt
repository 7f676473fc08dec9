use Rattle.std.proofs.Common.{length}
use Rattle.pie_model_program.proofs.script.+event_at.Given as goal

abbrev pub decreases-event_at : goal.decreases-event_at
decreases-event_at l = length l.lines.now
