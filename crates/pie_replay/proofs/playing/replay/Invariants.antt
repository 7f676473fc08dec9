use Rattle.std.proofs.Common.{map, drop}
use Rattle.pie_script.specs.Steps.{plain}
use Rattle.pie_replay.proofs.Tracing.{Replaying}
use Rattle.pie_replay.proofs.playing.replay.Given as goal

abbrev pub invariant-loop-step : goal.invariant-loop-step
invariant-loop-step g l = Replaying g.F.Files.holds g.F.Files.moment g.F.Files.left_since g.F.Files.images g.F.Files.asked g.F.Files.faults
    (map plain l.steps) (map plain (drop l.step-index l.steps)) l.fn.files l.files
    l.names.items l.fn.done.items l.done.items l.fn.runs l.runs
