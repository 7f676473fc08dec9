use Rattle.std.proofs.Common.{◌<◌, length}
use Rattle.pie_bottomup.proofs.cycle.least.Given as goal

abbrev pub invariant-loop-i : goal.invariant-loop-i
invariant-loop-i l = l.at < length l.tasks
