use Rattle.std.proofs.Common.{◌<◌}
use Rattle.pie_checks.proofs.Sharing.{SameBelow}
use Rattle.pie_checks.proofs.overlap.shared.Given as goal

abbrev pub invariant-loop-i : goal.invariant-loop-i
invariant-loop-i l = (0 < l.i) × SameBelow l.writes l.i
