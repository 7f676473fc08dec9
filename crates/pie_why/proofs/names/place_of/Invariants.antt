use Rattle.std.proofs.Common.{length, ◌-◌, ◌≤◌}
use Rattle.pie_why.proofs.names.place_of.Given as goal

abbrev pub invariant-loop-from : goal.invariant-loop-from
invariant-loop-from l = (l.from ≤ l.to) × (l.to ≤ length l.names)

abbrev pub decreases-loop-from : goal.decreases-loop-from
decreases-loop-from l = l.to - l.from
