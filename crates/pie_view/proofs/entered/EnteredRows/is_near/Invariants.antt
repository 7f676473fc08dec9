use Rattle.std.proofs.Common.{◌≤◌, length}
use Rattle.pie_view.proofs.entered.EnteredRows.is_near.Given as goal

abbrev pub invariant-loop-left : goal.invariant-loop-left
invariant-loop-left l = l.left ≤ length l.required

abbrev pub decreases-loop-left : goal.decreases-loop-left
decreases-loop-left l = l.left
