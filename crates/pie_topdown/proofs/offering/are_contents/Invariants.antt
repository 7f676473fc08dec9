use Rattle.std.proofs.Common.{◌≡◌, length}
use Rattle.pie_topdown.proofs.offering.are_contents.Given as goal

-- there is a content for each write
abbrev pub invariant-loop-i : goal.invariant-loop-i
invariant-loop-i l = length l.writes ≡ length l.contents
