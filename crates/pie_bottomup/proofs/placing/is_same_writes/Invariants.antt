use Rattle.std.proofs.Common.{◌≡◌, take}
use Rattle.pie_bottomup.proofs.placing.is_same_writes.Given as goal

-- the writes are the same so far
abbrev pub invariant-loop-i : goal.invariant-loop-i
invariant-loop-i l = take l.i l.old ≡ take l.i l.new
