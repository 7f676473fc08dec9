-- The integers so far, and then those that are left.
use Rattle.std.proofs.Common.{◌≡◌, ◌-◌, ◌++◌, ◌+ℤ◌, pos}
use Rattle.pie_builtins.proofs.Counted.{ints_on}
use Rattle.pie_builtins.proofs.ranges.counted.Given as goal

abbrev pub invariant-loop-k : goal.invariant-loop-k
invariant-loop-k l = l.items ++ ints_on (l.from +ℤ pos l.k) (l.count - l.k) ≡ ints_on l.from l.count
