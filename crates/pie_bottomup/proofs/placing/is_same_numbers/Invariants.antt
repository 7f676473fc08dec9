use Rattle.std.proofs.Common.{◌≡◌, take}
use Rattle.pie_graph.specs.Numbers.{numbers}
use Rattle.pie_bottomup.proofs.placing.is_same_numbers.Given as goal

-- the numbers are the same so far
abbrev pub invariant-loop-i : goal.invariant-loop-i
invariant-loop-i l = take l.i (numbers l.one) ≡ take l.i (numbers l.other)
