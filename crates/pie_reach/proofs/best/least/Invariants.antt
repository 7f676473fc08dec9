use Rattle.std.proofs.Common.{take}
use Rattle.pie_graph.specs.Numbers.{numbers}
use Rattle.pie_reach.specs.inner.LeastKey.{IsBest}
use Rattle.pie_reach.proofs.best.least.Given as goal

abbrev pub invariant-loop-no : goal.invariant-loop-no
invariant-loop-no l = IsBest (numbers (take l.no-index l.among)) l.marks l.keys l.best
