use Rattle.pie_graph.specs.Numbers.{numbers}
use Rattle.pie_walk.specs.inner.Scans.{AreSettled}
use Rattle.pie_walk.proofs.scan.next_unsettled.Given as goal

abbrev pub invariant-loop-at : goal.invariant-loop-at
invariant-loop-at l = AreSettled (numbers l.callees) l.marks l.from l.at
