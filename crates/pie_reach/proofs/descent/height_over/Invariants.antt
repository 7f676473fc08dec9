use Rattle.std.proofs.Common.{◌≡◌, map, max, drop}
use Rattle.pie_graph.specs.Numbers.{numbers}
use Rattle.pie_reach.specs.inner.Reaches.{height_over}
use Rattle.pie_reach.specs.inner.Descents.{height_at}
use Rattle.pie_reach.proofs.descent.height_over.Given as goal

abbrev pub invariant-loop-callee : goal.invariant-loop-callee
invariant-loop-callee l = max l.greatest (height_over (map (height_at l.states) (numbers (drop l.callee-index l.callees)))) ≡ height_over
    (map (height_at l.states) (numbers l.callees))
