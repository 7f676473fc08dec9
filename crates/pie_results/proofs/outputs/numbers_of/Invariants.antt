use Rattle.std.proofs.Common.{take}
use Rattle.pie_graph.specs.Numbers.{numbers}
use Rattle.pie_results.specs.inner.Live.{AreStarts}
use Rattle.pie_results.proofs.outputs.numbers_of.Given as goal

-- the numbers of the roots so far
abbrev pub invariant-loop-root : goal.invariant-loop-root
invariant-loop-root l = AreStarts l.tables.names (take l.root-index l.roots) (numbers l.nos.items)
