use Rattle.std.proofs.Common.{length, take, map}
use Rattle.pie_graph.specs.Rows.{row_of}
use Rattle.pie_union.specs.inner.Index.{Tells}
use Rattle.pie_union.proofs.index.Index.of.Given as goal

abbrev pub invariant-loop-i : goal.invariant-loop-i
invariant-loop-i l = Tells l.index (length l.rows) (map row_of (take l.i l.rows))
