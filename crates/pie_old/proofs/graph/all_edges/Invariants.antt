use Rattle.std.proofs.Common.{map}
use Rattle.pie_graph.specs.Rows.{row_of}
use Rattle.pie_old.proofs.Moving.{AreRowsUpTo}
use Rattle.pie_old.proofs.graph.all_edges.Given as goal

abbrev pub invariant-loop-nos : goal.invariant-loop-nos
invariant-loop-nos l = AreRowsUpTo l.rows l.nos-iterator.rest.items (map row_of l.all.items) l.at
