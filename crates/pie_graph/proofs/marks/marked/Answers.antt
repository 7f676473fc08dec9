use Rattle.std.proofs.Common.{arith}
use Rattle.pie_graph.specs.Numbers.{numbers}
use Rattle.pie_graph.proofs.MarkedNumbers.{marked_end, marked_exactly}
use Rattle.pie_graph.proofs.marks.marked.Goals as goal

pub returns : goal.returns
returns c =
    marked_exactly _ (numbers c.loop-i.found.items)
    (marked_end (numbers c.loop-i.found.items) c.loop-i.i c.args.marks.now (omega arith) c.loop-i.invariant)
