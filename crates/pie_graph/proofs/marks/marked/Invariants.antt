use Rattle.std.proofs.Common.{◌≡◌, ◌++◌, drop}
use Rattle.pie_graph.specs.Numbers.{numbers}
use Rattle.pie_graph.proofs.MarkedNumbers.{marked_from}
use Rattle.pie_graph.proofs.marks.marked.Given as goal

abbrev pub invariant-loop-i : goal.invariant-loop-i
invariant-loop-i l = numbers l.found.items ++ marked_from l.i (drop l.i l.marks) ≡ marked_from 0 l.marks
