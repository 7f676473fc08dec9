use Rattle.std.proofs.Common.{take}
use Rattle.pie_graph.specs.Numbers.{numbers}
use Rattle.pie_view.specs.Seen.{IsOnly, Marked}
use Rattle.pie_view.proofs.seen.among.Given as goal

abbrev pub invariant-loop-no : goal.invariant-loop-no
invariant-loop-no l = IsOnly (Marked (take l.no-index (numbers l.writers)) l.marks) l.seen
