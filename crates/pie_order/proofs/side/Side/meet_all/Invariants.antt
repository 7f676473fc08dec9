-- The first tasks are met, and meeting the others leaves what is wanted.
use Rattle.std.proofs.Common.{◌≡◌, length, drop}
use Rattle.pie_graph.specs.Numbers.{numbers, AllBelow}
use Rattle.pie_order.specs.Sides.{met_all}
use Rattle.pie_order.proofs.side.Side.meet_all.Given as goal

abbrev pub invariant-loop-no : goal.invariant-loop-no
invariant-loop-no l =
    AllBelow (length l.self.marks) (numbers l.nos)
    × (met_all (numbers (drop l.no-index l.nos)) l.self ≡ met_all (numbers l.nos) l.fn.self)
