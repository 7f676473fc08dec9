use Rattle.std.proofs.Common.{◌≡◌, length, drop}
use Rattle.pie_graph.specs.Numbers.{numbers, AllBelow}
use Rattle.pie_reach.specs.inner.Walks.{meet_all}
use Rattle.pie_reach.proofs.walk.Walk.meet_all.Given as goal

abbrev pub invariant-loop-no : goal.invariant-loop-no
invariant-loop-no l =
    AllBelow (length l.self.marks) (numbers l.nos)
    × (meet_all (numbers (drop l.no-index l.nos)) l.self ≡ meet_all (numbers l.nos) l.fn.self)
