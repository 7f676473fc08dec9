use Rattle.std.proofs.Common.{◌≡◌, length, drop}
use Rattle.pie_graph.specs.Numbers.{numbers, AllBelow}
use Rattle.pie_walk.specs.inner.Sweeping.{schedule_all}
use Rattle.pie_walk.proofs.walk.Walk.schedule_all.Given as goal

abbrev pub invariant-loop-no : goal.invariant-loop-no
invariant-loop-no l =
    AllBelow (length l.self.scheduled) (numbers l.nos) × (schedule_all (numbers (drop l.no-index l.nos)) l.self ≡ schedule_all (numbers l.nos) l.fn.self)
