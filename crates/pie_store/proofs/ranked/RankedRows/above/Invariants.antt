use Rattle.std.proofs.Common.{◌≡◌, ◌≤◌, ◌++◌, drop, length, map, Some}
use Rattle.pie_store.specs.Ranks.{above}
use Rattle.pie_store.specs.inner.Ties.{named_by, needs_in, tasks_among}
use Rattle.pie_store.proofs.ranked.RankedRows.above.Given as goal

abbrev pub invariant-loop-i : goal.invariant-loop-i
invariant-loop-i l =
    (above l.self (drop l.i l.fn.deps.items) l.height ≡ above l.self l.fn.deps.items 0)
    × (l.height ≤ length l.self)
    × (named_by (tasks_among l.self) l.needs.items ++ map Some (needs_in (drop l.i l.fn.deps.items))
    ≡ named_by (tasks_among l.self) l.fn.needs.items ++ map Some (needs_in l.fn.deps.items))
    × (l.deps.items ≡ l.fn.deps.items)
