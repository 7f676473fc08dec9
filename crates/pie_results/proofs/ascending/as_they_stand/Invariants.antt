use Rattle.std.proofs.Common.{take}
use Rattle.std.specs.Prelude.{IfSome}
use Rattle.pie_value.specs.Canonical.{IsEncodableTask}
use Rattle.pie_graph.specs.Numbers.{numbers}
use Rattle.pie_results.specs.inner.Ordered.{AreOrdered}
use Rattle.pie_results.proofs.Standing.{IsLast, last_key}
use Rattle.pie_results.proofs.ascending.as_they_stand.Given as goal

-- the numbers of the live tasks so far, and what comes after the last comes after all of them
abbrev pub invariant-loop-no : goal.invariant-loop-no
invariant-loop-no l =
    AreOrdered l.tables.records l.heights (numbers l.live) (take l.no-index (numbers l.live)) l.nos.items
    × IsLast l.tables.records l.heights (last_key l.last) l.nos.items
    × IfSome l.last (λ x. IsEncodableTask x.1.now)
