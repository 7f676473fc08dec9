use Rattle.std.proofs.Common.{◌≡◌, ◌++◌, drop}
use Rattle.pie_results.specs.inner.Ordered.{recorded, AreApart}
use Rattle.pie_results.proofs.records.taken.Given as goal

-- the records so far and those that the numbers that are left still have are those of all numbers, and the numbers that are left are apart
abbrev pub invariant-loop-no : goal.invariant-loop-no
invariant-loop-no l =
    (l.rows.items ++ recorded l.records (drop l.no-index l.nos) ≡ recorded l.initial.records l.nos) × AreApart (drop l.no-index l.nos)
