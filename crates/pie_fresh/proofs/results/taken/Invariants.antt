-- proofs/results/taken/Invariants.antt
use Rattle.std.proofs.Common.{◌≡◌, ◌++◌, drop}
use Rattle.pie_fresh.specs.inner.Ordered.{recorded, AreApart}
use Rattle.pie_fresh.proofs.results.taken.Given as goal

-- the records so far and those at the places that are left are those of all places, and the places that are left are apart
abbrev pub invariant-loop-no : goal.invariant-loop-no
invariant-loop-no l =
    (l.rows.items ++ recorded l.records (drop l.no-index l.places) ≡ recorded l.initial.records l.places) × AreApart (drop l.no-index l.places)
