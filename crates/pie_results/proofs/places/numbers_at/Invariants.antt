use Rattle.std.proofs.Common.{◌≡◌, ◌++◌}
use Rattle.pie_results.specs.inner.Ordered.{numbers_in}
use Rattle.pie_results.proofs.places.numbers_at.Given as goal

-- the numbers so far and those at the places that are left are those at all places
abbrev pub invariant-loop-no : goal.invariant-loop-no
invariant-loop-no l = l.nos.items ++ numbers_in l.no-iterator ≡ numbers_in l.places.entries
