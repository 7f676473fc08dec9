use Rattle.std.proofs.Common.{◌≡◌, ◌++◌, drop}
use Rattle.pie_checks.specs.Listings.{missing_among}
use Rattle.pie_checks.proofs.misses.push_misses.Given as goal

abbrev pub invariant-loop-dep : goal.invariant-loop-dep
invariant-loop-dep l = l.found.items ++ missing_among (drop l.dep-index l.deps) l.no ≡ l.fn.found.items ++ missing_among l.deps l.no
