use Rattle.std.proofs.Common.{◌≡◌, ◌++◌, drop}
use Rattle.pie_graph.specs.Numbers.{numbers}
use Rattle.pie_checks.specs.Listings.{all_misses}
use Rattle.pie_checks.proofs.misses.unsorted_misses.Given as goal

abbrev pub invariant-loop-no : goal.invariant-loop-no
invariant-loop-no l = l.found.items ++ all_misses l.records (numbers (drop l.no-index l.live)) ≡ all_misses l.records (numbers l.live)
