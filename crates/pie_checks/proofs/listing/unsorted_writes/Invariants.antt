use Rattle.std.proofs.Common.{◌≡◌, ◌++◌, drop}
use Rattle.pie_graph.specs.Numbers.{numbers}
use Rattle.pie_checks.specs.Listings.{all_writes}
use Rattle.pie_checks.proofs.listing.unsorted_writes.Given as goal

abbrev pub invariant-loop-no : goal.invariant-loop-no
invariant-loop-no l = l.found.items ++ all_writes l.records (numbers (drop l.no-index l.live)) ≡ all_writes l.records (numbers l.live)
