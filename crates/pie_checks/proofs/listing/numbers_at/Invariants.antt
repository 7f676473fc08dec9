use Rattle.std.proofs.Common.{◌≡◌, ◌++◌, drop}
use Rattle.pie_checks.specs.Listings.{numbers_beside}
use Rattle.pie_checks.proofs.listing.numbers_at.Given as goal

abbrev pub invariant-loop-entry : goal.invariant-loop-entry
invariant-loop-entry l = l.found.items ++ numbers_beside (drop l.entry-index l.listing) l.path ≡ numbers_beside l.listing l.path
