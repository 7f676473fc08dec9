use Rattle.std.proofs.Common.{◌≡◌, ◌++◌, drop}
use Rattle.std.specs.List.{filter}
use Rattle.pie_listing.specs.inner.Sources.{stands}
use Rattle.pie_listing.proofs.renewing.put_all.Given as goal

abbrev pub invariant-loop-entry : goal.invariant-loop-entry
invariant-loop-entry l = l.entries.items ++ filter (stands l.place) (drop l.entry-index l.from) ≡ l.fn.entries.items ++ filter (stands l.place) l.from
