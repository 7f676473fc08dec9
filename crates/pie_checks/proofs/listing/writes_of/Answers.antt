use Rattle.std.proofs.Common.{List, IsPermutation, subst}
use Rattle.pie_graph.specs.Numbers.{numbers}
use Rattle.pie_checks.specs.Records.{WritesAt}
use Rattle.pie_checks.specs.Listings.{Entry, all_writes}
use Rattle.pie_checks.proofs.Gathering.{writes_only, writes_each}
use Rattle.pie_checks.proofs.Sorting.{listing}
use Rattle.pie_checks.proofs.listing.writes_of.Goals as goal

pub returns : goal.returns
returns c =
    let records = c.args.records.now in
    let live = numbers c.args.live.now in
    listing (WritesAt records live) (all_writes records live) c.sort.new.self.items (writes_only records live) (writes_each records live)
    (subst (λ (es : List Entry). IsPermutation es c.sort.new.self.items) c.in_ok-found.ensures c.in_ok-sort.ensures.permutation) c.in_ok-sort.ensures.sorted
