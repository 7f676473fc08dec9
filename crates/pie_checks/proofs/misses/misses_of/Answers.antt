use Rattle.std.proofs.Common.{List, IsPermutation, subst}
use Rattle.pie_graph.specs.Numbers.{numbers}
use Rattle.pie_checks.specs.Records.{MissesAt}
use Rattle.pie_checks.specs.Listings.{Entry, all_misses}
use Rattle.pie_checks.proofs.Gathering.{misses_only, misses_each}
use Rattle.pie_checks.proofs.Sorting.{listing}
use Rattle.pie_checks.proofs.misses.misses_of.Goals as goal

pub returns : goal.returns
returns c =
    let records = c.args.records.now in
    let live = numbers c.args.live.now in
    listing (MissesAt records live) (all_misses records live) c.sort.new.self.items (misses_only records live) (misses_each records live)
    (subst (λ (es : List Entry). IsPermutation es c.sort.new.self.items) c.in_ok-found.ensures c.in_ok-sort.ensures.permutation) c.in_ok-sort.ensures.sorted
