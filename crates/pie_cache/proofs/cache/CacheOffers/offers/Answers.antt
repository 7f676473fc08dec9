use Rattle.std.specs.Prelude.{map}
use Rattle.pie_store.specs.inner.Offers.{offered}
use Rattle.pie_store.proofs.Unchanged.{nothing_happens}
use Rattle.pie_cache.proofs.Fetching.{found_offers, entries_offered}
use Rattle.pie_cache.proofs.cache.CacheOffers.offers.Goals as goal

pub returns-clause-offers : goal.returns-clause-offers
returns-clause-offers g c =
    found_offers (g.F.Files.holds c.args.files.now) (map offered c.in_ok-entries.entries.items) c.in_ok-path.path c.args.task.now c.args.digest.now
    c.in_ok-path.ensures.path c.in_ok-entries.ensures.entries

pub returns-clause-rows : goal.returns-clause-rows
returns-clause-rows g c = entries_offered _ c.in_ok-entries.ensures.good

pub returns-in_err-path-clause-crash : goal.returns-in_err-path-clause-crash
returns-in_err-path-clause-crash g c = nothing_happens g.F.Files.holds g.F.Files.moment g.F.Files.left_since g.F.Files.images c.args.files.now
