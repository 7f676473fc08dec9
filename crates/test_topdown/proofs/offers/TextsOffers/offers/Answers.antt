use Rattle.std.proofs.Common.{◌++◌, ap, ◌∙◌}
use Rattle.pie_cache.specs.inner.Reading.{cache_says}
use Rattle.pie_cache.specs.inner.Stored.{or_none}
use Rattle.pie_files.proofs.Reading.{if_always}
use Rattle.pie_store.proofs.Unchanged.{nothing_happens}
use Rattle.test_topdown.proofs.offers.TextsOffers.offers.Goals as goal

pub returns-in_err-all-clause-crash : goal.returns-in_err-all-clause-crash
returns-in_err-all-clause-crash g c = nothing_happens g.F.Files.holds g.F.Files.moment g.F.Files.left_since g.F.Files.images c.args._files.now

pub returns-clause-offers : goal.returns-clause-offers
returns-clause-offers g c =
    if_always (g.F.Files.holds c.args._files.now)
    (c.in_ok-all.ensures.offers ∙ ap (λ bs. or_none (cache_says bs) ++ or_none (cache_says c.as_slice-2.result.now)) c.as_slice.ensures.value
    ∙ ap (λ bs. or_none (cache_says c.args.self.now.first.items) ++ or_none (cache_says bs)) c.as_slice-2.ensures.value)

pub returns-clause-crash : goal.returns-clause-crash
returns-clause-crash g c = nothing_happens g.F.Files.holds g.F.Files.moment g.F.Files.left_since g.F.Files.images c.args._files.now
