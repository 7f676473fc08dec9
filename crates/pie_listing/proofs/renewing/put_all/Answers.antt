use Rattle.std.specs.List.{filter}
use Rattle.pie_scan.proofs.Growing.{goes_on, filter_step}
use Rattle.pie_listing.specs.inner.Sources.{stands}
use Rattle.pie_listing.proofs.renewing.put_all.Goals as goal

pub loop-entry-preserved : goal.loop-entry-preserved
loop-entry-preserved c =
    goes_on (filter (stands c.args.place)) _ (filter_step (stands c.args.place)) _ _ _ _ _ _ c.loop-entry-test.true c.entry-item.is c.in_ok-put.ensures
    c.loop-entry.invariant
