use Rattle.std.proofs.Common.{◌≡◌, ◌≤◌, false, List, ◌++◌, length}
use Rattle.std.specs.List.{All}
use Rattle.pie_store.specs.declared.offers.Offer.{Offer}
use Rattle.pie_store.specs.inner.Offers.{IsOffer}
use Rattle.pie_topdown.specs.inner.Offering.{FitsSo}
use Rattle.pie_topdown.proofs.builder.Builder.next_fitting.Given as goal

-- those that are left have canonical bytes, and are the last of those that there were; those before them don't fit
abbrev pub invariant-offers : goal.invariant-offers
invariant-offers l =
    All IsOffer l.rest.items × (length l.rest.items ≤ length l.fn.rest.items)
    × ((over : List Offer) × (l.fn.rest.items ≡ over ++ l.rest.items) × All (λ x. FitsSo l.fn.self l.fn.no.0 x false) over)

abbrev pub decreases-offers : goal.decreases-offers
decreases-offers l = length l.rest.items
