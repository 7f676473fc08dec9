use Rattle.std.specs.List.{All}
use Rattle.pie_store.specs.inner.Offers.{IsOffer}
use Rattle.test_topdown.proofs.Swapping.{AreSwapped}
use Rattle.test_topdown.proofs.offers.all_swapped.Given as goal

-- the entries so far have the content
abbrev pub invariant-loop-entry : goal.invariant-loop-entry
invariant-loop-entry l = AreSwapped l.content l.entries l.entry-index l.swapped.items × All IsOffer l.swapped.items
