use Rattle.pie_store.proofs.Tying.{number_outside}
use Rattle.pie_store.proofs.ranked.RankedRows.place.Goals as goal

pub with_height-requires-clause-number : goal.with_height-requires-clause-number
with_height-requires-clause-number c = number_outside _ _ _ _ _ _ c.self.invariant.ranked c.self.view_is c.in_ok-number.ensures
