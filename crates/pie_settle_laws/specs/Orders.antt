-- What an order of the tasks tells of their rows.
use Rattle.std.specs.Prelude.{ℕ, List}
use Rattle.pie_graph.specs.Rows.{Row}
use Rattle.pie_reach.specs.inner.Reaches.{IsAcyclic}
use Rattle.pie_order.specs.Places.{PlacesAgree}

-- where each required task stands before those that require it, no required task reaches its requirer
abbrev pub OrderedRowsAreAcyclic : Type 0
OrderedRowsAreAcyclic = (rows : List Row) (places : List ℕ) → PlacesAgree rows places → IsAcyclic rows
