-- What a search from both ends of a new edge finds.
use Rattle.std.specs.Prelude.{ℕ, List, length}
use Rattle.pie_graph.specs.Numbers.{numbers}
use Rattle.pie_graph.specs.Rows.{Row, Calls}
use Rattle.pie_reach.specs.inner.Reaches.{Reaches}
use Rattle.pie_order.specs.declared.search.Found.{Found}
use Rattle.pie_order.specs.declared.search.Found.TheVariants.{Below, Above, Cycle}
use Rattle.pie_order.specs.Sides.{IsSide}

-- one whole side of the edge, or that the required task reaches the other end
abbrev pub IsFound : List Row → ℕ → ℕ → Found → Type 0
IsFound rows from to (Below tasks) = IsSide (length rows) (Calls rows) to from (numbers tasks.items)
IsFound rows from to (Above tasks) = IsSide (length rows) (λ a b. Calls rows b a) from to (numbers tasks.items)
IsFound rows from to Cycle = Reaches rows to from
