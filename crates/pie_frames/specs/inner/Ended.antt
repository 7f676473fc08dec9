-- The row of a task that has ended.
use Rattle.std.specs.Prelude.{ℕ, List, [], drop}
use Rattle.pie_graph.specs.Rows.{Row}

-- what a row requires from a place on, and these writes
abbrev pub row_from : Row → ℕ → List (List ℕ) → Row
row_from row from writes = record { needs = drop from row.needs; reads = []; lists = []; writes = writes }
