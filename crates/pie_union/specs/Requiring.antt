-- A row with one more required task.
use Rattle.std.specs.Prelude.{ℕ, [], ◌∷◌, ◌++◌}
use Rattle.pie_graph.specs.Rows.{Row}

-- a row with one more required task at its end
abbrev pub requiring : Row → ℕ → Row
requiring row k = record row { needs = row.needs ++ k ∷ [] }
