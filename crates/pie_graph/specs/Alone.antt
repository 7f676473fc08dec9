-- Rows with edges of one kind alone.
use Rattle.std.specs.Prelude.{ℕ, List}
use Rattle.pie_graph.specs.Rows.{Row, no_edges}

-- a row that requires these tasks and does nothing else
abbrev pub calls_alone : List ℕ → Row
calls_alone needs = record no_edges { needs = needs }

-- a row that writes these paths and does nothing else
abbrev pub writes_alone : List (List ℕ) → Row
writes_alone paths = record no_edges { writes = paths }

-- a row without all that isn't written
abbrev pub written : Row → Row
written row = writes_alone row.writes
