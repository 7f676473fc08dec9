-- What an edge of a task leads to.
use Rattle.std.specs.Prelude.{Bool, ◌==◌}
use Rattle.std.specs.List.{list_any, Contains}
use Rattle.pie_base.specs.Path.{same_text}
use Rattle.pie_graph.specs.declared.uses.Use.{Use}
use Rattle.pie_graph.specs.declared.uses.Use.TheVariants.{Calls, Reads, Lists, Writes}
use Rattle.pie_graph.specs.Rows.{Row}

-- whether an edge of the row leads there
abbrev pub has : Row → Use → Bool
has row (Calls t) = list_any (λ n. n == t.0) row.needs
has row (Reads path) = list_any (λ p. same_text p path) row.reads
has row (Lists dir) = list_any (λ p. same_text p dir) row.lists
has row (Writes path) = list_any (λ p. same_text p path) row.writes

-- an edge of the row leads there
abbrev pub Has : Row → Use → Type 0
Has row (Calls t) = Contains row.needs t.0
Has row (Reads path) = Contains row.reads path
Has row (Lists dir) = Contains row.lists dir
Has row (Writes path) = Contains row.writes path
