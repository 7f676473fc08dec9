-- An index of edges: pairs of what is used and the number of the user.
use Rattle.std.specs.Prelude.{◌≡◌, ℕ, Bool, ◌&&◌, ◌==◌, List}
use Rattle.std.specs.declared.cmp.Ordering.{Ordering}
use Rattle.std.specs.Ordering.{nat_cmp, ordering_then}
use Rattle.std.specs.BTreeSet.{BTreeSet, contains}
use Rattle.pie_graph.specs.declared.uses.Use.{Use}
use Rattle.pie_graph.specs.contracts.uses.UseOrd.TheImpl as use_ord
use Rattle.pie_graph.specs.Rows.{Row, row_at}
use Rattle.pie_graph.specs.Uses.{has}

-- the order of what edges lead to
abbrev pub use_cmp : Use → Use → Ordering
use_cmp = (use_ord.ghosts).cmp

-- the order of edges: by what they lead to, then by the number of the user
abbrev pub edge_cmp : Use × ℕ → Use × ℕ → Ordering
edge_cmp a b = ordering_then (use_cmp a.0 b.0) (nat_cmp a.1 b.1)

-- whether an edge is in an index
abbrev pub holds : BTreeSet (Use × ℕ) → Use × ℕ → Bool
holds index edge = contains edge_cmp index edge

-- whether an edge is one of this row, under this number
abbrev pub is_of : Row → ℕ → Use × ℕ → Bool
is_of row n edge = edge.1 == n && has row edge.0

-- an index holds exactly the edges of the rows
abbrev pub IsIndex : BTreeSet (Use × ℕ) → List Row → Type 0
IsIndex index rows = (edge : Use × ℕ) → holds index edge ≡ has (row_at rows edge.1) edge.0
