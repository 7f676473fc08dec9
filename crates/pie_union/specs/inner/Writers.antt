-- Pairs of a written path and the number of the task that wrote it.
use Rattle.std.specs.Prelude.{◌≡◌, ℕ, Bool, List}
use Rattle.std.specs.declared.cmp.Ordering.{Ordering}
use Rattle.std.specs.Ordering.{nat_cmp, ordering_then}
use Rattle.std.specs.Cmp.Lexicographic.{slice_cmp}
use Rattle.std.specs.BTreeSet.{BTreeSet, contains}
use Rattle.std.specs.List.{list_any}
use Rattle.pie_base.specs.Path.{same_text}
use Rattle.pie_graph.specs.Rows.{Row, row_at}

-- the order of pairs: by the path, then by the number
abbrev pub pair_cmp : List ℕ × ℕ → List ℕ × ℕ → Ordering
pair_cmp a b = ordering_then (slice_cmp nat_cmp a.0 b.0) (nat_cmp a.1 b.1)

-- whether a pair is in a set
abbrev pub holds : BTreeSet (List ℕ × ℕ) → List ℕ × ℕ → Bool
holds pairs pair = contains pair_cmp pairs pair

-- whether a path stands in a list
abbrev pub wrote : List (List ℕ) → List ℕ → Bool
wrote paths path = list_any (λ p. same_text p path) paths

-- a set holds exactly the paths that the rows wrote, each with the number of its row
abbrev pub AreWriters : BTreeSet (List ℕ × ℕ) → List Row → Type 0
AreWriters pairs rows = (pair : List ℕ × ℕ) → holds pairs pair ≡ wrote (row_at rows pair.1).writes pair.0
