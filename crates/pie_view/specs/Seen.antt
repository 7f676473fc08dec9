-- What a task sees of the writes of others.
use Rattle.std.specs.Prelude.{◌≡◌, ◌≢◌, ℕ, Bool, true, false, List}
use Rattle.std.specs.List.{Contains, list_any}
use Rattle.pie_base.specs.Path.{same_text}
use Rattle.pie_graph.specs.declared.edges.TaskNo.{TaskNo}
use Rattle.pie_graph.specs.Numbers.{IsMarked}
use Rattle.pie_graph.specs.Rows.{Row, Writes}
use Rattle.pie_reach.specs.inner.Reaches.{ReachedFrom}
use Rattle.pie_view.specs.declared.seen.Seen.{Seen}
use Rattle.pie_view.specs.declared.seen.Seen.TheVariants.{Absent, By, Clash}

-- one of a task's own writes has the path
abbrev pub IsOwn : List (List ℕ × List ℕ) → List ℕ → Type 0
IsOwn own path = (hash : List ℕ) × Contains own (path, hash)

-- whether one of these writes has the path
abbrev pub has_path : List (List ℕ × List ℕ) → List ℕ → Bool
has_path writes path = list_any (λ w. same_text w.0 path) writes

-- a task that wrote the path, among those that the required ones reach
abbrev pub Visible : List Row → List ℕ → List ℕ → ℕ → Type 0
Visible rows required path k = ReachedFrom rows required k × Writes rows k path

-- one of these writers, with a mark
abbrev pub Marked : List ℕ → List Bool → ℕ → Type 0
Marked writers marks k = Contains writers k × IsMarked marks k

-- one of these writers, which some required task reaches
abbrev pub Reached : List Row → List ℕ → List ℕ → ℕ → Type 0
Reached rows required writers k = Contains writers k × ReachedFrom rows required k

-- what is seen of the tasks of a set: nothing of none, the write of the only one, and a clash of two distinct ones
abbrev pub IsOnly : (ℕ → Type 0) → Seen → Type 0
IsOnly P Absent = (k : ℕ) → P k → ⊥
IsOnly P (By one) = P one.0 × ((k : ℕ) → P k → k ≡ one.0)
IsOnly P Clash = (a : ℕ) × (b : ℕ) × P a × P b × (a ≢ b)

-- what is seen where one more task may be in the set
abbrev pub seen_with : Seen → TaskNo → Bool → Seen
seen_with seen task false = seen
seen_with Absent task true = By task
seen_with (By one) task true = Clash
seen_with Clash task true = Clash
