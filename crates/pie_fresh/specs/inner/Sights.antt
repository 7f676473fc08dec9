-- What a task sees at a path under `out/`, by the contents that are staged and the rows of the graph.
use Rattle.std.specs.Prelude.{◌≡◌, ℕ, List, Option, Some, None}
use Rattle.pie_graph.specs.Rows.{Row}
use Rattle.pie_view.specs.Content.{Staged, content}
use Rattle.pie_view.specs.declared.seen.Seen.{Seen}
use Rattle.pie_view.specs.declared.seen.Seen.TheVariants.{Absent, By, Clash}
use Rattle.pie_view.specs.Seen.{Visible, IsOnly}
use Rattle.pie_builder_laws.specs.Views.{unmarked}
use Rattle.pie_running.specs.inner.Noted.{Noted}
use Rattle.pie_running.specs.inner.Sights.{Sighted}

-- what is seen of others, whose contents at the path are these
abbrev pub sight_by : (ℕ → Option (List ℕ)) → Seen → Sighted
sight_by at Absent = Some None
sight_by at (By one) = Some (unmarked (at one.0))
sight_by at Clash = None

-- a task that wrote nothing at a path sees what the tasks wrote there that it requires
pub record SeesOthers (staged : Staged) (rows : List Row) (needs : List ℕ) (path : List ℕ) (sight : Sighted) : Type 0 where
  pub seen : Seen
  pub only : IsOnly (Visible rows needs path) seen
  pub is : sight ≡ sight_by (λ n. content staged n path) seen

-- what the task wrote itself, and else what others did
abbrev pub OwnFirst : Option (List ℕ) → Type 0 → Sighted → Type 0
OwnFirst (Some bytes) others sight = sight ≡ Some (Some (bytes, 0))
OwnFirst None others sight = others

-- a task sees this at a path under `out/`
abbrev pub SeesOut : Staged → List Row → Noted → List ℕ → Sighted → Type 0
SeesOut staged rows n path sight = OwnFirst (content staged n.number path) (SeesOthers staged rows n.needs path sight) sight
