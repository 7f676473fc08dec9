-- What a running task sees at a path under `out/`, by the contents that are staged and the rows of the walk.
use Rattle.std.specs.Prelude.{◌≡◌, ℕ, List, Option, Some, None}
use Rattle.pie_view.specs.Content.{content}
use Rattle.pie_view.specs.declared.seen.Seen.{Seen}
use Rattle.pie_view.specs.declared.seen.Seen.TheVariants.{Absent, By, Clash}
use Rattle.pie_view.specs.Seen.{Visible, IsOnly}
use Rattle.pie_builder_laws.specs.Views.{unmarked}
use Rattle.pie_core_laws.specs.Seeing.{IsStagedFor}
use Rattle.pie_running.specs.inner.Noted.{Noted}
use Rattle.pie_running.specs.inner.Sights.{Sighted}
use Rattle.pie_task_laws.specs.Sites.{Site, Build}

-- what is seen of others, whose contents at the path are these
abbrev pub sight_by : (ℕ → Option (List ℕ)) → Seen → Sighted
sight_by at Absent = Some None
sight_by at (By one) = Some (unmarked (at one.0))
sight_by at Clash = None

-- a task that wrote nothing at a path sees what the tasks wrote there that it required: of the one that is seen the contents are staged
pub record SeesOthers (x : Site) (b : Build) (needs : List ℕ) (path : List ℕ) (sight : Sighted) : Type 0 where
  pub seen : Seen
  pub only : IsOnly (Visible b.walk.rows needs path) seen
  pub staged : IsStagedFor x.update b.names (content b.stage) path seen
  pub is : sight ≡ sight_by (λ n. content b.stage n path) seen

-- what the task wrote itself, and else what others did
abbrev pub OwnFirst : Option (List ℕ) → Type 0 → Sighted → Type 0
OwnFirst (Some bytes) others sight = sight ≡ Some (Some (bytes, 0))
OwnFirst None others sight = others

-- a task sees this at a path under `out/`
abbrev pub SeesOut : Site → Build → Noted → List ℕ → Sighted → Type 0
SeesOut x b n path sight = OwnFirst (content b.stage n.number path) (SeesOthers x b n.needs path sight) sight
