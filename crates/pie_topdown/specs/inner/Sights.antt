-- What a task that runs sees under `out/`, by the rows of the ledger and the contents that are staged.
use Rattle.std.specs.Prelude.{◌≡◌, ℕ, List, None, Some}
use Rattle.pie_graph.specs.declared.edges.TaskNo.{TaskNo}
use Rattle.pie_graph.specs.Rows.{Row}
use Rattle.pie_view.specs.Content.{Staged, content}
use Rattle.pie_view.specs.Seen.{Visible, IsOnly}
use Rattle.pie_view.specs.declared.seen.Seen.{Seen}
use Rattle.pie_view.specs.declared.seen.Seen.TheVariants.{By}
use Rattle.pie_running.specs.inner.Sights.{Sighted}
use Rattle.pie_task_laws.specs.Sights.{sight_by, OwnFirst}

-- a task that wrote nothing at a path is shown the content of the one that is seen of those that it requires
pub record ShowsOthers (rows : List Row) (staged : Staged) (needs : List ℕ) (path : List ℕ) (sight : Sighted) : Type 0 where
  pub seen : Seen
  pub only : IsOnly (Visible rows needs path) seen
  pub is : sight ≡ sight_by (λ k. content staged k path) seen

-- what it wrote itself, and else what others did
abbrev pub ShowsOut : List Row → Staged → ℕ → List ℕ → List ℕ → Sighted → Type 0
ShowsOut rows staged n needs path sight = OwnFirst (content staged n path) (ShowsOthers rows staged needs path sight) sight

-- a content is staged
abbrev pub IsStaged : Staged → ℕ → List ℕ → Type 0
IsStaged staged n path = (bytes : List ℕ) × (content staged n path ≡ Some bytes)

-- where a task that wrote nothing at a path, and requires these, sees the file of one other, that is staged
abbrev pub SeenIsStaged : List Row → Staged → ℕ → List ℕ → List ℕ → Type 0
SeenIsStaged rows staged n needs path =
    content staged n path ≡ None → (one : TaskNo) → IsOnly (Visible rows needs path) (By one) → IsStaged staged one.0 path

-- a task that requires these sees the file of another at a path, which isn't staged
abbrev pub Lacks : List Row → Staged → List ℕ → List ℕ → ℕ → Type 0
Lacks rows staged needs path writer = Visible rows needs path writer × (content staged writer path ≡ None)
