-- What the task that runs sees under `out/`, by the rows of the walk and the contents that are staged.
use Rattle.std.specs.Prelude.{◌≡◌, ℕ, ◌<◌, List, length, drop, None, Some}
use Rattle.pie_graph.specs.declared.edges.TaskNo.{TaskNo}
use Rattle.pie_graph.specs.Rows.{Row, row_at}
use Rattle.pie_view.specs.Content.{Staged, content}
use Rattle.pie_view.specs.Seen.{Visible, IsOnly}
use Rattle.pie_view.specs.declared.seen.Seen.{Seen}
use Rattle.pie_view.specs.declared.seen.Seen.TheVariants.{By}
use Rattle.pie_running.specs.inner.Noted.{Noted}
use Rattle.pie_running.specs.inner.Sights.{Sighted}
use Rattle.pie_task_laws.specs.Sights.{sight_by, OwnFirst}

-- these are the notes of a task of the walk, which requires by its row from a place on what it noted
pub record IsTaskAt (rows : List Row) (n from : ℕ) (notes : Noted) : Type 0 where
  pub inside : n < length rows
  pub number : notes.number ≡ n
  pub needs : drop from (row_at rows n).needs ≡ notes.needs

-- a task that wrote nothing at a path is shown the content of the one that is seen of those that it requires
pub record ShowsOthers (rows : List Row) (staged : Staged) (needs : List ℕ) (path : List ℕ) (sight : Sighted) : Type 0 where
  pub seen : Seen
  pub only : IsOnly (Visible rows needs path) seen
  pub is : sight ≡ sight_by (λ k. content staged k path) seen

-- what it wrote itself, and else what others did
abbrev pub ShowsOut : List Row → Staged → ℕ → List ℕ → List ℕ → Sighted → Type 0
ShowsOut rows staged n needs path sight = OwnFirst (content staged n path) (ShowsOthers rows staged needs path sight) sight

-- a content is staged
abbrev pub IsStaged : Staged → ℕ → List ℕ → Type 0
IsStaged staged n path = (bytes : List ℕ) × (content staged n path ≡ Some bytes)

-- where a task that wrote nothing at a path, and has required what its row has from a place on, sees the file of one other, that is staged
abbrev pub SeenIsStaged : List Row → Staged → ℕ → ℕ → List ℕ → Type 0
SeenIsStaged rows staged n from path =
    content staged n path ≡ None → (one : TaskNo) → IsOnly (Visible rows (drop from (row_at rows n).needs) path) (By one) → IsStaged staged one.0 path
