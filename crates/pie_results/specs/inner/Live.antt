-- The tasks that roots reach.
use Rattle.std.specs.Prelude.{◌≡◌, ℕ, List, Some, slice_get}
use Rattle.std.specs.List.{Contains}
use Rattle.pie_value.specs.declared.task.Task.{Task}
use Rattle.pie_graph.specs.Numbers.{Exactly}
use Rattle.pie_graph.specs.Rows.{Row}
use Rattle.pie_reach.specs.inner.Reaches.{ReachedFrom}

-- the number of a task is among these
abbrev pub HasNumber : List Task → List ℕ → Task → Type 0
HasNumber names nos t = (n : ℕ) × (slice_get names n ≡ Some t) × Contains nos n

-- the numbers of roots, of those that have one
pub record AreStarts (names roots : List Task) (nos : List ℕ) : Type 0 where
  pub only : (n : ℕ) → Contains nos n → (t : Task) × Contains roots t × (slice_get names n ≡ Some t)
  pub each : (t : Task) → Contains roots t → Contains names t → HasNumber names nos t

-- exactly the tasks that roots reach
pub record AreLive (names roots : List Task) (rows : List Row) (live : List ℕ) : Type 0 where
  pub starts : List ℕ
  pub are : AreStarts names roots starts
  pub exactly : Exactly (ReachedFrom rows starts) live
