-- A set of numbers of tasks, seen as the list of its members.
use Rattle.std.specs.Prelude.{◌≡◌, ◌≢◌, ◌⊎◌, ℕ, ◌≤◌, List, slice_index}
use Rattle.std.specs.List.{Contains}
use Rattle.pie_graph.specs.Rows.{Row}
use Rattle.pie_reach.specs.inner.Reaches.{Reaches}

-- one number joins the members
pub record Joins (old new : List ℕ) (task : ℕ) : Type 0 where
  pub kept : (n : ℕ) → Contains old n → Contains new n
  pub joined : Contains new task
  pub only : (n : ℕ) → Contains new n → Contains old n ⊎ (n ≡ task)

-- one number leaves the members
pub record Leaves (old new : List ℕ) (task : ℕ) : Type 0 where
  pub kept : (n : ℕ) → Contains old n → n ≢ task → Contains new n
  pub only : (n : ℕ) → Contains new n → Contains old n × (n ≢ task)

-- a member that a task reaches, and that stands first of all such members
pub record StandsFirst (rows : List Row) (places members : List ℕ) (root taken : ℕ) : Type 0 where
  pub member : Contains members taken
  pub reached : Reaches rows root taken
  pub first : (other : ℕ) → Contains members other → Reaches rows root other → slice_index places taken ≤ slice_index places other
  pub alone : (other : ℕ) → Contains members other → Reaches rows taken other → other ≡ taken
