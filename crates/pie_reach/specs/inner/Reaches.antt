-- Which tasks a task reaches, and what follows from it: cycles, heights, lowest tasks.
use Rattle.std.specs.Prelude.{◌≡◌, ℕ, ◌+◌, ◌<◌, List, [], ◌∷◌, length, map, max, slice_index}
use Rattle.std.specs.List.{Contains}
use Rattle.pie_graph.specs.Rows.{Row, row_at, Calls}

-- one number leads to another by steps of a relation, or by none
pub data Leads (goes : ℕ → ℕ → Type 0) : ℕ → ℕ → Type 0 where
  itself : {a : ℕ} → Leads goes a a
  step : {a b c : ℕ} → goes a b → Leads goes b c → Leads goes a c

-- a task requires another, directly or through others, or is it
abbrev pub Reaches : List Row → ℕ → ℕ → Type 0
Reaches rows = Leads (Calls rows)

-- some of these tasks reaches it
abbrev pub ReachedFrom : List Row → List ℕ → ℕ → Type 0
ReachedFrom rows roots task = (root : ℕ) × Contains roots root × Reaches rows root task

-- no required task reaches the task that requires it
abbrev pub IsAcyclic : List Row → Type 0
IsAcyclic rows = (caller callee : ℕ) → Calls rows caller callee → Reaches rows callee caller → ⊥

-- one more than the greatest of these heights, and 0 where there is none
abbrev pub height_over : List ℕ → ℕ
height_over [] = 0
height_over (h ∷ hs) = max (h + 1) (height_over hs)

-- each row's height is 0 without requires, else one more than the greatest of a required task
pub record AreHeights (rows : List Row) (heights : List ℕ) : Type 0 where
  pub as_many : length heights ≡ length rows
  pub each : (task : ℕ) → task < length rows → slice_index heights task ≡ height_over (map (slice_index heights) (row_at rows task).needs)

-- a member that a task reaches, and that reaches no other member
pub record IsLowest (rows : List Row) (members : List ℕ) (under lowest : ℕ) : Type 0 where
  pub member : Contains members lowest
  pub reached : Reaches rows under lowest
  pub alone : (other : ℕ) → Contains members other → Reaches rows lowest other → other ≡ lowest

-- a task reaches none of these
abbrev pub ReachesNone : List Row → List ℕ → ℕ → Type 0
ReachesNone rows members under = (n : ℕ) → Contains members n → Reaches rows under n → ⊥
