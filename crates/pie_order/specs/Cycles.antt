-- The cycle that a new edge would close.
use Rattle.std.specs.Prelude.{◌≡◌, ℕ, ◌+◌, ◌<◌, ◌≤◌, ◌⊎◌, List, length, slice_index}
use Rattle.pie_graph.specs.Rows.{Row, Calls}

-- a task requires another, or would by a new edge
abbrev pub WouldCall : List Row → ℕ → ℕ → ℕ → ℕ → Type 0
WouldCall rows from to a b = Calls rows a b ⊎ ((a ≡ from) × (b ≡ to))

-- numbers in a ring, each there once: each goes to the next, and the last to the first
pub record IsRing (goes : ℕ → ℕ → Type 0) (ns : List ℕ) : Type 0 where
  pub some : 0 < length ns
  pub each : (i : ℕ) → i + 1 < length ns → goes (slice_index ns i) (slice_index ns (i + 1))
  pub closes : (i : ℕ) → i + 1 ≡ length ns → goes (slice_index ns i) (slice_index ns 0)
  pub once : (i j : ℕ) → i < length ns → j < length ns → slice_index ns i ≡ slice_index ns j → i ≡ j

-- no number is less than the one at a place
abbrev pub IsLeastAt : List ℕ → ℕ → Type 0
IsLeastAt ns at = (i : ℕ) → i < length ns → slice_index ns at ≤ slice_index ns i

-- a ring of tasks, the least first
pub record IsCycle (goes : ℕ → ℕ → Type 0) (ns : List ℕ) : Type 0 where
  pub ring : IsRing goes ns
  pub least : IsLeastAt ns 0

-- a way by required tasks from one task to another
pub record IsTrail (rows : List Row) (start end : ℕ) (ns : List ℕ) : Type 0 where
  pub some : 0 < length ns
  pub begins : slice_index ns 0 ≡ start
  pub each : (i : ℕ) → i + 1 < length ns → Calls rows (slice_index ns i) (slice_index ns (i + 1))
  pub ends : (i : ℕ) → i + 1 ≡ length ns → slice_index ns i ≡ end

-- what holds of a way so far, and of the task that comes next
pub record IsLeading (rows : List Row) (places : List ℕ) (start : ℕ) (ns : List ℕ) (next : ℕ) : Type 0 where
  pub first : length ns ≡ 0 → next ≡ start
  pub begins : 0 < length ns → slice_index ns 0 ≡ start
  pub each : (i : ℕ) → i + 1 < length ns → Calls rows (slice_index ns i) (slice_index ns (i + 1))
  pub on : (i : ℕ) → i + 1 ≡ length ns → Calls rows (slice_index ns i) next
  pub falls : slice_index places next + length ns ≤ slice_index places start
