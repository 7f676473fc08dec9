-- Tasks change their places.
use Rattle.std.specs.Prelude.{◌≡◌, ℕ, ◌+◌, ◌<◌, ◌≤◌, List, length, slice_index}
use Rattle.std.specs.List.{Contains}

-- each two tasks stand in the order in which they stood
pub record SameOrder (old new : List ℕ) : Type 0 where
  pub sized : length new ≡ length old
  pub keeps : (a b : ℕ) → a < length old → b < length old → slice_index old a < slice_index old b → slice_index new a < slice_index new b

-- so do each two tasks of a kind
abbrev pub KeepsOrder : (ℕ → Type 0) → List ℕ → List ℕ → Type 0
KeepsOrder kind old new = (a b : ℕ) → a < length old → b < length old → kind a → kind b
    → slice_index old a < slice_index old b → slice_index new a < slice_index new b

-- tasks of one kind stand before those of another, and each kind kept its order
pub record AreParted (front back : ℕ → Type 0) (old new : List ℕ) : Type 0 where
  pub sized : length new ≡ length old
  pub front_keeps : KeepsOrder front old new
  pub back_keeps : KeepsOrder back old new
  pub parted : (a b : ℕ) → a < length old → b < length old → front a → back b → slice_index new a < slice_index new b

-- some tasks go before all others
abbrev pub GoFirst : List ℕ → List ℕ → List ℕ → Type 0
GoFirst tasks = AreParted (Contains tasks) (λ n. Contains tasks n → ⊥)

-- some tasks go behind all others
abbrev pub GoLast : List ℕ → List ℕ → List ℕ → Type 0
GoLast tasks = AreParted (λ n. Contains tasks n → ⊥) (Contains tasks)

-- no task stands before one that is earlier in the list
abbrev pub AreInOrder : List ℕ → List ℕ → Type 0
AreInOrder places tasks = (i j : ℕ) → i ≤ j → j < length tasks → slice_index places (slice_index tasks i) ≤ slice_index places (slice_index tasks j)

-- the numbers from one up to before another
pub record IsSpan (from to : ℕ) (ns : List ℕ) : Type 0 where
  pub sized : from + length ns ≡ to
  pub each : (i : ℕ) → i < length ns → slice_index ns i ≡ from + i

-- some tasks got the places from one on, in the order in which they stood, and the others kept theirs
pub record IsRun (tasks : List ℕ) (first : ℕ) (old new : List ℕ) : Type 0 where
  pub sized : length new ≡ length old
  pub stays : (n : ℕ) → (Contains tasks n → ⊥) → slice_index new n ≡ slice_index old n
  pub from : (n : ℕ) → Contains tasks n → first ≤ slice_index new n
  pub under : (n : ℕ) → Contains tasks n → slice_index new n < first + length tasks
  pub keeps : (a b : ℕ) → Contains tasks a → Contains tasks b → slice_index old a < slice_index old b → slice_index new a < slice_index new b

-- the first so many tasks of a list have their new places; of a task that comes again the last one counts
pub record IsRunning (tasks : List ℕ) (first i : ℕ) (old new : List ℕ) : Type 0 where
  pub sized : length new ≡ length old
  pub stays : (n : ℕ) → ((j : ℕ) → j < i → slice_index tasks j ≡ n → ⊥) → slice_index new n ≡ slice_index old n
  pub placed : (j : ℕ) → j < i
      → (k : ℕ) × (k < i) × (slice_index tasks k ≡ slice_index tasks j) × (slice_index new (slice_index tasks j) ≡ first + k)
