-- A walk over numbers: those that were met have a mark, and some of them wait for their turn.
use Rattle.std.specs.Prelude.{◌≡◌, ℕ, ◌+◌, ◌<◌, Bool, true, false, cond, List, [], ◌∷◌, ◌++◌, length, slice_set, slice_index_or, ◌⊎◌}
use Rattle.std.specs.List.{Contains}
use Rattle.pie_graph.specs.Numbers.{IsMarked}
use Rattle.pie_reach.specs.inner.Reaches.{Leads}

-- the marks, and the numbers that wait
pub record Walked : Type 0 where
  pub marks : List Bool
  pub work : List ℕ

-- a number is met: without a mark it gets one, and waits
abbrev pub meet : ℕ → Walked → Walked
meet n w = cond (slice_index_or w.marks n false) w (record { marks = slice_set w.marks n true; work = w.work ++ n ∷ [] })

-- numbers are met one after another
abbrev pub meet_all : List ℕ → Walked → Walked
meet_all [] w = w
meet_all (n ∷ ns) w = meet_all ns (meet n w)

-- how many numbers have no mark
abbrev pub unmarked : List Bool → ℕ
unmarked [] = 0
unmarked (true ∷ marks) = unmarked marks
unmarked (false ∷ marks) = unmarked marks + 1

-- the answers of one step from a number: exactly where it goes, all below the count
pub record GoesTo (count : ℕ) (goes : ℕ → ℕ → Type 0) (from : ℕ) (found : List ℕ) : Type 0 where
  pub below : (n : ℕ) → Contains found n → n < count
  pub only : (n : ℕ) → Contains found n → goes from n
  pub each : (n : ℕ) → goes from n → Contains found n

-- a start leads to the number
abbrev pub LedTo : (ℕ → ℕ → Type 0) → List ℕ → ℕ → Type 0
LedTo goes starts n = (start : ℕ) × Contains starts start × Leads goes start n

-- a walk over so many numbers, all that wait among them
pub record Ready (count : ℕ) (w : Walked) : Type 0 where
  pub sized : length w.marks ≡ count
  pub below : (n : ℕ) → Contains w.work n → n < count

-- what holds between two steps of a walk
pub record Walking (count : ℕ) (goes : ℕ → ℕ → Type 0) (starts : List ℕ) (w : Walked) : Type 0 where
  pub ready : Ready count w
  pub sound : (n : ℕ) → IsMarked w.marks n → LedTo goes starts n
  pub started : (n : ℕ) → Contains starts n → IsMarked w.marks n
  pub waiting : (n : ℕ) → Contains w.work n → IsMarked w.marks n
  pub closed : (n : ℕ) → IsMarked w.marks n → Contains w.work n ⊎ ((m : ℕ) → goes n m → IsMarked w.marks m)

-- exactly the numbers to which a start leads have a mark
pub record IsClosure (count : ℕ) (goes : ℕ → ℕ → Type 0) (starts : List ℕ) (marks : List Bool) : Type 0 where
  pub sized : length marks ≡ count
  pub only : (n : ℕ) → IsMarked marks n → LedTo goes starts n
  pub each : (n : ℕ) → LedTo goes starts n → IsMarked marks n
