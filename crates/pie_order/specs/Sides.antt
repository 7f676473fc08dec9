-- The tasks to which one task leads, found one after another.
use Rattle.std.specs.Prelude.{◌≡◌, ℕ, ◌+◌, ◌<◌, ◌≤◌, Bool, true, false, cond, List, [], ◌∷◌, ◌++◌, length, replicate, slice_set, slice_index, slice_index_or}
use Rattle.std.specs.List.{Contains}
use Rattle.pie_graph.specs.Numbers.{IsMarked}
use Rattle.pie_reach.specs.inner.Reaches.{Leads}
use Rattle.pie_reach.specs.inner.Walks.{unmarked}

-- which tasks were met, these in the order in which they were, and from how many of them the search went on
pub record Searched : Type 0 where
  pub marks : List Bool
  pub met : List ℕ
  pub next : ℕ

-- a task is met: without a mark it gets one
abbrev pub met_one : ℕ → Searched → Searched
met_one n s = cond (slice_index_or s.marks n false) s (record { marks = slice_set s.marks n true; met = s.met ++ n ∷ []; next = s.next })

-- tasks are met one after another
abbrev pub met_all : List ℕ → Searched → Searched
met_all [] s = s
met_all (n ∷ ns) s = met_all ns (met_one n s)

-- a search among so many tasks that has met one
abbrev pub begun : ℕ → ℕ → Searched
begun count n = met_one n (record { marks = replicate count false; met = []; next = 0 })

-- a search among so many tasks
pub record Bounded (count : ℕ) (s : Searched) : Type 0 where
  pub sized : length s.marks ≡ count
  pub below : (n : ℕ) → Contains s.met n → n < count
  pub total : unmarked s.marks + length s.met ≡ count

-- what holds between two steps of a search
pub record Searching (count : ℕ) (goes : ℕ → ℕ → Type 0) (start : ℕ) (s : Searched) : Type 0 where
  pub bounded : Bounded count s
  pub sound : (n : ℕ) → IsMarked s.marks n → Leads goes start n
  pub started : IsMarked s.marks start
  pub listed : (n : ℕ) → IsMarked s.marks n → Contains s.met n
  pub marked : (n : ℕ) → Contains s.met n → IsMarked s.marks n
  pub closed : (i m : ℕ) → i < s.next → i < length s.met → goes (slice_index s.met i) m → IsMarked s.marks m

-- a search from any task is one still
abbrev pub GoesOn : ℕ → (ℕ → ℕ → Type 0) → Searched → Searched → Type 0
GoesOn count goes old new = (start : ℕ) → Searching count goes start old → Searching count goes start new

-- what a complete search leaves
abbrev pub Completed : ℕ → (ℕ → ℕ → Type 0) → ℕ → Searched → Type 0
Completed count goes start s = Searching count goes start s × (length s.met ≤ s.next)

-- one side of a new edge: a task and all to which it leads, the other end not among them
pub record IsSide (count : ℕ) (goes : ℕ → ℕ → Type 0) (start other : ℕ) (ns : List ℕ) : Type 0 where
  pub started : Contains ns start
  pub closed : (a b : ℕ) → Contains ns a → goes a b → Contains ns b
  pub apart : Contains ns other → ⊥
  pub below : (n : ℕ) → Contains ns n → n < count
  pub few : length ns ≤ count
