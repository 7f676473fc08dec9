-- An order of tasks, as the list of their places.
use Rattle.std.specs.Prelude.{◌≡◌, ℕ, zero, suc, ◌<◌, List, [], ◌∷◌, ◌++◌, length, slice_index}
use Rattle.pie_graph.specs.Rows.{Row, Calls}

-- a task stands before another
abbrev pub StandsBefore : List ℕ → ℕ → ℕ → Type 0
StandsBefore places a b = slice_index places a < slice_index places b

-- no two tasks stand at one place
abbrev pub AreApart : List ℕ → Type 0
AreApart places = (a b : ℕ) → a < length places → b < length places → slice_index places a ≡ slice_index places b → a ≡ b

-- each required task stands before those that require it
pub record PlacesAgree (rows : List Row) (places : List ℕ) : Type 0 where
  pub as_many : length places ≡ length rows
  pub each : (caller callee : ℕ) → Calls rows caller callee → StandsBefore places callee caller

-- the numbers below a count, each at the place of its own
abbrev pub numbers_below : ℕ → List ℕ
numbers_below zero = []
numbers_below (suc n) = numbers_below n ++ n ∷ []
