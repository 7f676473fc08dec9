-- What holds of a walk between any two calls.
use Rattle.std.specs.Prelude.{◌≡◌, ◌≢◌, ◌⊎◌, ℕ, ◌<◌, ◌≤◌, Bool, List, [], ◌∷◌, Option, None, Some, length, slice_index}
use Rattle.std.specs.List.{Contains}
use Rattle.pie_graph.specs.Numbers.{IsMarked}
use Rattle.pie_graph.specs.Rows.{Row, row_at, Calls}
use Rattle.pie_order.specs.Places.{PlacesAgree}
use Rattle.pie_walk.specs.declared.marks.Mark.{Mark}
use Rattle.pie_walk.specs.declared.marks.Mark.TheVariants.{New, Visited, Runs, Settled}
use Rattle.pie_walk.specs.declared.stack.Entry.{Entry}
use Rattle.pie_walk.specs.declared.stack.Entry.TheVariants.{Visit, Waits}
use Rattle.pie_walk.specs.Marks.{mark_of, IsSettled, IsIdle}
use Rattle.pie_walk.specs.States.{WalkState, no_of}

-- the tasks that a task requires
abbrev pub needs_at : List Row → ℕ → List ℕ
needs_at rows n = (row_at rows n).needs

-- the mark of a task that stands on the stack
abbrev pub mark_for : Entry → Mark
mark_for (Visit task next) = Visited
mark_for (Waits task) = Runs

-- a visit has come to a place: what is required before it is settled, and a task above is the one that is required there
pub record HasVisited (needs : List ℕ) (marks : List Mark) (above : Option ℕ) (next : ℕ) : Type 0 where
  pub within : next ≤ length needs
  pub before : (i : ℕ) → i < next → IsSettled marks (slice_index needs i)
  pub here : (u : ℕ) → above ≡ Some u → (next < length needs) × (slice_index needs next ≡ u)

-- a task that was taken requires settled tasks, and the task above
pub record HasRequired (needs : List ℕ) (marks : List Mark) (above : Option ℕ) : Type 0 where
  pub settled : (k : ℕ) → Contains needs k → IsSettled marks k ⊎ (above ≡ Some k)
  pub here : (u : ℕ) → above ≡ Some u → Contains needs u

-- how far the task of an entry has come
abbrev pub HasCome : List ℕ → List Mark → Option ℕ → Entry → Type 0
HasCome needs marks above (Visit task next) = HasVisited needs marks above next
HasCome needs marks above (Waits task) = HasRequired needs marks above

-- one entry, below the task above
pub record IsEntry (rows : List Row) (marks : List Mark) (above : Option ℕ) (e : Entry) : Type 0 where
  pub inside : no_of e < length rows
  pub marked : mark_of marks (no_of e) ≡ mark_for e
  pub come : HasCome (needs_at rows (no_of e)) marks above e

-- a stack with its top first: each task stands there once, and requires the one above
abbrev pub AreEntries : List Row → List Mark → Option ℕ → List Entry → Type 0
AreEntries rows marks above [] = Unit {0}
AreEntries rows marks above (e ∷ es) =
    IsEntry rows marks above e × ((g : Entry) → Contains es g → no_of g ≢ no_of e) × AreEntries rows marks (Some (no_of e)) es

-- the tables and the stack of a walk. A task may be awaited above the stack, as a root is above the empty one
pub record Holds (rows : List Row) (places : List ℕ) (marks : List Mark) (scheduled : List Bool) (above : Option ℕ) (stack : List Entry) : Type 0 where
  pub marks_sized : length marks ≡ length rows
  pub scheduled_sized : length scheduled ≡ length rows
  -- what a task requires stands before it
  pub agrees : PlacesAgree rows places
  pub entries : AreEntries rows marks above stack
  -- a task that was met and isn't settled stands on the stack
  pub stands : (n : ℕ) → mark_of marks n ≢ New → mark_of marks n ≢ Settled → (e : Entry) × Contains stack e × (no_of e ≡ n)
  -- what a settled task requires is settled
  pub closed : (n k : ℕ) → IsSettled marks n → Calls rows n k → IsSettled marks k
  -- a scheduled task was neither taken nor settled
  pub calm : (n : ℕ) → IsMarked scheduled n → IsIdle marks n

-- a sweep goes up to the end: tasks that require a swept one and were neither taken nor settled are swept, and scheduled where they looked under `out`
pub record IsSwept (rows : List Row) (marks : List Mark) (scheduled looks_out swept : List Bool) : Type 0 where
  pub looks_sized : length looks_out ≡ length rows
  pub swept_sized : length swept ≡ length rows
  pub up : (n k : ℕ) → IsMarked swept n → Calls rows k n → IsIdle marks k → IsMarked swept k
  pub flags : (k : ℕ) → IsMarked swept k → IsIdle marks k → IsMarked looks_out k → IsMarked scheduled k

-- the tables and the stack of a state
abbrev pub HoldsIn : WalkState → Type 0
HoldsIn s = Holds s.rows s.places s.marks s.scheduled None s.stack

-- the sweeps of a state
abbrev pub IsSweptIn : WalkState → Type 0
IsSweptIn s = IsSwept s.rows s.marks s.scheduled s.looks_out s.swept

-- what holds of a walk between any two calls
pub record Stands (s : WalkState) : Type 0 where
  pub holds : HoldsIn s
  pub swept : IsSweptIn s
