-- A walk down with a stack: each task on it is required by the one below it.
use Rattle.std.specs.Prelude.{◌≡◌, ◌≢◌, Bool, true, false, ℕ, ◌+◌, ◌-◌, ◌<◌, ◌≤◌, List, [], ◌∷◌, length, map, reverse, slice_index, slice_index_or}
use Rattle.std.specs.List.{Contains}
use Rattle.pie_graph.specs.Rows.{Row, row_at, Calls}
use Rattle.pie_reach.specs.declared.descent.State.{State}
use Rattle.pie_reach.specs.declared.descent.State.TheVariants.{New, Open, Done}
use Rattle.pie_reach.specs.declared.descent.Visit.{Visit}
use Rattle.pie_reach.specs.declared.descent.Turn.{Turn}
use Rattle.pie_reach.specs.declared.descent.Turn.TheVariants.{Went, Ended, Cycle}
use Rattle.pie_reach.specs.declared.descent.Descent.{Descent}
use Rattle.pie_reach.specs.inner.Reaches.{Reaches, height_over}

-- how far a task has come
abbrev pub state_of : List State → ℕ → State
state_of states n = slice_index_or states n New

-- the height that a state keeps
abbrev pub height_of : State → ℕ
height_of (Done height) = height
height_of New = 0
height_of Open = 0

-- the height of a task that is done
abbrev pub height_at : List State → ℕ → ℕ
height_at states n = height_of (state_of states n)

-- a task is done
abbrev pub IsDone : List State → ℕ → Type 0
IsDone states n = (height : ℕ) × (state_of states n ≡ Done height)

-- the tasks that a task on the stack requires
abbrev pub needs_of : List Row → Visit → List ℕ
needs_of rows f = (row_at rows f.no.0).needs

-- a task on the stack: what it requires is done up to the place where it stands
pub record IsFrame (rows : List Row) (states : List State) (f : Visit) : Type 0 where
  pub inside : f.no.0 < length rows
  pub stacked : state_of states f.no.0 ≡ Open
  pub within : f.next ≤ length (needs_of rows f)
  pub before : (i : ℕ) → i < f.next → IsDone states (slice_index (needs_of rows f) i)

-- the one below on the stack waits for this one
abbrev pub IsAwaited : List Row → Visit → List Visit → Type 0
IsAwaited rows f [] = Unit {0}
IsAwaited rows f (g ∷ fs) = (g.next < length (needs_of rows g)) × (slice_index (needs_of rows g) g.next ≡ f.no.0)

-- a stack, its top first
abbrev pub AreFrames : List Row → List State → List Visit → Type 0
AreFrames rows states [] = Unit {0}
AreFrames rows states (f ∷ fs) =
    IsFrame rows states f × IsAwaited rows f fs × ((g : Visit) → Contains fs g → g.no.0 ≢ f.no.0) × AreFrames rows states fs

-- what holds between two turns, of the states and of the stack with its top first
pub record Holds (rows : List Row) (states : List State) (stack : List Visit) : Type 0 where
  pub sized : length states ≡ length rows
  pub frames : AreFrames rows states stack
  pub stands : (n : ℕ) → state_of states n ≡ Open → (f : Visit) × Contains stack f × (f.no.0 ≡ n)
  pub height : (n h : ℕ) → state_of states n ≡ Done h → h ≡ height_over (map (height_at states) (row_at rows n).needs)
  pub done : (n : ℕ) → IsDone states n → (i : ℕ) → i < length (row_at rows n).needs → IsDone states (slice_index (row_at rows n).needs i)

-- what holds between two turns
abbrev pub Descends : List Row → Descent → Type 0
Descends rows d = Holds rows d.states.items (reverse d.stack.items)

-- the work that is left at the tasks that weren't met
abbrev pub left_new : List Row → List State → ℕ
left_new [] states = 0
left_new (r ∷ rs) [] = 0
left_new (r ∷ rs) (New ∷ ss) = length r.needs + 2 + left_new rs ss
left_new (r ∷ rs) (Open ∷ ss) = left_new rs ss
left_new (r ∷ rs) (Done h ∷ ss) = left_new rs ss

-- the work that is left on the stack
abbrev pub left_open : List Row → List Visit → ℕ
left_open rows [] = 0
left_open rows (f ∷ fs) = length (needs_of rows f) + 1 - f.next + left_open rows fs

-- the work that is left
abbrev pub left : List Row → Descent → ℕ
left rows d = left_new rows d.states.items + left_open rows (reverse d.stack.items)

-- no task is new again
abbrev pub KeepsMet : List State → List State → Type 0
KeepsMet old new = (n : ℕ) → state_of new n ≡ New → state_of old n ≡ New

-- a task requires another that reaches it
abbrev pub HasCycle : List Row → Type 0
HasCycle rows = (a : ℕ) × (b : ℕ) × Calls rows a b × Reaches rows b a

-- what one turn leaves
abbrev pub Turns : List Row → Descent → Descent → Turn → Type 0
Turns rows old new Went = Descends rows new × (left rows new < left rows old) × KeepsMet old.states.items new.states.items
Turns rows old new Ended = (new.stack.items ≡ []) × (new.states.items ≡ old.states.items) × Descends rows new
Turns rows old new Cycle = HasCycle rows

-- what a whole run leaves: a cycle, or an empty stack
abbrev pub Finds : List Row → Descent → Descent → Bool → Type 0
Finds rows old new true = HasCycle rows
Finds rows old new false = (new.stack.items ≡ []) × Descends rows new × KeepsMet old.states.items new.states.items

-- what a visit leaves: a cycle, or an empty stack with the task done
abbrev pub Visits : List Row → Descent → Descent → ℕ → Bool → Type 0
Visits rows old new n true = HasCycle rows
Visits rows old new n false =
    (new.stack.items ≡ []) × Descends rows new × KeepsMet old.states.items new.states.items × (state_of new.states.items n ≡ New → ⊥)

-- each task is done
pub record AllDone (rows : List Row) (states : List State) : Type 0 where
  pub holds : Holds rows states []
  pub met : (n : ℕ) → n < length rows → state_of states n ≡ New → ⊥
