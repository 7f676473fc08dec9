-- The state of a walk, and how single steps change it.
use Rattle.std.specs.Prelude.{◌≡◌, ℕ, ◌<◌, Bool, true, false, List, [], ◌∷◌, ◌++◌, Option, None, Some, length, replicate, slice_set}
use Rattle.pie_graph.specs.declared.edges.TaskNo.{TaskNo}
use Rattle.pie_graph.specs.Rows.{Row, row_at, no_edges, Calls}
use Rattle.pie_order.specs.Places.{numbers_below}
use Rattle.pie_union.specs.Requiring.{requiring}
use Rattle.pie_walk.specs.declared.marks.Mark.{Mark}
use Rattle.pie_walk.specs.declared.marks.Mark.TheVariants.{New, Visited, Runs, Settled}
use Rattle.pie_walk.specs.declared.stack.Entry.{Entry}
use Rattle.pie_walk.specs.declared.stack.Entry.TheVariants.{Visit, Waits}
use Rattle.pie_walk.specs.Marks.{mark_of}

-- the rows of the tasks, their places in an order, how far each has come, which are scheduled, which looked under `out`, which were swept,
-- and the stack with its top first
pub record WalkState : Type 0 where
  pub rows : List Row
  pub places : List ℕ
  pub marks : List Mark
  pub scheduled : List Bool
  pub looks_out : List Bool
  pub swept : List Bool
  pub stack : List Entry

-- the task of an entry
abbrev pub no_of : Entry → ℕ
no_of (Visit task next) = task.0
no_of (Waits task) = task.0

-- an entry is the top
abbrev pub OnTop : WalkState → Entry → Type 0
OnTop s e = (es : List Entry) × (s.stack ≡ e ∷ es)

-- what stands below the top
abbrev pub below : List Entry → List Entry
below [] = []
below (e ∷ es) = es

-- the tasks that were taken and go on or wait, the top first
abbrev pub waiting : List Entry → List ℕ
waiting [] = []
waiting (Visit task next ∷ es) = waiting es
waiting (Waits task ∷ es) = task.0 ∷ waiting es

-- the task at the bottom of a stack: the root from which the walk began
abbrev pub base_of : List Entry → Option ℕ
base_of [] = None
base_of (e ∷ []) = Some (no_of e)
base_of (e ∷ f ∷ es) = base_of (f ∷ es)

-- each task requires tasks of lower numbers alone
abbrev pub NeedsAreEarlier : List Row → Type 0
NeedsAreEarlier rows = (caller callee : ℕ) → Calls rows caller callee → callee < caller

-- no task was met, none is scheduled or swept, and they stand in the order of their numbers
abbrev pub at_start : List Row → List Bool → WalkState
at_start rows looks_out = record {
  rows = rows;
  places = numbers_below (length rows);
  marks = replicate (length rows) New;
  scheduled = replicate (length rows) false;
  looks_out = looks_out;
  swept = replicate (length rows) false;
  stack = [];
}

-- a task is scheduled
abbrev pub with_scheduled : WalkState → ℕ → WalkState
with_scheduled s n = record s { scheduled = slice_set s.scheduled n true }

-- a task comes that has no edges and is scheduled
abbrev pub with_one_more : WalkState → WalkState
with_one_more s = record {
  rows = s.rows ++ no_edges ∷ [];
  places = s.places ++ length s.places ∷ [];
  marks = s.marks ++ New ∷ [];
  scheduled = s.scheduled ++ true ∷ [];
  looks_out = s.looks_out ++ false ∷ [];
  swept = s.swept ++ false ∷ [];
  stack = s.stack;
}

-- a row takes the place of another
abbrev pub with_row : WalkState → ℕ → Row → WalkState
with_row s n row = record s { rows = slice_set s.rows n row }

-- one task requires one more, and the tasks have these places
abbrev pub with_need : WalkState → List ℕ → ℕ → ℕ → WalkState
with_need s places from to = record s { rows = slice_set s.rows from (requiring (row_at s.rows from) to); places = places }

-- a task goes on top, to be visited from its first require on
abbrev pub visiting : WalkState → TaskNo → WalkState
visiting s task = record s { marks = slice_set s.marks task.0 Visited; stack = Visit task 0 ∷ s.stack }

-- the first of two states for a task that wasn't met, else the second
abbrev pub if_new : Mark → WalkState → WalkState → WalkState
if_new New s t = s
if_new Visited s t = t
if_new Runs s t = t
if_new Settled s t = t

-- a task is visited, unless it was met
abbrev pub met : WalkState → TaskNo → WalkState
met s task = if_new (mark_of s.marks task.0) (visiting s task) s

-- the visit on top has come to a place
abbrev pub passed : WalkState → TaskNo → ℕ → WalkState
passed s task at = record s { stack = Visit task at ∷ below s.stack }

-- the task on top is taken, and no longer scheduled
abbrev pub taken : WalkState → TaskNo → WalkState
taken s task = record s { marks = slice_set s.marks task.0 Runs; scheduled = slice_set s.scheduled task.0 false; stack = Waits task ∷ below s.stack }

-- the task on top is settled
abbrev pub settled : WalkState → ℕ → WalkState
settled s n = record s { marks = slice_set s.marks n Settled; stack = below s.stack }
