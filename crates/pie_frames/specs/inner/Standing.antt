-- The tasks that were taken and aren't settled: those that wait, and the one in hand.
use Rattle.std.specs.Prelude.{◌≡◌, ℕ, ◌<◌, ◌≤◌, List, [], ◌∷◌, ◌++◌, length, map, drop, reverse}
use Rattle.std.specs.List.{All}
use Rattle.pie_graph.specs.declared.edges.TaskNo.{TaskNo}
use Rattle.pie_graph.specs.Rows.{Row, row_at}
use Rattle.pie_value.specs.Canonical.{IsEncodableTask}
use Rattle.pie_running.specs.inner.Frames.{IsWaiting}
use Rattle.pie_walk.specs.declared.stack.Entry.TheVariants.{Waits}
use Rattle.pie_walk.specs.States.{WalkState, OnTop, waiting}
use Rattle.pie_walk.specs.Standing.{Stands}
use Rattle.pie_frames.specs.declared.parked.Parked.{Parked}
use Rattle.pie_frames.specs.declared.frames.Frames.{Frames}

-- the number of a task that waits
abbrev pub number_of : Parked → ℕ
number_of p = p.caller.waiting.notes.number

-- the numbers of tasks that wait, the newest first
abbrev pub numbers_up : List Parked → List ℕ
numbers_up ps = reverse (map number_of ps)

-- a row has these requires from a place on
pub record HasFrom (row : Row) (from : ℕ) (needs : List ℕ) : Type 0 where
  pub within : from ≤ length row.needs
  pub same : drop from row.needs ≡ needs

-- a task that waits for another one: its row has from a place on what the task required in this run, and then the one that it waits for
pub record IsParked (rows : List Row) (p : Parked) : Type 0 where
  pub waits : IsWaiting p.caller.waiting
  pub required : IsEncodableTask p.caller.required
  pub callee : p.callee.0 < length rows
  pub row : HasFrom (row_at rows (number_of p)) p.from (p.caller.waiting.notes.needs ++ p.callee.0 ∷ [])

-- a walk that stands, on which these tasks wait beside some in hand: they are those on the stack that were taken, in this order
pub record AreTaken (walk : WalkState) (parked : List Parked) (in_hand : List ℕ) : Type 0 where
  pub stands : Stands walk
  pub each : All (IsParked walk.rows) parked
  pub tied : in_hand ++ numbers_up parked ≡ waiting walk.stack

-- no task is in hand
abbrev pub Rests : Frames → Type 0
Rests f = AreTaken f.walk f.parked.items []

-- this task is in hand
pub record Holds (task : TaskNo) (f : Frames) : Type 0 where
  pub taken : AreTaken f.walk f.parked.items (task.0 ∷ [])
  pub top : OnTop f.walk (Waits task)
