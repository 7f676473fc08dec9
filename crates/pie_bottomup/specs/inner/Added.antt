-- What a task that gets a number leaves.
use Rattle.std.specs.Prelude.{◌≡◌, ℕ, ◌<◌, ◌≤◌, length, Some, slice_get}
use Rattle.pie_value.specs.declared.task.Task.{Task}
use Rattle.pie_graph.specs.declared.edges.TaskNo.{TaskNo}
use Rattle.pie_frames.specs.inner.Standing.{Holds, Rests}
use Rattle.pie_running.specs.inner.Noted.{Noted}
use Rattle.pie_bottomup.specs.declared.state.Core.{Core}
use Rattle.pie_bottomup.specs.inner.Exact.{AddsExact, StillBegins}
use Rattle.pie_bottomup.specs.inner.Going.{HasGrown}
use Rattle.pie_bottomup.specs.inner.States.{IsOwn, IsSite, Keeps, rest}

-- the same task is in hand, and as many roots were begun
pub record StaysAt (old new : Core) : Type 0 where
  pub hand : new.hand ≡ old.hand
  pub at : new.at ≡ old.at

-- the build stands, and its tasks rest, are held and have their notes as before
pub record StandsOn (old new : Core) : Type 0 where
  pub site : IsSite new
  pub rests : Rests old.frames → Rests new.frames
  pub holds : (task : TaskNo) → Holds task old.frames → Holds task new.frames
  pub stack : new.frames.walk.stack ≡ old.frames.walk.stack
  pub own : (no : TaskNo) (from : ℕ) (n : Noted) → IsOwn old no from n → IsOwn new no from n
  pub begins : (n : ℕ) (from : ℕ) → StillBegins old new n from

-- it is the same build with one task more, and no more is left to do
pub record HasAdded (old : Core) (t : Task) (new : Core) : Type 0 where
  pub kept : Keeps old new
  pub weight : rest new ≤ rest old
  pub exact : AddsExact old t new
  pub grown : HasGrown old t new

-- the task has the next number
pub record IsNumbered (old : Core) (t : Task) (new : Core) (no : TaskNo) : Type 0 where
  pub number : no.0 ≡ length old.frames.walk.rows
  pub inside : no.0 < length new.frames.walk.rows
  pub named : slice_get new.tables.names no.0 ≡ Some t
