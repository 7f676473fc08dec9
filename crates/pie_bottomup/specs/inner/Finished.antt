-- A task that ended, and those that it is told to.
use Rattle.std.specs.Prelude.{◌≡◌, ◌⊎◌, ℕ, ◌<◌, Bool, true, take, drop, length, Some}
use Rattle.pie_graph.specs.Numbers.{IsMarked}
use Rattle.pie_graph.specs.Rows.{Row, row_at, Calls}
use Rattle.pie_reach.specs.inner.Reaches.{Reaches}
use Rattle.pie_record.specs.declared.task_record.TaskRecord.{TaskRecord}
use Rattle.pie_record.specs.inner.Records.{record_of, Puts}
use Rattle.pie_walk.specs.Marks.{IsIdle, IsSettled}
use Rattle.pie_walk.specs.States.{WalkState, with_row, settled}
use Rattle.pie_old.specs.inner.Rows.{paths_in}
use Rattle.pie_frames.specs.inner.Ended.{row_from}
use Rattle.pie_bottomup.specs.declared.state.Core.{Core}
use Rattle.pie_bottomup.specs.inner.States.{HasScheduled}

-- a task wrote what its old record says, and required from a place in its row on what stands before it
pub record HasSameEdges (row : Row) (from : ℕ) (old new : TaskRecord) : Type 0 where
  pub needs : take from row.needs ≡ drop from row.needs
  pub writes : old.writes ≡ new.writes

-- it ended as its old record says, or each task that requires it and may be scheduled is
abbrev pub TellsCallers : WalkState → ℕ → TaskRecord → TaskRecord → Type 0
TellsCallers w n old new = (old.outcome ≡ new.outcome) ⊎ ((k : ℕ) → Calls w.rows k n → IsIdle w.marks k → IsMarked w.scheduled k)

-- it has the edges of its old record, or is swept
abbrev pub TellsOthers : WalkState → ℕ → Row → ℕ → TaskRecord → TaskRecord → Type 0
TellsOthers w n row from old new = HasSameEdges row from old new ⊎ IsMarked w.swept n

-- the row of a task that ends
abbrev pub end_row : WalkState → ℕ → ℕ → TaskRecord → Row
end_row w n from r = row_from (row_at w.rows n) from (paths_in r.writes)

-- the walk with the task settled
abbrev pub ended_walk : WalkState → ℕ → ℕ → TaskRecord → WalkState
ended_walk w n from r = settled (with_row w n (end_row w n from r)) n

-- the task has its record, and is settled
pub record HasSettledWith (old new : Core) (n from : ℕ) (r : TaskRecord) : Type 0 where
  pub names : new.tables.names ≡ old.tables.names
  pub puts : Puts old.tables.records new.tables.records n r
  pub walk : new.frames.walk ≡ ended_walk old.frames.walk n from r

-- so the task is settled, and the walk alone may have scheduled more
pub record EndsSettled (old new : Core) (n from : ℕ) (r : TaskRecord) : Type 0 where
  pub ended : HasScheduled old new
  pub settled : IsSettled new.frames.walk.marks n
  pub inside : n < length new.frames.walk.rows
  pub settles : HasSettledWith old new n from r

-- where it has to be, the task is swept: more may be scheduled of the tasks that reach it
pub record HasSwept (old new : Core) (n : ℕ) (has_to : Bool) : Type 0 where
  pub tables : new.tables ≡ old.tables
  pub same : new.frames.walk ≡ record old.frames.walk { scheduled = new.frames.walk.scheduled; swept = new.frames.walk.swept }
  pub swept : has_to ≡ true → IsMarked new.frames.walk.swept n
  pub kept : (k : ℕ) → IsMarked old.frames.walk.scheduled k → IsMarked new.frames.walk.scheduled k
  pub only : (k : ℕ) → IsMarked new.frames.walk.scheduled k → IsMarked old.frames.walk.scheduled k ⊎ Reaches old.frames.walk.rows k n

-- a task that was taken has ended with a record: more may be scheduled of the tasks that reach it, and it is told to those that it concerns
pub record HasFinished (old new : Core) (n from : ℕ) (r : TaskRecord) : Type 0 where
  pub names : new.tables.names ≡ old.tables.names
  pub puts : Puts old.tables.records new.tables.records n r
  pub same : new.frames.walk ≡ record (ended_walk old.frames.walk n from r) { scheduled = new.frames.walk.scheduled; swept = new.frames.walk.swept }
  pub kept : (k : ℕ) → IsMarked old.frames.walk.scheduled k → IsMarked new.frames.walk.scheduled k
  pub only : (k : ℕ) → IsMarked new.frames.walk.scheduled k → IsMarked old.frames.walk.scheduled k ⊎ Reaches new.frames.walk.rows k n
  pub callers : (was : TaskRecord) → record_of old.tables.records n ≡ Some was → TellsCallers new.frames.walk n was r
  pub others : (was : TaskRecord) → record_of old.tables.records n ≡ Some was
      → TellsOthers new.frames.walk n (row_at old.frames.walk.rows n) from was r

-- so it has, and nothing but the frames and the tables is another: no more tasks have run
pub record HasEndedWith (old new : Core) (n from : ℕ) (r : TaskRecord) : Type 0 where
  pub finished : HasFinished old new n from r
  pub same : new ≡ record old { frames = new.frames; tables = new.tables }
  pub ran : new.tables.ran.items ≡ old.tables.ran.items
