-- What the records, the rows and the walk of a build say of each other.
use Rattle.std.specs.Prelude.{◌≡◌, ◌≢◌, ◌⊎◌, ℕ, ◌<◌, true, List, ◌∷◌, length, Some, slice_get}
use Rattle.std.specs.List.{Contains}
use Rattle.pie_value.specs.declared.task.Task.{Task}
use Rattle.pie_graph.specs.Numbers.{IsMarked}
use Rattle.pie_graph.specs.Rows.{row_at, Calls}
use Rattle.pie_record.specs.declared.records.Records.{Records}
use Rattle.pie_record.specs.Canonical.{IsTrueOutcome}
use Rattle.pie_record.specs.declared.task_record.TaskRecord.{TaskRecord}
use Rattle.pie_record.specs.inner.Records.{record_of}
use Rattle.pie_walk.specs.declared.marks.Mark.{Mark}
use Rattle.pie_walk.specs.declared.marks.Mark.TheVariants.{New}
use Rattle.pie_walk.specs.Marks.{mark_of, IsSettled, MarksRise}
use Rattle.pie_walk.specs.States.{WalkState, waiting}
use Rattle.pie_old.specs.inner.Rows.{IsRowOf}
use Rattle.pie_results.specs.inner.Failures.{is_done}

-- the task ended with an output, by its record
pub record HasOutput (records : Records) (n : ℕ) : Type 0 where
  pub rec : TaskRecord
  pub kept : record_of records n ≡ Some rec
  pub done : is_done rec.outcome ≡ true

-- and it is settled
pub record HasEnded (records : Records) (marks : List Mark) (n : ℕ) : Type 0 where
  pub output : HasOutput records n
  pub settled : IsSettled marks n

-- a task was taken, and isn't settled
abbrev pub WasTaken : WalkState → ℕ → Type 0
WasTaken w n = Contains (waiting w.stack) n

-- a task neither runs nor has to
pub record IsStill (w : WalkState) (n : ℕ) : Type 0 where
  pub calm : IsMarked w.scheduled n → ⊥
  pub free : WasTaken w n → ⊥

-- the output of a record, if it has one, is a value of the program
abbrev pub HasValue : TaskRecord → Type 0
HasValue r = IsTrueOutcome r.outcome

-- so it is with each record
abbrev pub OutputsAreValues : Records → Type 0
OutputsAreValues records = (n : ℕ) (r : TaskRecord) → record_of records n ≡ Some r → HasValue r

-- the records of the tasks that don't run
pub record AreRecorded (names : List Task) (records : Records) (w : WalkState) : Type 0 where
  -- a task without a record has to run
  pub each : (n : ℕ) → n < length w.rows → IsStill w n → (r : TaskRecord) × (record_of records n ≡ Some r)
  -- the row of a task that is done is that of its record
  pub rows : (n : ℕ) (r : TaskRecord) → record_of records n ≡ Some r → is_done r.outcome ≡ true → (WasTaken w n → ⊥) → IsRowOf names r (row_at w.rows n)
  -- a task that is done and hasn't to run requires tasks alone that are done
  pub done : (n k : ℕ) → HasOutput records n → IsStill w n → Calls w.rows n k → HasOutput records k
  pub outputs : OutputsAreValues records

-- a root has a number, and was met
pub record IsMet (names : List Task) (marks : List Mark) (t : Task) : Type 0 where
  pub number : ℕ
  pub named : slice_get names number ≡ Some t
  pub met : mark_of marks number ≢ New

-- each task that is done and hasn't to run is one of these
abbrev pub AreKnown : (Task → Type 0) → List Task → Records → WalkState → Type 0
AreKnown known names records w = (n : ℕ) (t : Task) → slice_get names n ≡ Some t → HasOutput records n → IsStill w n → known t

-- a walk goes on: the rows of tasks that weren't taken stay, a scheduled task is scheduled still or was taken, and no task goes back
pub record GoesOn (old new : WalkState) : Type 0 where
  pub sized : length new.rows ≡ length old.rows
  pub rows : (n : ℕ) → (WasTaken new n → ⊥) → row_at new.rows n ≡ row_at old.rows n
  pub scheduled : (n : ℕ) → IsMarked old.scheduled n → IsMarked new.scheduled n ⊎ WasTaken new n
  pub taken : (n : ℕ) → WasTaken old n → WasTaken new n
  pub rise : MarksRise old.marks new.marks

-- a task that was taken is settled: its row alone changes
pub record Ends (old new : WalkState) (task : ℕ) : Type 0 where
  pub sized : length new.rows ≡ length old.rows
  pub rows : (n : ℕ) → n ≢ task → row_at new.rows n ≡ row_at old.rows n
  pub scheduled : new.scheduled ≡ old.scheduled
  pub waits : task ∷ waiting new.stack ≡ waiting old.stack
  pub rise : MarksRise old.marks new.marks

-- these records are others but for one task
abbrev pub SameBut : Records → Records → ℕ → Type 0
SameBut old new task = (n : ℕ) → n ≢ task → record_of new n ≡ record_of old n
