-- The tasks of a build: their names, rows, records and heights, by their numbers.
use Rattle.std.specs.Prelude.{◌≡◌, ℕ, ◌+◌, ◌<◌, ◌≤◌, max, List, [], ◌∷◌, ◌++◌, length, All, Contains}
use Rattle.std.specs.Prelude.{Some, None, Result, IfOk, IfSome, slice_get, slice_index_or, slice_set}
use Rattle.std.specs.List.{AllPairs}
use Rattle.pie_value.specs.declared.task.Task.{Task}
use Rattle.pie_value.specs.declared.value.Value.{Value}
use Rattle.pie_value.specs.Canonical.{IsEncodableTask}
use Rattle.pie_graph.specs.Numbers.{AllBelow}
use Rattle.pie_graph.specs.Rows.{no_edges}
use Rattle.pie_builder_laws.specs.Names.{AreTasks}
use Rattle.pie_record.specs.declared.task_record.TaskRecord.{TaskRecord}
use Rattle.pie_record.specs.Canonical.{IsStorable}
use Rattle.pie_record.specs.inner.Records.{record_of, Puts}
use Rattle.pie_store.specs.Canonical.{needs}
use Rattle.pie_fresh.specs.declared.ledger.Ledger.{Ledger}
use Rattle.pie_running.specs.inner.Noted.{Noted, tasks_on}
use Rattle.pie_fresh.specs.inner.Kept.{ended_with, row_ended}

-- the task with this number has ended at this height: it has a record
pub record IsHigh (l : Ledger) (number height : ℕ) : Type 0 where
  pub rec : TaskRecord
  pub done : record_of l.records number ≡ Some rec
  pub high : slice_index_or l.heights.items number 0 ≡ height

-- a task has ended at this height
pub record HasHeight (l : Ledger) (t : Task) (height : ℕ) : Type 0 where
  pub number : ℕ
  pub named : slice_get l.names number ≡ Some t
  pub high : IsHigh l number height

-- tasks have ended, and from one height on it takes the other to stand over theirs
abbrev pub Rises : Ledger → List Task → ℕ → ℕ → Type 0
Rises l [] low high = low ≡ high
Rises l (t ∷ ts) low high = (h : ℕ) × HasHeight l t h × Rises l ts (max low (h + 1)) high

-- a record stands at the number of its task, whose height is just over those of the tasks that it requires
pub record IsRecorded (l : Ledger) (number : ℕ) (r : TaskRecord) : Type 0 where
  pub named : slice_get l.names number ≡ Some r.task
  pub risen : Rises l (needs r) 0 (slice_index_or l.heights.items number 0)

-- a row and a height for each task, few enough tasks, records that can be stored, and heights below the number of tasks that have ended
pub record IsLedger (l : Ledger) : Type 0 where
  pub rows : length l.rows ≡ length l.names
  pub heights : length l.heights.items ≡ length l.names
  pub few : length l.names ≤ 50000
  pub low : (n : ℕ) → IfSome (record_of l.records n) (λ _. slice_index_or l.heights.items n 0 < l.ended)
  pub storable : (n : ℕ) → IfSome (record_of l.records n) IsStorable
  pub recorded : (n : ℕ) → IfSome (record_of l.records n) (IsRecorded l n)

-- these are the numbers of the tasks that were entered and have no record, in the order of entering
pub record AreOpen (l : Ledger) (ns : List ℕ) : Type 0 where
  pub rising : AllPairs (λ m n. m < n) ns
  pub inside : All (λ n. n < length l.names) ns
  pub without : All (λ n. record_of l.records n ≡ None) ns
  pub others : (n : ℕ) → n < length l.names → record_of l.records n ≡ None → Contains ns n

-- a running task has its number among these tasks, and so have those that it required; it stands just over these, as high as tasks that ended
-- can make it
pub record IsPlaced (l : Ledger) (n : Noted) : Type 0 where
  pub named : slice_get l.names n.number ≡ Some n.task
  pub needs : AllBelow (length l.names) n.needs
  pub low : n.height ≤ l.ended
  pub risen : Rises l (tasks_on n.deps) 0 n.height

-- tasks were entered or have ended; what had ended before is as it was
pub record Grows (old new : Ledger) : Type 0 where
  pub rest : List Task
  pub names : new.names ≡ old.names ++ rest
  pub ended : old.ended ≤ new.ended
  pub kept : (t : Task) (height : ℕ) → HasHeight old t height → HasHeight new t height

-- tasks were entered and started: as many at most started as entered
pub record Enters (old new runs after : List Task) : Type 0 where
  pub gained : List Task
  pub is : after ≡ runs ++ gained
  pub counted : length gained + length old ≤ length new
  pub few : length old ≤ 50000 → length new ≤ 50000
  pub encodable : All IsEncodableTask gained
  pub kept : (t : Task) → Contains old t → Contains new t

-- as many tasks were started as entered, the same ones
pub record Starts (old new runs after : List Task) : Type 0 where
  pub gained : List Task
  pub entered : new ≡ old ++ gained
  pub started : after ≡ runs ++ gained

-- what was entered and started before this answer: as many tasks at most were started as entered, and the same ones if it is Ok
pub record EntersAndStarts {T E : Type 0} (old new runs after : List Task) (result : Result T E) : Type 0 where
  pub enters : Enters old new runs after
  pub starts : IfOk result (λ _. Starts old new runs after)

-- ---- a task that is entered, and its end

-- a task has canonical bytes, and wasn't entered
pub record IsNew (names : List Task) (t : Task) : Type 0 where
  pub encodable : IsEncodableTask t
  pub absent : ¬ (Contains names t)

-- the task with this number hasn't ended: it has no record, and fewer tasks have ended than were entered
pub record IsUnfinished (l : Ledger) (number : ℕ) : Type 0 where
  pub few : l.ended < length l.names
  pub unrecorded : record_of l.records number ≡ None

-- the tasks that have ended are as they were, by their records, their number and the contents that are staged
pub record KeepsEnded (old new : Ledger) : Type 0 where
  pub records : new.records ≡ old.records
  pub ended : new.ended ≡ old.ended
  pub stage : new.stage ≡ old.stage

-- a task was entered: it is the last one, and its row has no edges yet
pub record EntersTask (old new : Ledger) (t : Task) : Type 0 where
  pub ledger : IsLedger new
  pub names : new.names ≡ old.names ++ t ∷ []
  pub grows : Grows old new
  pub rows : new.rows ≡ old.rows ++ no_edges ∷ []
  pub tasks : AreTasks new.names

-- a running task with these notes has ended with this output: it has its height, its record and its row
pub record EndsTask (old new : Ledger) (n : Noted) (v : Value) : Type 0 where
  pub ledger : IsLedger new
  pub grows : Grows old new
  pub high : IsHigh new n.number n.height
  pub ended : new.ended ≡ old.ended + 1
  pub puts : Puts old.records new.records n.number (ended_with n v)
  pub rows : new.rows ≡ slice_set old.rows n.number (row_ended n)
