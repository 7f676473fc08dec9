-- Steps that change no record: the walk goes on, a scheduled task is taken, a running one requires another, a new one comes.
use Rattle.std.specs.Prelude.{◌≡◌, ◌⊎◌, ℕ, ◌<◌, true, false, List, [], ◌∷◌, ◌++◌, length, None, Some}
use Rattle.pie_value.specs.declared.task.Task.{Task}
use Rattle.pie_graph.specs.declared.edges.TaskNo.{TaskNo}
use Rattle.pie_graph.specs.Rows.{row_at, Calls}
use Rattle.pie_record.specs.declared.records.Records.{Records}
use Rattle.pie_record.specs.declared.task_record.TaskRecord.{TaskRecord}
use Rattle.pie_record.specs.inner.Records.{record_of as kept_of}
use Rattle.pie_walk.specs.Marks.{mark_of, IsSettled}
use Rattle.pie_walk.specs.States.{WalkState, with_need, met, with_one_more}
use Rattle.pie_walk.specs.Standing.{Stands}
use Rattle.pie_walk.specs.Turns.{Walks, IsTaken}
use Rattle.pie_builder_laws.specs.Names.{AreTasks}
use Rattle.pie_compare_laws.specs.Settled.{RestsOn}
use Rattle.pie_core_laws.specs.Update.{Update}
use Rattle.pie_core_laws.specs.Exact.{runs, is_busy, is_done, IsExact}
use Rattle.pie_core_laws.specs.Finishing.{StaysExact}

-- a task that ran goes on, and requires what it did
abbrev pub GoesOn : WalkState → WalkState → ℕ → Type 0
GoesOn s after n = (runs (mark_of s.marks n) ≡ true) × ((k : ℕ) → Calls s.rows n k → Calls after.rows n k)

-- a task that didn't run is taken: its row stays, and what it requires is settled
abbrev pub IsTakenFrom : WalkState → WalkState → ℕ → Type 0
IsTakenFrom s after n =
    (runs (mark_of s.marks n) ≡ false) × (row_at after.rows n ≡ row_at s.rows n) × ((k : ℕ) → Calls after.rows n k → IsSettled after.marks k)

-- the same tasks are busy, settled tasks stay so, and no busy task is settled
pub record Moves (s after : WalkState) : Type 0 where
  pub as_many : length after.rows ≡ length s.rows
  pub looks : after.looks_out ≡ s.looks_out
  pub busy : (n : ℕ) → is_busy after n ≡ is_busy s n
  pub resting : (n : ℕ) → runs (mark_of after.marks n) ≡ false → (runs (mark_of s.marks n) ≡ false) × (row_at after.rows n ≡ row_at s.rows n)
  pub going : (n : ℕ) → runs (mark_of after.marks n) ≡ true → GoesOn s after n ⊎ IsTakenFrom s after n
  pub settled : (n : ℕ) → IsSettled s.marks n → IsSettled after.marks n
  pub ends : (n : ℕ) → IsSettled after.marks n → IsSettled s.marks n ⊎ (is_busy s n ≡ false)

-- such a step leaves a build exact
abbrev pub MovesStayExact : Type 0
MovesStayExact =
    (u : Update) (names : List Task) (records : Records) (s after : WalkState) → IsExact u names records s → Stands s → Stands after → Moves s after
    → StaysExact u names records s names records after

-- where the walk goes on
abbrev pub WalksMove : Type 0
WalksMove = (s after : WalkState) → Stands s → Stands after → Walks s after → Moves s after

-- where a root is begun
abbrev pub BeginsMove : Type 0
BeginsMove = (s : WalkState) (root : TaskNo) → Stands s → root.0 < length s.rows → Moves s (met s root)

-- where a scheduled task is taken
abbrev pub TakesMove : Type 0
TakesMove = (s after : WalkState) (task : TaskNo) → Stands s → Stands after → IsTaken s after task → Moves s after

-- and where a running task requires another
abbrev pub RequiresMove : Type 0
RequiresMove =
    (s : WalkState) (places : List ℕ) (from : ℕ) (to : TaskNo) → Stands s → runs (mark_of s.marks from) ≡ true → to.0 < length s.rows
    → Moves s (met (with_need s places from to.0) to)

-- a task that was taken rests on settled tasks, with the row of its record
abbrev pub TakenTasksRest : Type 0
TakenTasksRest =
    (u : Update) (names : List Task) (records : Records) (s after : WalkState) (task : TaskNo) (rec : TaskRecord) → IsExact u names records s
    → Stands s → Stands after → IsTaken s after task → kept_of records task.0 ≡ Some rec → RestsOn names records after.rows (is_done after) task.0 rec

-- a new task leaves a build exact
abbrev pub NewTasksStayExact : Type 0
NewTasksStayExact =
    (u : Update) (names : List Task) (records : Records) (s : WalkState) (task : Task) → IsExact u names records s → Stands s → Stands (with_one_more s)
    → AreTasks (names ++ task ∷ []) → length names < 50000 → kept_of records (length names) ≡ None
    → StaysExact u names records s (names ++ task ∷ []) records (with_one_more s)
