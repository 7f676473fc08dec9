-- The tasks that were entered, by their numbers.
use Rattle.std.specs.Prelude.{◌≡◌, ℕ, ◌<◌, true, List, [], ◌++◌, length, map, Some, slice_index}
use Rattle.pie_value.specs.declared.task.Task.{Task}
use Rattle.pie_graph.specs.Rows.{Row, row_at, Calls}
use Rattle.pie_order.specs.Places.{StandsBefore}
use Rattle.pie_record.specs.declared.records.Records.{Records}
use Rattle.pie_record.specs.declared.task_record.TaskRecord.{TaskRecord}
use Rattle.pie_record.specs.inner.Records.{record_of}
use Rattle.pie_store.specs.Canonical.{needs}
use Rattle.pie_tables.specs.Tabled.{IsTables}
use Rattle.pie_old.specs.inner.Rows.{tasks_at}
use Rattle.pie_results.specs.inner.Failures.{is_done}
use Rattle.pie_topdown.specs.declared.ledger.Ledger.{Ledger}

-- a task has ended with an output, by its record
pub record HasOutput (records : Records) (n : ℕ) : Type 0 where
  pub rec : TaskRecord
  pub kept : record_of records n ≡ Some rec
  pub done : is_done rec.outcome ≡ true

-- the row of a task that requires these and wrote there
abbrev pub row_with : List ℕ → List (List ℕ) → Row
row_with ns paths = record { needs = ns; reads = []; lists = []; writes = paths }

-- a row and a place for each task, few enough tasks; each required task has an output, and ended before the one that requires it; the row of a
-- task with an output has the numbers of the tasks that its record requires
pub record IsLedger (l : Ledger) : Type 0 where
  pub tables : IsTables l.tables
  pub rows : length l.rows ≡ length l.tables.names
  pub places : length l.places.items ≡ length l.tables.names
  pub calls : (n k : ℕ) → Calls l.rows n k → HasOutput l.tables.records k
  pub before : (n k : ℕ) → Calls l.rows n k → StandsBefore l.places.items k n
  pub low : (n : ℕ) → HasOutput l.tables.records n → slice_index l.places.items n < length l.order.items
  pub ended : (n : ℕ) (r : TaskRecord) → record_of l.tables.records n ≡ Some r → is_done r.outcome ≡ true
      → tasks_at l.tables.names (row_at l.rows n).needs ≡ map Some (needs r)

-- tasks were entered or have ended; what had an output has one
pub record Grows (old new : Ledger) : Type 0 where
  pub rest : List Task
  pub names : new.tables.names ≡ old.tables.names ++ rest
  pub outputs : (n : ℕ) → HasOutput old.tables.records n → HasOutput new.tables.records n
