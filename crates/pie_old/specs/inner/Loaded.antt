-- The tables of an earlier build.
use Rattle.std.specs.Prelude.{◌≡◌, ℕ, ◌≤◌, false, List, length, map, replicate, Some, slice_get}
use Rattle.pie_record.specs.declared.task_record.TaskRecord.{TaskRecord}
use Rattle.pie_record.specs.inner.Records.{record_of}
use Rattle.pie_store.specs.Canonical.{tasks_in}
use Rattle.pie_tables.specs.declared.tables.Tables.{Tables}
use Rattle.pie_tables.specs.Tabled.{IsTables}
use Rattle.pie_walk.specs.States.{NeedsAreEarlier}
use Rattle.pie_old.specs.declared.old.Old.{Old}
use Rattle.pie_old.specs.declared.old.Loaded.{Loaded}
use Rattle.pie_old.specs.declared.old.Loaded.TheVariants.{Whole, Many}
use Rattle.pie_old.specs.inner.Looking.{looks_out}
use Rattle.pie_old.specs.inner.Rows.{AreRowsOf}

-- tables of records: a task's number is the place of its record, and none of the tasks ran
pub record AreTablesOf (kept : List TaskRecord) (t : Tables) : Type 0 where
  pub tables : IsTables t
  pub names : t.names ≡ tasks_in kept
  pub records : (n : ℕ) → record_of t.records n ≡ slice_get kept n
  pub ran : t.ran.items ≡ replicate (length kept) false

-- the tasks of records by their numbers
pub record IsOld (kept : List TaskRecord) (old : Old) : Type 0 where
  pub tables : AreTablesOf kept old.tables
  pub rows : AreRowsOf (tasks_in kept) kept old.rows
  pub earlier : NeedsAreEarlier old.rows
  pub looks_out : old.looks_out.items ≡ map looks_out kept

-- they are few enough, or this is the first task past the limit
abbrev pub IsLoaded : List TaskRecord → Loaded → Type 0
IsLoaded records (Whole old) = (length records ≤ 50000) × IsOld records old
IsLoaded records (Many task) = slice_get (tasks_in records) 50000 ≡ Some task
