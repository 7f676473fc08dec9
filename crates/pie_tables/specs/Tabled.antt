-- The tables of a build by what changed.
use Rattle.std.specs.Prelude.{◌≡◌, ◌⊎◌, ℕ, ◌≤◌, ◌++◌, List, [], ◌∷◌, false, length, Some, slice_get, IfSome}
use Rattle.pie_value.specs.declared.task.Task.{Task}
use Rattle.pie_value.specs.Values.{tree_of}
use Rattle.pie_value.specs.Canonical.{IsEncodable}
use Rattle.pie_record.specs.Canonical.{IsStorable}
use Rattle.pie_record.specs.declared.task_record.Outcome.{Outcome}
use Rattle.pie_record.specs.declared.task_record.Outcome.TheVariants as ends
use Rattle.pie_record.specs.declared.task_record.TaskRecord.{TaskRecord}
use Rattle.pie_record.specs.inner.Records.{record_of}
use Rattle.pie_tables.specs.declared.tables.Tables.{Tables}

-- a task has ended with an output that has canonical bytes, or without one
abbrev pub IsGiven : Outcome → Type 0
IsGiven (ends.Done v) = IsEncodable (tree_of v)
IsGiven (ends.Failed fault) = Unit {0}
IsGiven (ends.Cycled tasks) = Unit {0}

-- a task has ended without an output
abbrev pub HasFailed : Outcome → Type 0
HasFailed (ends.Done v) = ⊥
HasFailed (ends.Failed fault) = Unit {0}
HasFailed (ends.Cycled tasks) = Unit {0}

-- a record that can be stored, or that of a task that failed
abbrev pub IsKept : TaskRecord → Type 0
IsKept r = IsStorable r ⊎ HasFailed r.outcome

-- the record of the task with this number
pub record IsRecordAt (names : List Task) (n : ℕ) (r : TaskRecord) : Type 0 where
  pub named : slice_get names n ≡ Some r.task
  pub kept : IsKept r

-- a flag for each task, few enough tasks, and records of theirs
pub record IsTables (t : Tables) : Type 0 where
  pub flags : length t.ran.items ≡ length t.names
  pub few : length t.names ≤ 50000
  pub records : (n : ℕ) → IfSome (record_of t.records n) (IsRecordAt t.names n)

-- a task got the next number, and hasn't run
pub record HasOneMore (old : Tables) (task : Task) (new : Tables) : Type 0 where
  pub names : new.names ≡ old.names ++ task ∷ []
  pub ran : new.ran.items ≡ old.ran.items ++ false ∷ []
