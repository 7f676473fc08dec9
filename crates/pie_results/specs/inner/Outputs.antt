-- The outputs of roots.
use Rattle.std.specs.Prelude.{◌≡◌, ℕ, List, [], ◌∷◌, ◌++◌, map, Option, Some, None, slice_get}
use Rattle.std.specs.List.{All, Contains}
use Rattle.pie_value.specs.declared.task.Task.{Task}
use Rattle.pie_value.specs.declared.value.Value.{Value}
use Rattle.pie_record.specs.declared.records.Records.{Records}
use Rattle.pie_record.specs.declared.task_record.Outcome.{Outcome}
use Rattle.pie_record.specs.declared.task_record.Outcome.TheVariants.{Done, Failed, Cycled}
use Rattle.pie_record.specs.declared.task_record.TaskRecord.{TaskRecord}
use Rattle.pie_record.specs.inner.Records.{record_of}

-- the task with this number ended with a value
pub record Gave (records : Records) (n : ℕ) (value : Value) : Type 0 where
  pub rec : TaskRecord
  pub kept : record_of records n ≡ Some rec
  pub gave : rec.outcome ≡ Done value

-- a task with the value in its record
pub record IsOutput (names : List Task) (records : Records) (output : Task × Value) : Type 0 where
  pub number : ℕ
  pub named : slice_get names number ≡ Some output.0
  pub gave : Gave records number output.1

-- a task has a number, and under its number a value
pub record IsDone (names : List Task) (records : Records) (task : Task) : Type 0 where
  pub named : Contains names task
  pub gave : (n : ℕ) → slice_get names n ≡ Some task → (value : Value) × Gave records n value

-- the output that a task ended with, if it did
abbrev pub output_in : Outcome → Option Value
output_in (Done value) = Some value
output_in (Failed fault) = None
output_in (Cycled tasks) = None

-- that of a record
abbrev pub output_by : Option TaskRecord → Option Value
output_by None = None
output_by (Some rec) = output_in rec.outcome

-- the answer is the output of this task
abbrev pub GivesOutput : List Task → Records → Task → Option Value → Type 0
GivesOutput names records t None = ⊥
GivesOutput names records t (Some value) = IsOutput names records (t, value)

-- one task more with its output
pub record GainsOutput (names : List Task) (records : Records) (t : Task) (old new : List (Task × Value)) : Type 0 where
  pub output : Value
  pub gives : IsOutput names records (t, output)
  pub is : new ≡ old ++ (t, output) ∷ []

-- each root with the value in its record
pub record AreOutputs (names : List Task) (records : Records) (roots : List Task) (outputs : List (Task × Value)) : Type 0 where
  pub tasks : map (λ (o : Task × Value). o.0) outputs ≡ roots
  pub each : All (IsOutput names records) outputs
