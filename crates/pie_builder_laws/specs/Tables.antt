-- The table of records and the kept contents of the model, from those by numbers.
use Rattle.std.specs.Prelude.{◌≡◌, ℕ, List, [], ◌∷◌, ◌++◌, length, Option, Some, None, option_map, slice_get}
use Rattle.pie_value.specs.declared.task.Task.{Task}
use Rattle.pie_value.specs.Canonical.{enc_task}
use Rattle.pie_record.specs.declared.records.Records.{Records}
use Rattle.pie_record.specs.declared.task_record.TaskRecord.{TaskRecord}
use Rattle.pie_record.specs.inner.Records.{record_of as kept_of, Puts}
use Rattle.pie_model.specs.Paths.{Path}
use Rattle.pie_model.specs.Records.{Record}
use Rattle.pie_model.specs.inner.Steps.{ChangesAt}
use Rattle.pie_step_laws.specs.Contents.{KeepsMore}
use Rattle.pie_model_pipeline.specs.Rows.{record_of}
use Rattle.pie_builder_laws.specs.Names.{AreTasks, under_name}

-- the record under a number, as the model has it
abbrev pub record_at : Records → ℕ → Option Record
record_at records n = option_map record_of (kept_of records n)

-- the table of the model: the record under the number of a task
abbrev pub recorded : List Task → Records → List ℕ → Option Record
recorded names records = under_name None (record_at records) 0 names

-- the contents that are kept by numbers: for each one the paths that were written, with their contents, in order
abbrev pub Kept : Type 0
Kept = ℕ → List (Path × List ℕ)

-- those of the model: under the number of a task
abbrev pub kept : List Task → Kept → List ℕ → List (Path × List ℕ)
kept names contents = under_name [] contents 0 names

-- ---- records

-- a task has the record under its number
abbrev pub RecordsAreByNumber : Type 0
RecordsAreByNumber =
    (names : List Task) (records : Records) (n : ℕ) (t : Task) → AreTasks names → slice_get names n ≡ Some t
    → recorded names records (enc_task t) ≡ record_at records n

-- a task with a record has a number, and the record is that one's
pub record HasNumber (names : List Task) (records : Records) (x : List ℕ) (r : Record) : Type 0 where
  pub number : ℕ
  pub task : Task
  pub rec : TaskRecord
  pub named : slice_get names number ≡ Some task
  pub bytes : x ≡ enc_task task
  pub kept : kept_of records number ≡ Some rec
  pub same : r ≡ record_of rec

abbrev pub RecordsHaveNumbers : Type 0
RecordsHaveNumbers = (names : List Task) (records : Records) (x : List ℕ) (r : Record) → recorded names records x ≡ Some r → HasNumber names records x r

-- without records no task has one
abbrev pub NoRecordsAtFirst : Type 0
NoRecordsAtFirst = (names : List Task) (records : Records) (x : List ℕ) → ((n : ℕ) → kept_of records n ≡ None) → recorded names records x ≡ None

-- a new task without a record changes no record
abbrev pub NewNamesHaveNoRecord : Type 0
NewNamesHaveNoRecord =
    (names : List Task) (records : Records) (t : Task) (x : List ℕ) → kept_of records (length names) ≡ None
    → recorded (names ++ t ∷ []) records x ≡ recorded names records x

-- a record that is put under a number becomes its task's
abbrev pub PutRecordsChange : Type 0
PutRecordsChange =
    (names : List Task) (old new : Records) (n : ℕ) (t : Task) (rec : TaskRecord) → AreTasks names → slice_get names n ≡ Some t → Puts old new n rec
    → ChangesAt (recorded names old) (recorded names new) (enc_task t) (record_of rec)

-- ---- contents

-- a task has the contents under its number
abbrev pub ContentsAreByNumber : Type 0
ContentsAreByNumber =
    (names : List Task) (contents : Kept) (n : ℕ) (t : Task) → AreTasks names → slice_get names n ≡ Some t → kept names contents (enc_task t) ≡ contents n

-- a new task without contents changes none
abbrev pub NewNamesHaveNoContents : Type 0
NewNamesHaveNoContents =
    (names : List Task) (contents : Kept) (t : Task) (x : List ℕ) → contents (length names) ≡ []
    → kept (names ++ t ∷ []) contents x ≡ kept names contents x

-- contents that are put under a number become its task's
abbrev pub PutContentsChange : Type 0
PutContentsChange =
    (names : List Task) (old new : Kept) (n : ℕ) (t : Task) → AreTasks names → slice_get names n ≡ Some t
    → ((m : ℕ) → (m ≡ n → ⊥) → new m ≡ old m) → KeepsMore (kept names old) (kept names new) (enc_task t) (new n)
