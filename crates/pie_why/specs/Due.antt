-- Which tasks of a store a build by what changed takes up first.
use Rattle.std.specs.Prelude.{◌≡◌, ◌⊎◌, ◌↔◌, ℕ, Bool, true, false, List, Option, Some, slice_index_or}
use Rattle.pie_files.specs.Directory.{Directory}
use Rattle.pie_record.specs.declared.records.Records.{Records}
use Rattle.pie_record.specs.declared.task_record.TaskRecord.{TaskRecord}
use Rattle.pie_record.specs.inner.Records.{record_of}
use Rattle.pie_named.specs.declared.named.Named.{Named}
use Rattle.pie_named.specs.inner.Known.{IsTrueOf}
use Rattle.pie_compare.specs.inner.Touching.{IsTouched}

-- a task is due: its function hasn't kept its digest, or something that its record observed of a named source, or wrote at a named path, is another now
abbrev pub IsDue : Directory → Named → List Bool → ℕ → TaskRecord → Type 0
IsDue d n same k rec = (slice_index_or same k false ≡ false) ⊎ IsTouched d n rec

-- the answer is whether the task with this number is due
abbrev pub SaysDue : Directory → Named → Records → List Bool → ℕ → Bool → Type 0
SaysDue d n records same k due = (rec : TaskRecord) → record_of records k ≡ Some rec → (due ≡ true) ↔ IsDue d n same k rec

-- where the files tell their directory, and what was known is true of it: what is known is true, and this holds
abbrev pub Learning : Option Directory → Named → Named → (Directory → Type 0) → Type 0
Learning held old new P = (d : Directory) → held ≡ Some d → IsTrueOf d old → IsTrueOf d new × P d
