-- What the records of live tasks say: who wrote a path, and who saw one absent.
use Rattle.std.specs.Prelude.{◌≡◌, ℕ, Bool, true, false, cond, List, Option, Some, None, slice_get}
use Rattle.std.specs.List.{Contains}
use Rattle.pie_base.specs.Path.{is_out}
use Rattle.pie_value.specs.declared.task.Task.{Task}
use Rattle.pie_value.specs.declared.stamp.Stamp.{Stamp}
use Rattle.pie_value.specs.declared.stamp.Stamp.TheVariants.{Absent}
use Rattle.pie_record.specs.declared.dep.Dep.{Dep}
use Rattle.pie_record.specs.declared.dep.DepKind.{DepKind}
use Rattle.pie_record.specs.declared.dep.DepKind.TheVariants.{Exists, ReadHash, ReadMark, Digest}
use Rattle.pie_record.specs.declared.dep.DepOn.{DepOn}
use Rattle.pie_record.specs.declared.dep.DepOn.TheVariants.{File}
use Rattle.pie_record.specs.declared.records.Records.{Records}
use Rattle.pie_record.specs.declared.task_record.TaskRecord.{TaskRecord}
use Rattle.pie_record.specs.inner.Records.{record_of}

-- whether an observation of this kind is of one file
abbrev pub looks_at_file : DepKind → Bool
looks_at_file Exists = true
looks_at_file ReadHash = true
looks_at_file ReadMark = true
looks_at_file Digest = true
looks_at_file kind = false

-- the path under `out/` that was found absent, if the file at one was asked for
abbrev pub absent_at : Bool → DepOn → Stamp → Option (List ℕ)
absent_at true (File path) Absent = cond (is_out path) (Some path) None
absent_at asks what stamp = None

-- the path under `out/` that an observation found absent, if it found one
abbrev pub missing_in : Dep → Option (List ℕ)
missing_in dep = absent_at (looks_at_file dep.kind) dep.what dep.stamp

-- the task with this number is live and wrote the path
abbrev pub WritesAt : Records → List ℕ → List ℕ → ℕ → Type 0
WritesAt records live path n = Contains live n × (rec : TaskRecord) × (hash : List ℕ) × (record_of records n ≡ Some rec) × Contains rec.writes (path, hash)

-- the task with this number is live and saw the path absent
abbrev pub MissesAt : Records → List ℕ → List ℕ → ℕ → Type 0
MissesAt records live path n = Contains live n × (rec : TaskRecord) × (dep : Dep) × (record_of records n ≡ Some rec) × Contains rec.deps dep ×
    (missing_in dep ≡ Some path)

-- a task of which the number has a property
abbrev pub OfTask : List Task → (List ℕ → ℕ → Type 0) → List ℕ → Task → Type 0
OfTask names P path task = (n : ℕ) × (slice_get names n ≡ Some task) × P path n

-- a live task wrote the path
abbrev pub Wrote : List Task → Records → List ℕ → List ℕ → Task → Type 0
Wrote names records live = OfTask names (WritesAt records live)

-- a live task saw the path absent
abbrev pub Missed : List Task → Records → List ℕ → List ℕ → Task → Type 0
Missed names records live = OfTask names (MissesAt records live)
