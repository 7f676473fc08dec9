-- What is kept of a task that has ended.
use Rattle.std.specs.Prelude.{◌≡◌, ℕ, List, [], map, Option, Some, None}
use Rattle.pie_value.specs.declared.task.Task.{Task}
use Rattle.pie_value.specs.declared.value.Value.{Value}
use Rattle.pie_graph.specs.Rows.{Row}
use Rattle.pie_record.specs.declared.records.Records.{Records}
use Rattle.pie_record.specs.declared.task_record.TaskRecord.{TaskRecord}
use Rattle.pie_record.specs.declared.task_record.Outcome.TheVariants as ends
use Rattle.pie_record.specs.inner.Records.{record_of as kept_of}
use Rattle.pie_running.specs.declared.requiring.Done.{Done}
use Rattle.pie_running.specs.inner.Noted.{Noted}

-- its record
abbrev pub ended_with : Noted → Value → TaskRecord
ended_with n v = record { task = n.task; deps = n.deps; writes = n.writes; outcome = ends.Done v }

-- a row with these required tasks and these writes
abbrev pub row_with : List ℕ → List (List ℕ × List ℕ) → Row
row_with needs writes = record { needs = needs; reads = []; lists = []; writes = map (λ (w : List ℕ × List ℕ). w.0) writes }

-- its row
abbrev pub row_ended : Noted → Row
row_ended n = row_with n.needs n.writes

-- the record under a number has this output
pub record HasOutput (records : Records) (n : ℕ) (v : Value) : Type 0 where
  pub rec : TaskRecord
  pub kept : kept_of records n ≡ Some rec
  pub outcome : rec.outcome ≡ ends.Done v

-- a task that is done has its output, and else no record
abbrev pub IsKeptAs : Records → ℕ → Option Done → Type 0
IsKeptAs records n None = kept_of records n ≡ None
IsKeptAs records n (Some d) = HasOutput records n d.output
