-- What a running task sees of settled tasks under `out`.
use Rattle.std.specs.Prelude.{◌≡◌, ℕ, true, List, map, Option, Some, slice_get, Contains}
use Rattle.pie_value.specs.declared.task.Task.{Task}
use Rattle.pie_value.specs.Canonical.{enc_task}
use Rattle.pie_record.specs.declared.records.Records.{Records}
use Rattle.pie_record.specs.declared.task_record.TaskRecord.{TaskRecord}
use Rattle.pie_record.specs.inner.Records.{record_of as kept_of}
use Rattle.pie_view.specs.declared.seen.Seen.{Seen as RowsSeen}
use Rattle.pie_view.specs.declared.seen.Seen.TheVariants.{Absent, By, Clash}
use Rattle.pie_view.specs.Seen.{Visible, IsOnly}
use Rattle.pie_walk.specs.Marks.{IsSettled}
use Rattle.pie_walk.specs.States.{WalkState}
use Rattle.pie_walk.specs.Standing.{Stands}
use Rattle.pie_model.specs.Paths.{Path, among}
use Rattle.pie_model.specs.Trees.{trace_of, writes_of, is_done as ends_well}
use Rattle.pie_model.specs.Seen.{first_write, provided}
use Rattle.pie_model.specs.Evaluation.{evaluation}
use Rattle.pie_model.specs.Built.{bytes_at}
use Rattle.pie_model_pipeline.specs.Rows.{record_of}
use Rattle.pie_model_pipeline.specs.World.{world}
use Rattle.pie_builder_laws.specs.Views.{AreNumbersOf, Staged, found}
use Rattle.pie_earlier_laws.specs.Left.{AreThere}
use Rattle.pie_core_laws.specs.Update.{Update, present}
use Rattle.pie_core_laws.specs.Exact.{IsExact}
use Rattle.pie_core_laws.specs.Keeping.{Separates}

-- a task is settled, and ended with a value
pub record HasOutput (records : Records) (s : WalkState) (n : ℕ) : Type 0 where
  pub settled : IsSettled s.marks n
  pub rec : TaskRecord
  pub kept : kept_of records n ≡ Some rec
  pub gave : ends_well (record_of rec).outcome ≡ true

-- what a task wrote first at a path, by its evaluation now
abbrev pub written_now : Update → Task → Path → Option (List ℕ)
written_now u t path = first_write path (writes_of (trace_of (evaluation world (present u) (enc_task t))))

-- of the one task that is seen its contents are staged
abbrev pub IsStagedFor : Update → List Task → Staged → Path → RowsSeen → Type 0
IsStagedFor u names staged path Absent = Unit {0}
IsStagedFor u names staged path (By one) = (t : Task) → slice_get names one.0 ≡ Some t → staged one.0 path ≡ written_now u t path
IsStagedFor u names staged path Clash = Unit {0}

-- what is seen by the rows of settled tasks, with these contents, is what the tasks provide
abbrev pub SettledTasksProvide : Type 0
SettledTasksProvide =
    (u : Update) (names : List Task) (records : Records) (s : WalkState) (staged : Staged) (required : List ℕ) (us : List Task) (path : Path)
    (seen : RowsSeen) → IsExact u names records s → Stands s → Separates u → AreNumbersOf names required us
    → ((k : ℕ) → Contains required k → HasOutput records s k) → IsOnly (Visible s.rows required path) seen → IsStagedFor u names staged path seen
    → provided (map (evaluation world (present u)) (map enc_task us)) path ≡ found staged path seen

-- the file of a settled task whose writes are there has what the task's evaluation wrote, if what is there is met
abbrev pub FilesAreWritten : Type 0
FilesAreWritten =
    (u : Update) (names : List Task) (records : Records) (s : WalkState) (n : ℕ) (rec : TaskRecord) (path bytes hash : List ℕ)
    → IsExact u names records s → Stands s → Separates u → IsSettled s.marks n → kept_of records n ≡ Some rec → AreThere world u.directory rec.writes
    → first_write path rec.writes ≡ Some hash → bytes_at u.directory path ≡ Some bytes → among bytes u.besides ≡ true
    → written_now u rec.task path ≡ Some bytes
