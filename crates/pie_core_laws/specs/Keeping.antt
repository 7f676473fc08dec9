-- A task that was taken is kept; and what is settled is known.
use Rattle.std.specs.Prelude.{◌≡◌, ℕ, true, List, Some, slice_get}
use Rattle.pie_value.specs.declared.task.Task.{Task}
use Rattle.pie_value.specs.Canonical.{enc_task}
use Rattle.pie_record.specs.declared.records.Records.{Records}
use Rattle.pie_record.specs.declared.task_record.TaskRecord.{TaskRecord}
use Rattle.pie_tables.specs.declared.tables.Tables.{Tables}
use Rattle.pie_named.specs.declared.named.Named.{Named}
use Rattle.pie_compare.specs.inner.Standing.{RecordStands}
use Rattle.pie_walk.specs.Marks.{mark_of, IsSettled}
use Rattle.pie_walk.specs.States.{WalkState, settled}
use Rattle.pie_walk.specs.Standing.{Stands}
use Rattle.pie_model.specs.Changes.{BuildsSeparate}
use Rattle.pie_model.specs.inner.Consistent.{IsSettled as IsSettledTask}
use Rattle.pie_model.specs.inner.RecordLaws.{Passes}
use Rattle.pie_settle_laws.specs.Known.{IsKnown}
use Rattle.pie_model_pipeline.specs.World.{world, next}
use Rattle.pie_builder_laws.specs.Tables.{recorded}
use Rattle.pie_earlier_laws.specs.Left.{AreThere}
use Rattle.pie_compare_laws.specs.Settled.{RestsOn}
use Rattle.pie_core_laws.specs.Update.{Update, IsUpdate, IsInformed, earlier, present}
use Rattle.pie_core_laws.specs.Comparing.{IsSearched}
use Rattle.pie_core_laws.specs.Exact.{runs, is_done, busy_by, IsExact}
use Rattle.pie_core_laws.specs.Finishing.{StaysExact}

-- a task that was taken rests on settled tasks, means the same now and was tested
pub record MayBeKept (u : Update) (t : Tables) (s : WalkState) (n : Named) (number : ℕ) (rec : TaskRecord) : Type 0 where
  pub ran : runs (mark_of s.marks number) ≡ true
  pub rests : RestsOn t.names t.records s.rows (is_done s) number rec
  pub meaning : next u.old_functions (enc_task rec.task) ≡ next u.functions (enc_task rec.task)
  pub searched : IsSearched u.directory n rec

-- where its record stands, a build in which it is settled stays exact, and what it wrote is there
abbrev pub KeptTasksStayExact : Type 0
KeptTasksStayExact =
    (u : Update) (t : Tables) (s : WalkState) (n : Named) (number : ℕ) (rec : TaskRecord) → IsUpdate u → IsInformed u n
    → IsExact u t.names t.records s → Stands s → Stands (settled s number) → MayBeKept u t s n number rec → RecordStands t s.rows n number
    → StaysExact u t.names t.records s t.names t.records (settled s number) × AreThere world u.directory rec.writes

-- no two byte strings that the builds meet have one hash, and no source has one mark and two contents
abbrev pub Separates : Update → Type 0
Separates u = BuildsSeparate world (earlier u) (present u) u.old_roots u.roots u.besides

-- a task that is settled in the walk is settled in the model, and known
pub record IsSettledIn (u : Update) (names : List Task) (records : Records) (s : WalkState) (t : Task) : Type 0 where
  pub settled : IsSettledTask (recorded names records) (Passes (busy_by names s)) (enc_task t)
  pub known : IsKnown world (present u) (recorded names records) (enc_task t)

abbrev pub SettledTasksAreKnown : Type 0
SettledTasksAreKnown =
    (u : Update) (names : List Task) (records : Records) (s : WalkState) (n : ℕ) (t : Task) → IsExact u names records s → Stands s → Separates u
    → slice_get names n ≡ Some t → IsSettled s.marks n → IsSettledIn u names records s t
