-- A build by what changed, as the model of building knows it, between two steps.
use Rattle.std.specs.Prelude.{◌≡◌, ◌⊎◌, ℕ, ◌≤◌, Bool, true, false, List, [], ◌∷◌, ◌++◌, map, drop, take, length, Option, None, Some, slice_get, slice_index_or}
use Rattle.std.specs.List.{All, Contains}
use Rattle.pie_base.specs.Path.{is_out}
use Rattle.pie_value.specs.declared.task.Task.{Task}
use Rattle.pie_value.specs.Canonical.{enc_task}
use Rattle.pie_files.specs.Directory.{Directory}
use Rattle.pie_graph.specs.declared.edges.TaskNo.{TaskNo}
use Rattle.pie_graph.specs.Numbers.{IsMarked}
use Rattle.pie_graph.specs.Rows.{Row, row_at, Writes}
use Rattle.pie_base.specs.declared.fault.FaultKind.TheVariants.{Unknown}
use Rattle.pie_value.specs.declared.stamp.Stamp.TheVariants.{Absent}
use Rattle.pie_value.specs.declared.event.How.{How}
use Rattle.pie_record.specs.declared.dep.Dep.{Dep}
use Rattle.pie_record.specs.declared.dep.DepOn.TheVariants.{Called}
use Rattle.pie_record.specs.declared.task_record.Outcome.TheVariants.{Failed}
use Rattle.pie_record.specs.declared.task_record.TaskRecord.{TaskRecord}
use Rattle.pie_record.specs.Canonical.{IsTrueRecord}
use Rattle.pie_record.specs.inner.Records.{record_of as kept_of}
use Rattle.pie_tables.specs.declared.tables.Tables.{Tables}
use Rattle.pie_types.specs.Whole.{number_from}
use Rattle.pie_named.specs.declared.named.Named.{Named}
use Rattle.pie_view.specs.Content.{Staged, content}
use Rattle.pie_walk.specs.declared.marks.Mark.{Mark}
use Rattle.pie_walk.specs.Marks.{mark_of, IsSettled}
use Rattle.pie_walk.specs.States.{WalkState}
use Rattle.pie_walk.specs.Standing.{Stands}
use Rattle.pie_old.specs.inner.Rows.{tasks_at}
use Rattle.pie_view.specs.Seen.{Visible}
use Rattle.pie_running.specs.declared.frame.Caller.{Caller}
use Rattle.pie_running.specs.declared.frame.Told.{Told}
use Rattle.pie_running.specs.declared.frame.Told.TheVariants.{Goes, Fails}
use Rattle.pie_running.specs.inner.Noted.{tasks_on}
use Rattle.pie_frames.specs.declared.parked.Parked.{Parked}
use Rattle.pie_frames.specs.inner.Standing.{number_of}
use Rattle.pie_model.specs.Built.{bytes_at}
use Rattle.pie_model.specs.Paths.{among}
use Rattle.pie_model_pipeline.specs.World.{world, next}
use Rattle.pie_builder_laws.specs.Events.{AreCompiled}
use Rattle.pie_builder_laws.specs.Names.{called_in}
use Rattle.pie_builder_laws.specs.Requiring.{requiring_kind}
use Rattle.pie_builder_laws.specs.Views.{AreNumbersOf}
use Rattle.pie_earlier_laws.specs.Left.{AreThere}
use Rattle.pie_core_laws.specs.Update.{Update, IsUpdate, IsInformed}
use Rattle.pie_compare_laws.specs.Settled.{RestsOn}
use Rattle.pie_core_laws.specs.Exact.{runs, is_busy, is_done, IsExact}
use Rattle.pie_core_laws.specs.Beginning.{IsLoaded}
use Rattle.pie_core_laws.specs.Comparing.{IsOld, IsSearched}
use Rattle.pie_core_laws.specs.Finishing.{IsRight}
use Rattle.pie_core_laws.specs.Keeping.{Separates}
use Rattle.pie_core_laws.specs.Seeing.{written_now}
use Rattle.pie_bottomup.specs.declared.plan.Plan.{Plan}
use Rattle.pie_bottomup.specs.declared.state.Core.{Core}
use Rattle.pie_bottomup.specs.declared.state.First.TheVariants.{Done}
use Rattle.pie_bottomup.specs.declared.state.InHand.{InHand}
use Rattle.pie_bottomup.specs.inner.Causes.{AreTried, IsTried, count_old}
use Rattle.pie_bottomup.specs.inner.States.{IsOwn}

-- ---- what never changes

-- a plan is that of an update: its functions are those of now, with their code
pub record IsPlanNow (u : Update) (p : Plan) : Type 0 where
  pub update : IsUpdate u
  pub functions : p.typed.now ≡ u.functions
  pub compiled : AreCompiled u.functions p.code.now

-- a task whose function kept its digest means what it meant
pub record KeepsMeaning (u : Update) (same : List Bool) (names : List Task) : Type 0 where
  pub few : length same ≤ length names
  pub means : (n : ℕ) (t : Task) → IsMarked same n → slice_get names n ≡ Some t → next u.old_functions (enc_task t) ≡ next u.functions (enc_task t)

-- ---- what is known and what is there

-- what is known is true; of each task that isn't settled and means what it meant, what shows that its record is touched is known; and the record of
-- a task that isn't settled is one of the program
pub record KnowsTouched (u : Update) (named : Named) (same : List Bool) (t : Tables) (marks : List Mark) : Type 0 where
  pub informed : IsInformed u named
  pub meaning : KeepsMeaning u same t.names
  pub searched : (n : ℕ) (rec : TaskRecord) → kept_of t.records n ≡ Some rec → (IsSettled marks n → ⊥) → IsMarked same n
      → IsSearched u.directory named rec
  pub parts : (n : ℕ) (rec : TaskRecord) → kept_of t.records n ≡ Some rec → (IsSettled marks n → ⊥) → IsTrueRecord rec

-- nothing is staged of a task, and it didn't run
pub record IsUnstarted (t : Tables) (staged : Staged) (n : ℕ) : Type 0 where
  pub rested : slice_index_or t.ran.items n false ≡ false
  pub unstaged : (path : List ℕ) → content staged n path ≡ None

-- what tasks wrote: an old task that hasn't to run has its files there, and what is staged of it is what its evaluation wrote first;
-- a task that ran has all of that staged, and one that wasn't taken nothing
pub record AreWritten (u : Update) (t : Tables) (s : WalkState) (staged : Staged) : Type 0 where
  pub there : (n : ℕ) (rec : TaskRecord) → is_busy s n ≡ false → slice_index_or t.ran.items n false ≡ false → kept_of t.records n ≡ Some rec
      → AreThere world u.directory rec.writes
  pub ran : (n : ℕ) (rec : TaskRecord) (path : List ℕ) → IsSettled s.marks n → IsMarked t.ran.items n → kept_of t.records n ≡ Some rec
      → content staged n path ≡ written_now u rec.task path
  pub fetched : (n : ℕ) (rec : TaskRecord) (path bytes : List ℕ) → IsSettled s.marks n → slice_index_or t.ran.items n false ≡ false
      → kept_of t.records n ≡ Some rec → content staged n path ≡ Some bytes → written_now u rec.task path ≡ Some bytes
  pub idle : (n : ℕ) → runs (mark_of s.marks n) ≡ false → (IsSettled s.marks n → ⊥) → IsUnstarted t staged n

-- a record is the old one of its task, and its function kept its digest
pub record IsUnchanged (u : Update) (same : List Bool) (n : ℕ) (rec : TaskRecord) : Type 0 where
  pub code : IsMarked same n
  pub old : IsOld u rec

-- so it is with each task that isn't busy and didn't run, unless it is of no function of the pipeline
abbrev pub AreUnchanged : Update → List Bool → Tables → WalkState → Type 0
AreUnchanged u same t s =
    (n : ℕ) (rec : TaskRecord) → is_busy s n ≡ false → slice_index_or t.ran.items n false ≡ false → kept_of t.records n ≡ Some rec
    → IsUnchanged u same n rec ⊎ (number_from 0 u.functions rec.task ≡ None)

-- ---- the rows of the tasks that run

-- the row of a task begins, up to a place, with what its old record requires, and with nothing where it has none
pub record BeginsAsOld (t : Tables) (rows : List Row) (n from : ℕ) : Type 0 where
  pub old : (rec : TaskRecord) → kept_of t.records n ≡ Some rec → AreNumbersOf t.names (take from (row_at rows n).needs) (called_in rec.deps)
  pub new : kept_of t.records n ≡ None → take from (row_at rows n).needs ≡ []

-- so it is with a task that waits
abbrev pub WaitsAsOld : Tables → List Row → Parked → Type 0
WaitsAsOld t rows p = BeginsAsOld t rows (number_of p) p.from

-- and with the task in hand, if there is one
abbrev pub HoldsAsOld : Tables → List Row → Option InHand → Type 0
HoldsAsOld t rows None = Unit {0}
HoldsAsOld t rows (Some h) = BeginsAsOld t rows h.no.0 h.from

-- ---- a build

-- tables, a walk, what is known and what is staged are those of an exact build
pub record AreExact (u : Update) (named : Named) (same : List Bool) (t : Tables) (s : WalkState) (staged : Staged) : Type 0 where
  pub tables : IsExact u t.names t.records s
  pub known : KnowsTouched u named same t s.marks
  pub written : AreWritten u t s staged
  pub unchanged : AreUnchanged u same t s

-- a build is exact, after its first step, and knows how many old tasks there are; each of its tasks is tried
pub record IsExactCore (u : Update) (c : Core) : Type 0 where
  pub tested : c.first ≡ Done
  pub counted : c.earlier ≡ count_old u
  pub tried : AreTried u c.earlier c.tables.names
  pub are : AreExact u c.named c.plan.same.items c.tables c.frames.walk c.stage
  pub parked : All (WaitsAsOld c.tables c.frames.walk.rows) c.frames.parked.items
  pub hand : HoldsAsOld c.tables c.frames.walk.rows c.hand

-- ---- before the first step

-- the old tasks are loaded, and nothing was done yet
pub record IsLoadedCore (u : Update) (c : Core) : Type 0 where
  pub loaded : IsLoaded u c.tables.names c.tables.records c.frames.walk
  pub informed : IsInformed u c.named
  pub meaning : KeepsMeaning u c.plan.same.items c.tables.names
  pub parts : (n : ℕ) (rec : TaskRecord) → kept_of c.tables.records n ≡ Some rec → IsTrueRecord rec
  pub unstarted : (n : ℕ) → IsUnstarted c.tables c.stage n
  pub counted : c.earlier ≡ count_old u
  pub sized : c.earlier ≡ length c.tables.names

-- ---- steps

-- a task ended with a right record; what it wrote first is staged if it ran, and there if it didn't, as one that is of no function
pub record EndedRight (u : Update) (c : Core) (n : ℕ) (rec : TaskRecord) : Type 0 where
  pub right : IsRight u rec
  pub ran : (path : List ℕ) → IsMarked c.tables.ran.items n → content c.stage n path ≡ written_now u rec.task path
  pub rested : slice_index_or c.tables.ran.items n false ≡ false → AreThere world u.directory rec.writes × IsUnstarted c.tables c.stage n
  pub lost : slice_index_or c.tables.ran.items n false ≡ false → number_from 0 u.functions rec.task ≡ None

-- a task was taken: what it requires is settled, and it has the row of its record
pub record IsTakenExact (u : Update) (c : Core) (n : ℕ) : Type 0 where
  pub exact : IsExactCore u c
  pub rests : (rec : TaskRecord) → kept_of c.tables.records n ≡ Some rec
      → RestsOn c.tables.names c.tables.records c.frames.walk.rows (is_done c.frames.walk) n rec
  pub unstarted : IsUnstarted c.tables c.stage n

-- whatever the update is, the build stays exact
abbrev pub StaysExact : Core → Core → Type 0
StaysExact old new = (u : Update) → IsExactCore u old → IsExactCore u new

-- so it does with this task more, where the walk stands and the task is tried
abbrev pub AddsExact : Core → Task → Core → Type 0
AddsExact old t new = Stands new.frames.walk → (u : Update) → IsTried u t → IsExactCore u old → IsExactCore u new

-- the row of a task begins still with what its old record requires
abbrev pub StillBegins : Core → Core → ℕ → ℕ → Type 0
StillBegins old new n from = BeginsAsOld old.tables old.frames.walk.rows n from → BeginsAsOld new.tables new.frames.walk.rows n from

-- what the files hold is the directory of an update, of which byte strings and marks are separate; what lies under `out` is met
pub record IsSiteNow (u : Update) (held : Option Directory) : Type 0 where
  pub holds : held ≡ Some u.directory
  pub apart : Separates u
  pub besides : (path bytes : List ℕ) → is_out path ≡ true → bytes_at u.directory path ≡ Some bytes → among bytes u.besides ≡ true

-- the record of a task that is of no function: it failed without having run
abbrev pub lost_record : Task → TaskRecord
lost_record t = record { task = t; deps = []; writes = []; outcome = Failed (record { task = t; kind = Unknown }) }

-- the observation of a required task that gave no output
abbrev pub lost_task : How → Task → Dep
lost_task how t = record { kind = requiring_kind how; what = Called t; stamp = Absent }

-- what a task noted that waits, and requires by its row the task for which it waits
pub record IsWaitingFor (c : Core) (task : TaskNo) (from : ℕ) (w : Caller) : Type 0 where
  pub callee : ℕ
  pub required : slice_get c.tables.names callee ≡ Some w.required
  pub row : drop from (row_at c.frames.walk.rows task.0).needs ≡ w.waiting.notes.needs ++ callee ∷ []
  pub needs : tasks_at c.tables.names w.waiting.notes.needs ≡ map Some (tasks_on w.waiting.notes.deps)

-- these are the notes of a task that was told something and fails
abbrev pub OwnsTold : Core → TaskNo → ℕ → Told → Type 0
OwnsTold c task from (Goes f) = Unit {0}
OwnsTold c task from (Fails n k) = IsOwn c task from n

-- ---- files of tasks that didn't run

-- a task that has required what its row has from a place on sees the file of another there, which isn't staged
abbrev pub Lacks : List Row → Staged → ℕ → ℕ → List ℕ → ℕ → Type 0
Lacks rows staged n from path writer = Visible rows (drop from (row_at rows n).needs) path writer × (content staged writer path ≡ None)

-- a settled task wrote a file that isn't staged
pub record MayStage (c : Core) (writer : ℕ) (path : List ℕ) : Type 0 where
  pub stands : Stands c.frames.walk
  pub settled : IsSettled c.frames.walk.marks writer
  pub wrote : Writes c.frames.walk.rows writer path
  pub unstaged : content c.stage writer path ≡ None

-- a build stays exact where it is staged
abbrev pub FilesExact : Option Directory → Core → ℕ → List ℕ → Core → Type 0
FilesExact held old writer path new = (u : Update) → IsSiteNow u held → MayStage old writer path → IsExactCore u old → IsExactCore u new

-- and so it does where a task is about to look that has required settled tasks
abbrev pub FetchesExact : Option Directory → Core → ℕ → ℕ → Core → Type 0
FetchesExact held old n from new =
    (u : Update) → IsSiteNow u held → Stands old.frames.walk
    → ((k : ℕ) → Contains (drop from (row_at old.frames.walk.rows n).needs) k → IsSettled old.frames.walk.marks k) → IsExactCore u old → IsExactCore u new
