-- A check of a record of the store, by numbers and rows: what holds of it from place to place.
use Rattle.std.specs.Prelude.{◌≡◌, ◌+◌, ◌≤◌, ℕ, suc, true, false, IsTrue, List, [], ◌∷◌, map, take, drop, length, Some, slice_get}
use Rattle.pie_value.specs.declared.task.Task.{Task}
use Rattle.pie_base.specs.Path.{is_source}
use Rattle.pie_value.specs.declared.stamp.Stamp.{Stamp}
use Rattle.pie_value.specs.Canonical.{enc_task}
use Rattle.pie_graph.specs.Rows.{Row}
use Rattle.pie_record.specs.declared.dep.Dep.{Dep}
use Rattle.pie_record.specs.declared.dep.DepKind.{DepKind}
use Rattle.pie_record.specs.declared.dep.DepKind.TheVariants as kinds
use Rattle.pie_record.specs.declared.dep.DepOn.TheVariants.{File, Called}
use Rattle.pie_record.specs.Kinds.{tag_of, allows}
use Rattle.pie_record.specs.declared.records.Records.{Records}
use Rattle.pie_record.specs.declared.task_record.TaskRecord.{TaskRecord}
use Rattle.pie_tables.specs.declared.tables.Tables.{Tables}
use Rattle.pie_named.specs.declared.named.Named.{Named}
use Rattle.pie_named.specs.inner.Stamped.{stamp_in, differs_from}
use Rattle.pie_compare.specs.inner.Standing.{DepStands}
use Rattle.pie_model.specs.declared.words.How.{How}
use Rattle.pie_model.specs.declared.words.Event.TheVariants.{Require}
use Rattle.pie_model.specs.Paths.{among}
use Rattle.pie_model.specs.Evaluation.{Project}
use Rattle.pie_model.specs.inner.Still.{SourceStampStill}
use Rattle.pie_model.specs.inner.Steps.{ChangesAt}
use Rattle.pie_model.specs.inner.Stack.{Frame, tasks_of}
use Rattle.pie_step_laws.specs.Frames.{begun}
use Rattle.pie_model_pipeline.specs.Rows.{how_by, query_of, stamp_of, observation_of, record_of}
use Rattle.pie_model_pipeline.specs.World.{world, next}
use Rattle.pie_builder_laws.specs.Names.{called_in}
use Rattle.pie_builder_laws.specs.Tables.{recorded}
use Rattle.pie_builder_laws.specs.Views.{AreNumbersOf}
use Rattle.pie_earlier_laws.specs.Left.{IsEarlierBuild}
use Rattle.pie_core_laws.specs.Update.{Update, earlier, present}
use Rattle.pie_core_laws.specs.Comparing.{IsOld}
use Rattle.pie_core_laws.specs.Finishing.{IsRight}
use Rattle.pie_core_laws.specs.Keeping.{Separates}
use Rattle.pie_topdown_laws.specs.Tables.{EndsIn}
use Rattle.pie_topdown_laws.specs.Checks.{IsOldRecord, GoesOn, AreUnderWay, IsChecked}
use Rattle.pie_topdown_laws.specs.CheckLaws.{TellsApart}
use Rattle.pie_topdown_laws.specs.Ledgers.{setting, IsRightLedger}

-- ---- old records

-- a record of the store of an earlier build, of a task that means the same now, is an old record
abbrev pub StoredRecordsAreOld : Type 0
StoredRecordsAreOld =
    (u : Update) (rec : TaskRecord) → IsEarlierBuild world (earlier u) u.old_roots u.left → IsOld u rec
    → next u.old_functions (enc_task rec.task) ≡ next u.functions (enc_task rec.task)
    → IsOldRecord (setting u) (earlier u) (enc_task rec.task) (record_of rec)

-- and where builds separate what they meet, such records tell it apart
abbrev pub UpdatesTellApart : Type 0
UpdatesTellApart = (u : Update) → Separates u → TellsApart (setting u) (earlier u)

-- ---- sources

-- an observation of a source that doesn't differ from the directory has the stamp of now; listings are of sources
abbrev pub SourcesAreStill : Type 0
SourcesAreStill =
    (u : Update) (kind : DepKind) (path : List ℕ) (stamp : Stamp) → IsTrue (allows kind (File path) (tag_of stamp))
    → (kind ≡ kinds.List → is_source path ≡ true) → (is_source path ≡ true → differs_from (stamp_in u.directory kind path) stamp ≡ false)
    → SourceStampStill world (present u) (query_of kind (File path)) (stamp_of stamp)

-- ---- a check

-- so many observations of a record were passed, which required the tasks of these numbers
pub record ChecksAt (u : Update) (before : Project) (names : List Task) (records : Records) (root : List ℕ) (fs : List Frame) (rec : TaskRecord)
    (at : ℕ) (required : List ℕ) : Type 0 where
  pub old : IsOldRecord (setting u) before (enc_task rec.task) (record_of rec)
  pub checked : IsChecked (setting u) before (recorded names records) root fs (enc_task rec.task) (record_of rec)
      (map observation_of (take at rec.deps)) (map observation_of (drop at rec.deps))
  pub numbers : AreNumbersOf names required (called_in (take at rec.deps))

-- the task of the record and those that wait were entered, and have no record
abbrev pub StandsAbove : List Task → Records → List Frame → TaskRecord → Type 0
StandsAbove names records fs rec = AreUnderWay (recorded names records) (map enc_task names) (enc_task rec.task ∷ tasks_of fs)

-- it begins where its task may
abbrev pub ChecksBeginAt : Type 0
ChecksBeginAt =
    (u : Update) (before : Project) (names : List Task) (records : Records) (root : List ℕ) (fs : List Frame) (rec : TaskRecord)
    → among root u.roots ≡ true → IsOldRecord (setting u) before (enc_task rec.task) (record_of rec)
    → GoesOn (setting u) (recorded names records) root fs (begun world (enc_task rec.task)) → ChecksAt u before names records root fs rec 0 []

-- its next observation stands, by the records and rows of tasks that are done, and a source has the stamp of now: it passes that one
pub record StandsThere (u : Update) (t : Tables) (rows : List Row) (n : Named) (rec : TaskRecord) (at : ℕ) (required after : List ℕ) : Type 0 where
  pub dep : Dep
  pub next : slice_get rec.deps at ≡ Some dep
  pub stands : DepStands (record { tables = t; rows = rows; known = n; own = rec.writes }) required dep after
  pub still : SourceStampStill world (present u) (query_of dep.kind dep.what) (stamp_of dep.stamp)

abbrev pub PlacesPassAt : Type 0
PlacesPassAt =
    (u : Update) (before : Project) (t : Tables) (rows : List Row) (places : List ℕ) (n : Named) (root : List ℕ) (fs : List Frame) (rec : TaskRecord)
    (at : ℕ) (required after : List ℕ) → TellsApart (setting u) before → IsRightLedger u t.names t.records rows places
    → StandsAbove t.names t.records fs rec → ChecksAt u before t.names t.records root fs rec at required
    → StandsThere u t rows n rec at required after → ChecksAt u before t.names t.records root fs rec (at + 1) after

-- where its next observation is of a task, its frame requires that one next
pub record Requires (u : Update) (f : Frame) (h : How) (x : List ℕ) : Type 0 where
  pub left : ℕ
  pub is_left : f.left ≡ suc left
  pub next : (present u).next f.task f.progress.answers ≡ Require h x

abbrev pub CalledTasksAreRequired : Type 0
CalledTasksAreRequired =
    (u : Update) (before : Project) (names : List Task) (records : Records) (root : List ℕ) (fs : List Frame) (rec : TaskRecord) (at : ℕ)
    (required : List ℕ) (dep : Dep) (task : Task) → (c : ChecksAt u before names records root fs rec at required) → slice_get rec.deps at ≡ Some dep
    → dep.what ≡ Called task → Requires u c.checked.frame (how_by dep.kind) (enc_task task)

-- once all were passed its record is right, and its task ends with it
pub record StandsWhole (u : Update) (names : List Task) (records new : Records) (rec : TaskRecord) : Type 0 where
  pub right : IsRight u rec
  pub ends : EndsIn world (present u) (recorded names records) (recorded names new) (map enc_task names) (enc_task rec.task) (record_of rec)

abbrev pub ChecksEndAt : Type 0
ChecksEndAt =
    (u : Update) (before : Project) (names : List Task) (records new : Records) (root : List ℕ) (fs : List Frame) (rec : TaskRecord) (at : ℕ)
    (required : List ℕ) → among root u.roots ≡ true → StandsAbove names records fs rec → ChecksAt u before names records root fs rec at required
    → length rec.deps ≤ at → ChangesAt (recorded names records) (recorded names new) (enc_task rec.task) (record_of rec)
    → StandsWhole u names records new rec
