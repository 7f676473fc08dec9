-- What the calls that load an earlier build and compare a record with the one before it say, in the words of the laws.
use Rattle.std.specs.Prelude.{◌≡◌, ◌||◌, ℕ, true, false, cond, List, [], ◌∷◌, ◌++◌, map, All}
use Rattle.std.specs.List.{list_any}
use Rattle.std.specs.Ordering.{nat_cmp, is_eq}
use Rattle.std.specs.Cmp.Lexicographic.{slice_cmp}
use Rattle.pie_base.specs.Path.{is_below}
use Rattle.pie_value.specs.declared.task.Task.{Task}
use Rattle.pie_record.specs.declared.task_record.TaskRecord.{TaskRecord}
use Rattle.pie_record.specs.Canonical.{IsStorable}
use Rattle.pie_store.specs.Canonical.{tasks_in}
use Rattle.pie_tables.specs.declared.tables.Tables.{Tables}
use Rattle.pie_named.specs.declared.named.Named.{Named}
use Rattle.pie_named.specs.inner.Names.{is_named, is_above}
use Rattle.pie_walk.specs.declared.marks.Mark.TheVariants.{New}
use Rattle.pie_walk.specs.Marks.{mark_of}
use Rattle.pie_walk.specs.States.{WalkState}
use Rattle.pie_old.specs.inner.Code.{is_same_code}
use Rattle.pie_old.specs.inner.Loaded.{AreTablesOf}
use Rattle.pie_old.specs.inner.Looking.{looks_out}
use Rattle.pie_old.specs.inner.Rows.{AreRowsOf}
use Rattle.pie_model.specs.Paths.{Path, among}
use Rattle.pie_model.specs.Built.{store_rows}
use Rattle.pie_model.specs.Reasons.{SameCode}
use Rattle.pie_model.specs.inner.Steps.{SameShape}
use Rattle.pie_model_pipeline.specs.Rows.{record_of}
use Rattle.pie_model_pipeline.specs.World.{world}
use Rattle.pie_builder_laws.specs.Names.{AreTasks, called_in}
use Rattle.pie_builder_laws.specs.Views.{AreNumbersOf}
use Rattle.pie_earlier_laws.specs.Functions.{digest_under}
use Rattle.pie_core_laws.specs.Update.{Update, earlier}
use Rattle.pie_core_laws.specs.Beginning.{IsLoaded}

-- ---- the earlier build

-- the rows of its store, loaded by numbers into a walk where no task was met
pub record AreLoaded (u : Update) (kept : List TaskRecord) (t : Tables) (s : WalkState) : Type 0 where
  pub stored : map record_of kept ≡ store_rows world (earlier u) u.old_roots
  pub storable : All IsStorable kept
  pub tables : AreTablesOf kept t
  pub tasks : AreTasks t.names
  pub rows : AreRowsOf (tasks_in kept) kept s.rows
  pub looks : s.looks_out ≡ map looks_out kept
  pub unmet : (n : ℕ) → mark_of s.marks n ≡ New

-- are the tasks of the earlier build
abbrev pub LoadedTablesBegin : Type 0
LoadedTablesBegin = (u : Update) (kept : List TaskRecord) (t : Tables) (s : WalkState) → AreLoaded u kept t s → IsLoaded u t.names t.records s

-- ---- names

-- exactly these are named, and the directories above them
pub record HasNames (n : Named) (paths : List Path) : Type 0 where
  pub names : (p : Path) → is_named n p ≡ among p paths
  pub above : (p : Path) → is_above n p ≡ list_any (is_below p) paths

-- at first none, and one more for each call
abbrev pub NamesBegin : Type 0
NamesBegin = (n : Named) → ((p : Path) → is_named n p ≡ false) → ((p : Path) → is_above n p ≡ false) → HasNames n []

abbrev pub NamesGrow : Type 0
NamesGrow =
    (old new : Named) (names : List Path) (path : Path) → HasNames old names
    → ((p : Path) → is_named new p ≡ cond (is_eq (slice_cmp nat_cmp path p)) true (is_named old p))
    → ((p : Path) → is_above new p ≡ (is_below p path || is_above old p)) → HasNames new (names ++ path ∷ [])

-- ---- functions

-- a function has one digest in two lists where its code is the same
abbrev pub SameCodesAreSame : Type 0
SameCodesAreSame =
    (old now : List (List ℕ × List ℕ)) (name : List ℕ) → is_same_code old now name ≡ true → SameCode (digest_under old name) (digest_under now name)

-- and none where it isn't
abbrev pub OtherCodesAreNot : Type 0
OtherCodesAreNot =
    (old now : List (List ℕ × List ℕ)) (name : List ℕ) → is_same_code old now name ≡ false → SameCode (digest_under old name) (digest_under now name) → ⊥

-- ---- a record and the one before it

-- the same numbers of required tasks and the same writes are one shape
abbrev pub SameNumbersAreOneShape : Type 0
SameNumbersAreOneShape =
    (names : List Task) (needs : List ℕ) (old new : TaskRecord) → AreNumbersOf names needs (called_in old.deps)
    → AreNumbersOf names needs (called_in new.deps) → old.writes ≡ new.writes → SameShape (record_of old) (record_of new)
