-- How a build by what changed begins, as the model of building knows it.
use Rattle.std.specs.Prelude.{◌≡◌, ℕ, List, [], length, map, Option, Some, slice_get}
use Rattle.pie_value.specs.declared.task.Task.{Task}
use Rattle.pie_value.specs.Canonical.{enc_task, IsCanonicalTask}
use Rattle.pie_files.specs.Directory.{Directory}
use Rattle.pie_record.specs.declared.task_record.TaskRecord.{TaskRecord}
use Rattle.pie_store.specs.Canonical.{tasks_in}
use Rattle.pie_named.specs.inner.Known.{IsTrueOf}
use Rattle.pie_old.specs.inner.Code.{is_same_code}
use Rattle.pie_old.specs.inner.Loaded.{AreTablesOf}
use Rattle.pie_old.specs.inner.Looking.{looks_out}
use Rattle.pie_old.specs.inner.Rows.{AreRowsOf}
use Rattle.pie_walk.specs.declared.marks.Mark.TheVariants.{New}
use Rattle.pie_walk.specs.Marks.{mark_of}
use Rattle.pie_model.specs.Built.{store_rows}
use Rattle.pie_model.specs.Reasons.{SameCode}
use Rattle.pie_model_pipeline.specs.Rows.{record_of}
use Rattle.pie_model_pipeline.specs.World.{world, next}
use Rattle.pie_builder_laws.specs.Names.{AreTasks}
use Rattle.pie_earlier_laws.specs.Functions.{digest_under}
use Rattle.pie_core_laws.specs.Update.{Update, earlier}
use Rattle.pie_core_laws.specs.Joins.{HasNames}
use Rattle.pie_bottomup.specs.declared.state.Core.{Core}
use Rattle.pie_bottomup.specs.declared.state.First.{First}
use Rattle.pie_bottomup.specs.declared.state.First.TheVariants.{Tests, TooMany, Done}
use Rattle.pie_bottomup.specs.inner.Causes.{AreManyOld, HasRunNone}
use Rattle.pie_bottomup.specs.inner.Exact.{IsPlanNow, IsLoadedCore, IsExactCore}

-- ---- what a build begins with

-- the tasks of these records by their numbers, with their rows, and the flags of those that looked under `out`
pub record IsLoadedFrom (kept : List TaskRecord) (c : Core) : Type 0 where
  pub tables : AreTablesOf kept c.tables
  pub rows : AreRowsOf (tasks_in kept) kept c.frames.walk.rows
  pub looks : c.frames.walk.looks_out ≡ map looks_out kept
  pub counted : c.earlier ≡ length c.frames.walk.rows

-- the tasks are distinct, none was met, and nothing is staged
pub record IsUnmet (c : Core) : Type 0 where
  pub tasks : AreTasks c.tables.names
  pub unmet : (n : ℕ) → mark_of c.frames.walk.marks n ≡ New
  pub stage : c.stage ≡ []

-- these names, and what is known of them; and which functions have one digest then and now
pub record IsInformedOf (funcs digests : List (List ℕ × List ℕ)) (changes : List (List ℕ)) (c : Core) : Type 0 where
  pub names : HasNames c.named changes
  pub known : (d : Directory) → IsTrueOf d c.named
  pub same : c.plan.same.items ≡ map (λ (t : Task). is_same_code funcs digests t.func) c.tables.names

-- where there are too many records, the build starts afresh for the first task past the limit
abbrev pub IsPastLimit : List TaskRecord → First → Type 0
IsPastLimit kept Tests = Unit {0}
IsPastLimit kept Done = Unit {0}
IsPastLimit kept (TooMany t) = slice_get (tasks_in kept) 50000 ≡ Some t

-- ---- of an update

-- the rows and the digests of a store are those of an update, and these changes are its names:
-- a task whose function has one digest then and now means the same
pub record IsStoredIn (u : Update) (funcs digests : List (List ℕ × List ℕ)) (kept : List TaskRecord) (changes : List (List ℕ)) : Type 0 where
  pub rows : map record_of kept ≡ store_rows world (earlier u) u.old_roots
  pub names : u.names ≡ changes
  pub meaning : (t : Task) → IsCanonicalTask t (enc_task t) → SameCode (digest_under funcs t.func) (digest_under digests t.func)
      → next u.old_functions (enc_task t) ≡ next u.functions (enc_task t)

-- a build begins with the old tasks of an update, whatever that is
abbrev pub BeginsExact : List (List ℕ × List ℕ) → List (List ℕ × List ℕ) → List TaskRecord → List (List ℕ) → Core → Type 0
BeginsExact funcs digests kept changes c = (u : Update) → IsStoredIn u funcs digests kept changes → c.first ≡ Tests → IsLoadedCore u c

-- where it begins with too many, it tells one of them, and none has run
abbrev pub BeginsMany : List (List ℕ × List ℕ) → List (List ℕ × List ℕ) → List TaskRecord → List (List ℕ) → Core → Type 0
BeginsMany funcs digests kept changes c =
    (u : Update) → IsStoredIn u funcs digests kept changes → (task : Task) → c.first ≡ TooMany task → AreManyOld u task × HasRunNone c.tables

-- and is exact once these were held against what is there, if the files tell that
abbrev pub TestsExact : Option Directory → Core → Core → Type 0
TestsExact held old new = (u : Update) → IsPlanNow u old.plan → held ≡ Some u.directory → IsLoadedCore u old → IsExactCore u new
