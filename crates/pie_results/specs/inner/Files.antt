-- The files that live tasks wrote in a build.
use Rattle.std.specs.Prelude.{◌≡◌, ℕ, true, List, map, Option, Some, Vec, IfSome, IsSome, IsTrue}
use Rattle.std.specs.List.{All, Contains}
use Rattle.std.specs.List.Sorted.{IsStrictlySortedBy}
use Rattle.std.specs.Ordering.{nat_cmp}
use Rattle.std.specs.Cmp.Lexicographic.{slice_cmp}
use Rattle.std.specs.BTreeMap.{BTreeMap, get}
use Rattle.pie_base.specs.Path.{is_out}
use Rattle.pie_graph.specs.Numbers.{IsMarked}
use Rattle.pie_record.specs.declared.task_record.TaskRecord.{TaskRecord}
use Rattle.pie_record.specs.inner.Records.{record_of}
use Rattle.pie_tables.specs.declared.tables.Tables.{Tables}
use Rattle.pie_view.specs.Content.{Staged, content}
use Rattle.pie_results.specs.inner.Failures.{is_done}

-- the file at a path
abbrev pub file_at : {Z : Type 0} → BTreeMap (List ℕ) (Vec ℕ Z) → List ℕ → Option (Vec ℕ Z)
file_at files path = get (slice_cmp nat_cmp) files path

-- files under `out/` alone
abbrev pub OnlyOut : {Z : Type 0} → BTreeMap (List ℕ) (Vec ℕ Z) → Type 0
OnlyOut files = (path : List ℕ) → IfSome (file_at files path) (λ _. IsTrue (is_out path))

-- the paths of files
abbrev pub paths_in : {Z : Type 0} → List (List ℕ × Vec ℕ Z) → List (List ℕ)
paths_in {Z} files = map (λ (f : List ℕ × Vec ℕ Z). f.0) files

-- files under `out/` in path order, each path once
pub record InPathOrder {Z : Type 0} (files : List (List ℕ × Vec ℕ Z)) : Type 0 where
  pub ascending : IsStrictlySortedBy (slice_cmp nat_cmp) (paths_in files)
  pub out : All (λ (f : List ℕ × Vec ℕ Z). IsTrue (is_out f.0)) files

-- the task with this number ran in this build, is done, and wrote the path
pub record Wrote (t : Tables) (n : ℕ) (path : List ℕ) : Type 0 where
  pub ran : IsMarked t.ran.items n
  pub rec : TaskRecord
  pub kept : record_of t.records n ≡ Some rec
  pub done : is_done rec.outcome ≡ true
  pub hash : List ℕ
  pub wrote : Contains rec.writes (path, hash)

-- a file has what a live task that wrote its path in this build staged there
pub record IsFile (t : Tables) (staged : Staged) (live : List ℕ) (path bytes : List ℕ) : Type 0 where
  pub number : ℕ
  pub is_live : Contains live number
  pub wrote : Wrote t number path
  pub staged_is : content staged number path ≡ Some bytes

-- each file is one of those
abbrev pub AreOfTasks : {Z : Type 0} → Tables → Staged → List ℕ → BTreeMap (List ℕ) (Vec ℕ Z) → Type 0
AreOfTasks {Z} t staged live files = (path : List ℕ) → IfSome (file_at files path) (λ (b : Vec ℕ Z). IsFile t staged live path b.items)

-- at each path with a file there still is one
abbrev pub KeepsPaths : {Z : Type 0} → BTreeMap (List ℕ) (Vec ℕ Z) → BTreeMap (List ℕ) (Vec ℕ Z) → Type 0
KeepsPaths old new = (path : List ℕ) → IsSome (file_at old path) → IsSome (file_at new path)

-- if the task with this number staged something at the path, there is a file
abbrev pub HasStaged : {Z : Type 0} → Staged → ℕ → BTreeMap (List ℕ) (Vec ℕ Z) → List ℕ → Type 0
HasStaged staged n files path = IsSome (content staged n path) → IsSome (file_at files path)

-- so it is at each path that the task wrote in this build
abbrev pub HasWritten : {Z : Type 0} → Tables → Staged → ℕ → BTreeMap (List ℕ) (Vec ℕ Z) → Type 0
HasWritten t staged n files = (path : List ℕ) → Wrote t n path → HasStaged staged n files path

-- files with their contents
abbrev pub contents_in : {Z : Type 0} → List (List ℕ × Vec ℕ Z) → List (List ℕ × List ℕ)
contents_in {Z} files = map (λ (f : List ℕ × Vec ℕ Z). (f.0, f.1.items)) files

-- the files are those that live tasks wrote in this build, and there is one at each path where such a task staged something
pub record AreFiles (t : Tables) (staged : Staged) (live : List ℕ) (files : List (List ℕ × List ℕ)) : Type 0 where
  pub only : (path bytes : List ℕ) → Contains files (path, bytes) → IsFile t staged live path bytes
  pub each : (n : ℕ) (path : List ℕ) → Contains live n → Wrote t n path → IsSome (content staged n path) → (bytes : List ℕ) × Contains files (path, bytes)
