-- The result of a build.
use Rattle.std.specs.Prelude.{◌≡◌, ℕ, ◌≤◌, List, [], ◌++◌, length, map, All, Contains, IsTrue, IfSome, Vec}
use Rattle.std.specs.List.Sorted.{IsStrictlySortedBy}
use Rattle.std.specs.Ordering.{nat_cmp}
use Rattle.std.specs.Cmp.Lexicographic.{slice_cmp}
use Rattle.std.specs.BTreeMap.{BTreeMap, get}
use Rattle.pie_base.specs.Path.{is_out}
use Rattle.pie_value.specs.declared.task.Task.{Task}
use Rattle.pie_value.specs.Canonical.{IsEncodableTask}
use Rattle.pie_value.specs.declared.verdict.Verdict.{Verdict}
use Rattle.pie_value.specs.declared.verdict.Verdict.TheVariants.{Accepted, Refused}
use Rattle.pie_record.specs.declared.task_record.TaskRecord.{TaskRecord}
use Rattle.pie_record.specs.Canonical.{IsStorable}
use Rattle.pie_parser.specs.FunctionTrees.{FunctionTree}
use Rattle.pie_store.specs.Canonical.{AreInOrder, tasks_in}
use Rattle.pie_digest.specs.Digests.{function_names}
use Rattle.pie_checks.specs.declared.built.Built.{Built}

-- so many tasks at most were started after those that were
pub record Gains (most : ℕ) (old new : List Task) : Type 0 where
  pub gained : List Task
  pub is : new ≡ old ++ gained
  pub few : length gained ≤ most
  pub encodable : All IsEncodableTask gained

-- all lists are empty
pub record MakesNothing (b : Built) : Type 0 where
  pub rows : b.rows.items ≡ []
  pub files : b.files.items ≡ []
  pub outputs : b.outputs.items ≡ []

-- where this verdict refuses, all lists are empty
abbrev pub NothingWhere : Verdict → Built → Type 0
NothingWhere Accepted b = Unit {0}
NothingWhere (Refused r) b = MakesNothing b

-- files under `out/` alone
abbrev pub OnlyOut : {Z : Type 0} → BTreeMap (List ℕ) (Vec ℕ Z) → Type 0
OnlyOut files = (path : List ℕ) → IfSome (get (slice_cmp nat_cmp) files path) (λ _. IsTrue (is_out path))

-- the paths of files
abbrev pub paths_in : {Z : Type 0} → List (List ℕ × Vec ℕ Z) → List (List ℕ)
paths_in {Z} files = map (λ (f : List ℕ × Vec ℕ Z). f.0) files

-- files under `out/` in path order, each path once
pub record InPathOrder {Z : Type 0} (files : List (List ℕ × Vec ℕ Z)) : Type 0 where
  pub ascending : IsStrictlySortedBy (slice_cmp nat_cmp) (paths_in files)
  pub out : All (λ (f : List ℕ × Vec ℕ Z). IsTrue (is_out f.0)) files

-- a build that is refused makes nothing
abbrev pub IsEmptyWhereRefused : Built → Type 0
IsEmptyWhereRefused b = NothingWhere b.verdict b

-- each record of an accepted build can be stored, and its files lie under `out/` in path order
pub record IsKept (b : Built) : Type 0 where
  pub rows : All IsStorable b.rows.items
  pub files : InPathOrder b.files.items

-- the records of a build stand in the order of a store, few enough; each is of a function of the pipeline, and each root has one
pub record IsStored (fs : List FunctionTree) (asked : List Task) (b : Built) : Type 0 where
  pub order : AreInOrder b.rows.items
  pub few : length b.rows.items ≤ 50000
  pub known : All (λ (r : TaskRecord). Contains (function_names fs) r.task.func) b.rows.items
  pub roots : All IsEncodableTask asked
  pub closed : All (λ (t : Task). Contains (tasks_in b.rows.items) t) asked

-- the records of an accepted build can stand in a store with these roots
abbrev pub StoredWhere : Verdict → List FunctionTree → List Task → Built → Type 0
StoredWhere Accepted fs roots b = IsStored fs roots b
StoredWhere (Refused r) fs roots b = Unit {0}

-- the records of an accepted build of these tasks can stand in a store, where each of the tasks is of a function
abbrev pub IsStoredOf : List Task → List Task → Built → Type 0
IsStoredOf tasks roots b =
    (fs : List FunctionTree) → All (λ (t : Task). Contains (function_names fs) t.func) tasks → StoredWhere b.verdict fs roots b
