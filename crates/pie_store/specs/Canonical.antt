-- The bytes of a store.
use Rattle.std.specs.Prelude.{◌≡◌, ◌≢◌, ◌⊎◌, ℕ, ◌+◌, ◌<◌, ◌^◌, ◌==◌, Bool, ◌&&◌, ◌||◌, List, [], ◌∷◌, ◌++◌, length, map, take, max, nat_lt, Option, Some, None}
use Rattle.std.specs.Prelude.{IsTrue}
use Rattle.std.specs.Prelude.{All, Contains, slice_index_or}
use Rattle.std.specs.List.{AllPairs, flat_map}
use Rattle.std.specs.declared.cmp.Ordering.TheVariants.{Less}
use Rattle.std.specs.Ordering.{nat_cmp, is_lt}
use Rattle.std.specs.Cmp.Lexicographic.{slice_cmp}
use Rattle.sha2.specs.Sha256.{sha256}
use Rattle.pie_value.specs.declared.task.Task.{Task}
use Rattle.pie_value.specs.Canonical.{counted, enc_task, IsEncodableTask}
use Rattle.pie_value.specs.Order.{byte_order}
use Rattle.pie_record.specs.declared.dep.Dep.{Dep}
use Rattle.pie_record.specs.declared.dep.DepOn.{DepOn}
use Rattle.pie_record.specs.declared.dep.DepOn.TheVariants.{File, Called}
use Rattle.pie_record.specs.declared.task_record.TaskRecord.{TaskRecord}
use Rattle.pie_record.specs.Canonical.{listed, enc_record, IsStorable}
use Rattle.pie_store.specs.declared.image.StoreImage.{StoreImage}
use Rattle.pie_store.specs.Frame.{magic}

-- the bytes of a function: its name behind its length, and its digest
unfoldable pub enc_func : List ℕ × List ℕ → List ℕ
enc_func f = counted f.0 ++ f.1

-- the digest of the pipeline, or the table of functions
abbrev pub enc_head : Option (List ℕ) → List (List ℕ × List ℕ) → List ℕ
enc_head (Some digest) funcs = digest
enc_head None funcs = listed enc_func funcs

-- all bytes of a store but its digest
abbrev pub enc_body : StoreImage → List ℕ
enc_body s = magic ++ (s.version ∷ (enc_head s.pipeline s.funcs ++ (listed enc_task s.roots ++ listed enc_record s.rows)))

-- the bytes of a store
abbrev pub enc_store : StoreImage → List ℕ
enc_store s = enc_body s ++ sha256 (enc_body s)

-- one name comes before another: a shorter one does, and at one length the bytes decide
abbrev pub name_before : List ℕ → List ℕ → Bool
name_before a b = nat_lt (length a) (length b) || (length a == length b && is_lt (slice_cmp nat_cmp a b))

-- the names of the functions of a table
abbrev pub names_of : List (List ℕ × List ℕ) → List (List ℕ)
names_of funcs = map (λ (f : List ℕ × List ℕ). f.0) funcs

-- the tasks of records
abbrev pub tasks_in : List TaskRecord → List Task
tasks_in rows = map (λ (r : TaskRecord). r.task) rows

-- the task that an observation requires, if it is one of a task
abbrev pub required_on : DepOn → List Task
required_on (File path) = []
required_on (Called task) = task ∷ []

-- the tasks that a record requires
abbrev pub needs : TaskRecord → List Task
needs r = flat_map (λ (d : Dep). required_on d.what) r.deps

-- at least so much, and above the heights of some tasks
abbrev pub over : (Task → ℕ) → List Task → ℕ → ℕ
over height [] n = n
over height (t ∷ ts) n = over height ts (max n (height t + 1))

-- one record comes before another: at a lower height, and at one height by the canonical bytes of its task
abbrev pub RowBefore : (Task → ℕ) → TaskRecord → TaskRecord → Type 0
RowBefore height r s =
    (height r.task < height s.task) ⊎ ((height r.task ≡ height s.task) × (byte_order (enc_task r.task) (enc_task s.task) ≡ Less))

-- the order of records: a task's height is 0 where it requires none, else one more than the greatest height of the tasks that it requires
pub record AreInOrder (rows : List TaskRecord) : Type 0 where
  pub height : Task → ℕ
  pub heights : All (λ (r : TaskRecord). height r.task ≡ over height (needs r) 0) rows
  pub once : AllPairs (λ (r s : TaskRecord). r.task ≢ s.task) rows
  pub earlier : (i : ℕ) (d : TaskRecord) → i < length rows → All (λ (t : Task). Contains (tasks_in (take i rows)) t) (needs (slice_index_or rows i d))
  pub ascending : AllPairs (RowBefore height) rows

-- functions in the order of their names, each name once
pub record AreFuncs (funcs : List (List ℕ × List ℕ)) : Type 0 where
  pub few : length funcs < 2 ^ 32
  pub short : All (λ (f : List ℕ × List ℕ). length f.0 < 2 ^ 32) funcs
  pub ascending : AllPairs (λ (f g : List ℕ × List ℕ). IsTrue (name_before f.0 g.0)) funcs

-- what can be stored: functions, roots and records as they may stand, in version 2
pub record IsStorableStore (s : StoreImage) : Type 0 where
  pub version : s.version ≡ 2
  pub table : s.pipeline ≡ None
  pub funcs : AreFuncs s.funcs
  pub few_roots : length s.roots < 2 ^ 32
  pub roots : All IsEncodableTask s.roots
  pub few_rows : length s.rows < 2 ^ 32
  pub rows : All IsStorable s.rows
  pub order : AreInOrder s.rows
  pub known : All (λ (r : TaskRecord). Contains (names_of s.funcs) r.task.func) s.rows
  pub closed : All (λ (t : Task). Contains (tasks_in s.rows) t) s.roots
