-- Listings: paths with the numbers of tasks beside them.
use Rattle.std.specs.Prelude.{◌≡◌, ◌≢◌, ℕ, ◌<◌, ◌≤◌, cond, false, List, [], ◌∷◌, ◌++◌, length, map, Option, Some, None, slice_index_or}
use Rattle.std.specs.Ordering.{is_gt}
use Rattle.std.specs.List.{All, Contains}
use Rattle.pie_base.specs.Path.{same_text}
use Rattle.pie_value.specs.Order.{byte_order}
use Rattle.pie_record.specs.declared.dep.Dep.{Dep}
use Rattle.pie_record.specs.declared.records.Records.{Records}
use Rattle.pie_record.specs.declared.task_record.TaskRecord.{TaskRecord}
use Rattle.pie_record.specs.inner.Records.{record_of}
use Rattle.pie_checks.specs.Records.{missing_in}

-- a path and the number of a task
abbrev pub Entry : Type 0
Entry = List ℕ × ℕ

-- an entry, if there is a path
abbrev pub entry_of : Option (List ℕ) → ℕ → List Entry
entry_of None n = []
entry_of (Some path) n = (path, n) ∷ []

-- what a record says was written
abbrev pub writes_in : Option TaskRecord → ℕ → List Entry
writes_in None n = []
writes_in (Some rec) n = map (λ (w : List ℕ × List ℕ). (w.0, n)) rec.writes

-- what some observations found absent
abbrev pub missing_among : List Dep → ℕ → List Entry
missing_among [] n = []
missing_among (dep ∷ deps) n = entry_of (missing_in dep) n ++ missing_among deps n

-- what a record says was found absent
abbrev pub misses_in : Option TaskRecord → ℕ → List Entry
misses_in None n = []
misses_in (Some rec) n = missing_among rec.deps n

-- what the records of some tasks say was written
abbrev pub all_writes : Records → List ℕ → List Entry
all_writes records [] = []
all_writes records (n ∷ live) = writes_in (record_of records n) n ++ all_writes records live

-- what the records of some tasks say was found absent
abbrev pub all_misses : Records → List ℕ → List Entry
all_misses records [] = []
all_misses records (n ∷ live) = misses_in (record_of records n) n ++ all_misses records live

-- the paths don't fall
abbrev pub IsInOrder : List Entry → Type 0
IsInOrder es = (i j : ℕ) (d : Entry) → i ≤ j → j < length es → is_gt (byte_order (slice_index_or es i d).0 (slice_index_or es j d).0) ≡ false

-- exactly the paths and numbers with a property, in path order
pub record IsListing (P : List ℕ → ℕ → Type 0) (es : List Entry) : Type 0 where
  pub ordered : IsInOrder es
  pub only : (path : List ℕ) (n : ℕ) → Contains es (path, n) → P path n
  pub each : (path : List ℕ) (n : ℕ) → P path n → Contains es (path, n)

-- the numbers are those of tasks
abbrev pub AreNumbered : ℕ → List Entry → Type 0
AreNumbered count es = All (λ e. e.1 < count) es

-- a path stands beside a number
abbrev pub Stands : List Entry → List ℕ → ℕ → Type 0
Stands es path n = Contains es (path, n)

-- the numbers beside a path
abbrev pub numbers_beside : List Entry → List ℕ → List ℕ
numbers_beside [] path = []
numbers_beside (e ∷ es) path = cond (same_text e.0 path) (e.1 ∷ numbers_beside es path) (numbers_beside es path)

-- a path stands beside some number
abbrev pub IsListed : List Entry → List ℕ → Type 0
IsListed es path = (n : ℕ) × Stands es path n

-- a path stands beside two distinct numbers
abbrev pub IsShared : List Entry → List ℕ → Type 0
IsShared es path = (m : ℕ) × (n : ℕ) × Stands es path m × Stands es path n × (m ≢ n)

-- the first path that stands beside two numbers, if there is one
abbrev pub IsFirstShared : List Entry → Option (List ℕ) → Type 0
IsFirstShared es None = (path : List ℕ) → IsShared es path → ⊥
IsFirstShared es (Some path) = IsShared es path × ((other : List ℕ) → IsShared es other → is_gt (byte_order path other) ≡ false)

-- two of these numbers are distinct
abbrev pub HasTwo : List ℕ → Type 0
HasTwo among = (m : ℕ) × (n : ℕ) × Contains among m × Contains among n × (m ≢ n)

-- no path stands beside two numbers
abbrev pub HasOneEach : List Entry → Type 0
HasOneEach es = (path : List ℕ) → IsShared es path → ⊥
