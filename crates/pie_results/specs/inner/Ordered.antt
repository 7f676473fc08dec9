-- The records of live tasks, by height and task.
use Rattle.std.specs.Prelude.{◌≡◌, ◌≢◌, ◌⊎◌, ℕ, ◌≤◌, List, [], ◌∷◌, ◌++◌, length, map, Bool, cond, Option, None, Some, Vec, slice_get, slice_index_or, IfSome, true}
use Rattle.std.specs.List.{All, AllByRecursion, AllPairs, Contains}
use Rattle.std.specs.List.Sorted.{IsStrictlySortedBy}
use Rattle.std.specs.Option.{option_to_list}
use Rattle.std.specs.declared.cmp.Ordering.{Ordering}
use Rattle.std.specs.Ordering.{nat_cmp, ordering_then, is_lt}
use Rattle.std.specs.Cmp.Lexicographic.{slice_cmp}
use Rattle.pie_value.specs.declared.task.Task.{Task}
use Rattle.pie_value.specs.Canonical.{enc_task}
use Rattle.pie_record.specs.declared.records.Records.{Records}
use Rattle.pie_record.specs.declared.task_record.TaskRecord.{TaskRecord}
use Rattle.pie_record.specs.inner.Records.{record_of}
use Rattle.pie_store.specs.Canonical.{RowBefore}
use Rattle.pie_results.specs.inner.Failures.{is_done}

-- a height and the canonical bytes of a task, with its number
abbrev pub Place : Type 0 → Type 0
Place Z = (ℕ × Vec ℕ Z) × ℕ

-- the lower height comes first, and at one height the bytes decide
abbrev pub place_cmp : {Z : Type 0} → ℕ × Vec ℕ Z → ℕ × Vec ℕ Z → Ordering
place_cmp x y = ordering_then (nat_cmp x.0 y.0) (slice_cmp nat_cmp x.1.items y.1.items)

-- the keys of places
abbrev pub keys_in : {Z : Type 0} → List (Place Z) → List (ℕ × Vec ℕ Z)
keys_in {Z} places = map (λ (p : Place Z). p.0) places

-- the number of a live task that is done, with this record, beside its height and its canonical bytes
pub record IsPlace {Z : Type 0} (records : Records) (heights live : List ℕ) (p : Place Z) (r : TaskRecord) : Type 0 where
  pub is_live : Contains live p.1
  pub found : record_of records p.1 ≡ Some r
  pub done : is_done r.outcome ≡ true
  pub high : slice_index_or heights p.1 0 ≡ p.0.0
  pub bytes : p.0.1.items ≡ enc_task r.task

-- a place has this height and these bytes
abbrev pub HasPlace : {Z : Type 0} → ℕ → List ℕ → List (Place Z) → Type 0
HasPlace height bytes [] = ⊥
HasPlace height bytes (p ∷ places) = ((p.0.0 ≡ height) × (p.0.1.items ≡ bytes)) ⊎ HasPlace height bytes places

-- a record of a task that is done has a place
abbrev pub IsPlaced : {Z : Type 0} → List ℕ → List (Place Z) → ℕ → TaskRecord → Type 0
IsPlaced heights places n r = is_done r.outcome ≡ true → HasPlace (slice_index_or heights n 0) (enc_task r.task) places

-- the places in order of live tasks that are done, and of each of some of them
pub record ArePlaces {Z : Type 0} (records : Records) (heights live seen : List ℕ) (places : List (Place Z)) : Type 0 where
  pub few : length places ≤ length seen
  pub ascending : IsStrictlySortedBy place_cmp (keys_in places)
  pub only : AllByRecursion (λ (p : Place Z). (r : TaskRecord) × IsPlace records heights live p r) places
  pub each : (n : ℕ) → Contains seen n → IfSome (record_of records n) (IsPlaced heights places n)

-- the numbers at places
abbrev pub numbers_in : {Z : Type 0} → List (Place Z) → List ℕ
numbers_in {Z} places = map (λ (p : Place Z). p.1) places

-- the lower height comes first, and at one height the canonical bytes decide
abbrev pub key_cmp : ℕ × List ℕ → ℕ × List ℕ → Ordering
key_cmp x y = ordering_then (nat_cmp x.0 y.0) (slice_cmp nat_cmp x.1 y.1)

-- a key comes after the last one, if there is one
abbrev pub follows : Option (ℕ × List ℕ) → ℕ × List ℕ → Bool
follows None key = true
follows (Some last) key = is_lt (key_cmp last key)

-- the record of a task that is done
abbrev pub done_in : Option TaskRecord → Option TaskRecord
done_in None = None
done_in (Some r) = cond (is_done r.outcome) (Some r) None

-- the canonical bytes of the task of a record
abbrev pub bytes_in : Option TaskRecord → List ℕ
bytes_in None = []
bytes_in (Some r) = enc_task r.task

-- the height of a numbered task and its canonical bytes
abbrev pub key_of : Records → List ℕ → ℕ → ℕ × List ℕ
key_of records heights n = (slice_index_or heights n 0, bytes_in (record_of records n))

-- the order of numbered tasks: by height and canonical bytes
abbrev pub number_cmp : Records → List ℕ → ℕ → ℕ → Ordering
number_cmp records heights n m = key_cmp (key_of records heights n) (key_of records heights m)

-- the number of a live task that is done, with this record
pub record IsDoneAt (records : Records) (live : List ℕ) (n : ℕ) (r : TaskRecord) : Type 0 where
  pub is_live : Contains live n
  pub found : record_of records n ≡ Some r
  pub done : is_done r.outcome ≡ true

-- a task that is done has its number among these
abbrev pub IsAmong : List ℕ → ℕ → TaskRecord → Type 0
IsAmong nos n r = is_done r.outcome ≡ true → Contains nos n

-- the numbers in order of live tasks that are done, with each of some of them
pub record AreOrdered (records : Records) (heights live seen nos : List ℕ) : Type 0 where
  pub few : length nos ≤ length seen
  pub ascending : IsStrictlySortedBy (number_cmp records heights) nos
  pub only : AllByRecursion (λ (n : ℕ). (r : TaskRecord) × IsDoneAt records live n r) nos
  pub each : (n : ℕ) → Contains seen n → IfSome (record_of records n) (IsAmong nos n)

-- no number comes twice
abbrev pub AreApart : List ℕ → Type 0
AreApart [] = Unit {0}
AreApart (n ∷ nos) = AllByRecursion (λ (m : ℕ). n ≢ m) nos × AreApart nos

-- the records of numbered tasks
abbrev pub recorded : Records → List ℕ → List TaskRecord
recorded records [] = []
recorded records (n ∷ nos) = option_to_list (record_of records n) ++ recorded records nos

-- the height of a task is that of its number
abbrev pub HasHeights : List Task → List ℕ → (Task → ℕ) → Type 0
HasHeights names heights height = (n : ℕ) (t : Task) → slice_get names n ≡ Some t → height t ≡ slice_index_or heights n 0

-- a record of a live task that is done
pub record IsOfLive (records : Records) (live : List ℕ) (r : TaskRecord) : Type 0 where
  pub number : ℕ
  pub is_live : Contains live number
  pub found : record_of records number ≡ Some r
  pub done : is_done r.outcome ≡ true

-- the records of live tasks that are done, by height and canonical bytes
pub record AreRecords (names : List Task) (records : Records) (heights live : List ℕ) (kept : List TaskRecord) : Type 0 where
  pub few : length kept ≤ length live
  pub only : All (IsOfLive records live) kept
  pub each : (n : ℕ) (r : TaskRecord) → Contains live n → record_of records n ≡ Some r → is_done r.outcome ≡ true → Contains kept r
  pub ascending : (height : Task → ℕ) → HasHeights names heights height → AllPairs (RowBefore height) kept
