-- The records of tasks that have ended, by height and task.
use Rattle.std.specs.Prelude.{◌≡◌, ◌≢◌, ◌⊎◌, ℕ, ◌<◌, ◌≤◌, Bool, eqb, List, [], ◌∷◌, ◌++◌, length, map, Some, Vec, slice_index_or, IfSome, All, Contains}
use Rattle.std.specs.List.{AllByRecursion, IsDistinct}
use Rattle.std.specs.List.Sorted.{IsStrictlySortedBy}
use Rattle.std.specs.Option.{option_to_list}
use Rattle.std.specs.declared.cmp.Ordering.{Ordering}
use Rattle.std.specs.Ordering.{nat_cmp, ordering_then}
use Rattle.std.specs.Cmp.Lexicographic.{slice_cmp}
use Rattle.pie_value.specs.Canonical.{enc_task}
use Rattle.pie_record.specs.declared.task_record.TaskRecord.{TaskRecord}
use Rattle.pie_record.specs.declared.records.Records.{Records}
use Rattle.pie_record.specs.inner.Records.{record_of}
use Rattle.pie_store.specs.Canonical.{tasks_in, AreInOrder}
use Rattle.pie_fresh.specs.declared.ledger.Ledger.{Ledger}

-- a height and the canonical bytes of a task, with its number
abbrev pub Place : Type 0 → Type 0
Place Z = (ℕ × Vec ℕ Z) × ℕ

-- the lower height comes first, and at one height the bytes decide
abbrev pub place_cmp : {Z : Type 0} → ℕ × Vec ℕ Z → ℕ × Vec ℕ Z → Ordering
place_cmp x y = ordering_then (nat_cmp x.0 y.0) (slice_cmp nat_cmp x.1.items y.1.items)

-- the keys of places
abbrev pub keys_in : {Z : Type 0} → List (Place Z) → List (ℕ × Vec ℕ Z)
keys_in {Z} places = map (λ (p : Place Z). p.0) places

-- the number of a task that has ended, with this record, beside its height and its canonical bytes
pub record IsPlace {Z : Type 0} (l : Ledger) (p : Place Z) (r : TaskRecord) : Type 0 where
  pub done : record_of l.records p.1 ≡ Some r
  pub high : slice_index_or l.heights.items p.1 0 ≡ p.0.0
  pub bytes : p.0.1.items ≡ enc_task r.task

-- a place has this height and these bytes
abbrev pub HasPlace : {Z : Type 0} → ℕ → List ℕ → List (Place Z) → Type 0
HasPlace height bytes [] = ⊥
HasPlace height bytes (p ∷ places) = ((p.0.0 ≡ height) × (p.0.1.items ≡ bytes)) ⊎ HasPlace height bytes places

-- two places have one number
abbrev pub same_number : {Z : Type 0} → Place Z → Place Z → Bool
same_number p q = eqb p.1 q.1

-- the places of the tasks that have ended, of those with numbers below this one, in any order and each once
pub record AreGathered {Z : Type 0} (l : Ledger) (below : ℕ) (places : List (Place Z)) : Type 0 where
  pub distinct : IsDistinct same_number places
  pub low : AllByRecursion (λ (p : Place Z). p.1 < below) places
  pub only : AllByRecursion (λ (p : Place Z). (r : TaskRecord) × IsPlace l p r) places
  pub each : (n : ℕ) → n < below → IfSome (record_of l.records n) (λ r. HasPlace (slice_index_or l.heights.items n 0) (enc_task r.task) places)
  pub few : length places ≤ below

-- the places in order of the tasks that have ended, of those with numbers below this one
pub record ArePlaces {Z : Type 0} (l : Ledger) (below : ℕ) (places : List (Place Z)) : Type 0 where
  pub ascending : IsStrictlySortedBy place_cmp (keys_in places)
  pub only : AllByRecursion (λ (p : Place Z). (r : TaskRecord) × IsPlace l p r) places
  pub each : (n : ℕ) → n < below → IfSome (record_of l.records n) (λ r. HasPlace (slice_index_or l.heights.items n 0) (enc_task r.task) places)
  pub few : length places ≤ below

-- no number comes twice among places
abbrev pub AreApart : {Z : Type 0} → List (Place Z) → Type 0
AreApart [] = Unit {0}
AreApart {Z} (p ∷ places) = AllByRecursion (λ (q : Place Z). p.1 ≢ q.1) places × AreApart places

-- the records at places
abbrev pub recorded : {Z : Type 0} → Records → List (Place Z) → List TaskRecord
recorded rs [] = []
recorded rs (p ∷ places) = option_to_list (record_of rs p.1) ++ recorded rs places

-- the records of all tasks that have ended, in the order of a store
pub record AreOrdered (l : Ledger) (rows : List TaskRecord) : Type 0 where
  pub order : AreInOrder rows
  pub few : length rows ≤ length l.names
  pub named : All (λ (r : TaskRecord). Contains l.names r.task) rows
  pub each : (n : ℕ) → IfSome (record_of l.records n) (λ r. Contains (tasks_in rows) r.task)
