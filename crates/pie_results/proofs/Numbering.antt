-- The numbers at the places of all live tasks that are done.
use Rattle.std.proofs.Common.{◌≡◌, ℕ, suc, ◌<◌, List, [], ◌∷◌, length, get_or, Some, None, sym, ap, subst, refl, ◌∙◌, arith, inl, inr}
use Rattle.std.specs.Prelude.{All, Contains, Option, Vec, IfSome, slice_get}
use Rattle.std.specs.List.{AllByRecursion}
use Rattle.std.specs.List.Sorted.{IsStrictlySortedBy}
use Rattle.std.specs.declared.cmp.Ordering.TheVariants.{Less}
use Rattle.std.proofs.lemmas.Bool.{cases_lt}
use Rattle.std.proofs.lemmas.List.{length-map}
use Rattle.std.proofs.lemmas.Option.{slice_get_within, get_or_from_slice_get}
use Rattle.pie_value.specs.declared.task.Task.{Task}
use Rattle.pie_value.specs.Canonical.{enc_task, IsCanonicalTask}
use Rattle.pie_record.specs.declared.records.Records.{Records}
use Rattle.pie_record.specs.declared.task_record.TaskRecord.{TaskRecord}
use Rattle.pie_record.specs.inner.Names.{AreDistinct}
use Rattle.pie_record.specs.inner.Records.{record_of}
use Rattle.pie_record.proofs.Naming.{bytes_tell}
use Rattle.pie_tables.specs.declared.tables.Tables.{Tables}
use Rattle.pie_tables.specs.Tabled.{IsTables}
use Rattle.pie_results.specs.inner.Ordered.{Place, place_cmp, keys_in, numbers_in, IsPlace, HasPlace, IsPlaced, ArePlaces, key_cmp, bytes_in, key_of, number_cmp, IsDoneAt, IsAmong, AreOrdered}
use Rattle.pie_results.proofs.Ordering.{record_there}

abbrev IsTold : Task → Type 0
IsTold t = IsCanonicalTask t (enc_task t)

-- ---- each task has its number

-- a task has one place among distinct ones
pub same_place : (tasks : List Task) (i j : ℕ) (t : Task) → AreDistinct tasks → slice_get tasks i ≡ Some t → slice_get tasks j ≡ Some t → i ≡ j
same_place tasks i j t distinct e f =
    let at : get_or tasks i t ≡ t = get_or_from_slice_get tasks i t t e in
    let there : get_or tasks j t ≡ t = get_or_from_slice_get tasks j t t f in
    let m : i < length tasks = slice_get_within tasks i t e in
    let n : j < length tasks = slice_get_within tasks j t f in
    elim (cases_lt i j) [
      | inl lt ↦ absurd (distinct i j t lt n (at ∙ sym there))
      | inr ge ↦ elim (cases_lt j i) [
        | inl lt ↦ absurd (distinct j i t lt m (there ∙ sym at))
        | inr le ↦ omega (arith, ge, le)
      ]
    ]

told_at : (names : List Task) (n : ℕ) (t : Task) → All IsTold names → slice_get names n ≡ Some t → IsTold t
told_at names n t all e = subst IsTold (get_or_from_slice_get names n t t e) (all n t (slice_get_within names n t e))

-- a place with the bytes of a task has its number
same_number : {Z : Type 0} (t : Tables) (heights live : List ℕ) (n : ℕ) (r s : TaskRecord) (p : Place Z) → IsTables t → AreDistinct t.names → All IsTold t.names
    → record_of t.records n ≡ Some r → IsPlace t.records heights live p s → p.0.1.items ≡ enc_task r.task → p.1 ≡ n
same_number t heights live n r s p is distinct told found at bytes =
    let here : slice_get t.names n ≡ Some r.task = (record_there t n r is found).named in
    let there : slice_get t.names p.1 ≡ Some s.task = (record_there t p.1 s is at.found).named in
    let same : s.task ≡ r.task =
    bytes_tell s.task r.task (told_at t.names p.1 s.task told there) (told_at t.names n r.task told here) (sym at.bytes ∙ bytes) in
    same_place t.names p.1 n r.task distinct (there ∙ ap Some same) here

place_number : {Z : Type 0} (t : Tables) (heights live : List ℕ) (n height : ℕ) (r : TaskRecord) (es : List (Place Z)) → IsTables t → AreDistinct t.names
    → All IsTold t.names → record_of t.records n ≡ Some r → AllByRecursion (λ (p : Place Z). (s : TaskRecord) × IsPlace t.records heights live p s) es
    → HasPlace height (enc_task r.task) es → Contains (numbers_in es) n
place_number t heights live n height r [] is distinct told found all has = elim has [ ]
place_number t heights live n height r (p ∷ es) is distinct told found all (inl at) =
    (0, omega arith, same_number t heights live n r all.0.0 p is distinct told found all.0.1 at.1)
place_number t heights live n height r (p ∷ es) is distinct told found all (inr more) =
    let m = place_number t heights live n height r es is distinct told found all.1 more in (suc m.0, omega (arith, m.1), m.2)

-- ---- the order

module _ (records : Records) (heights live : List ℕ) where
  abbrev HaveRecords : {Z : Type 0} → List (Place Z) → Type 0
  HaveRecords {Z} es = AllByRecursion (λ (p : Place Z). (r : TaskRecord) × IsPlace records heights live p r) es

  key_is : {Z : Type 0} (p : Place Z) (r : TaskRecord) → IsPlace records heights live p r → (p.0.0, p.0.1.items) ≡ key_of records heights p.1
  key_is p r at = λ i. (sym at.high i, (at.bytes ∙ sym (ap bytes_in at.found)) i)

  all_before : {Z : Type 0} (p : Place Z) (r : TaskRecord) (es : List (Place Z)) → IsPlace records heights live p r → HaveRecords es
      → AllByRecursion (λ (y : ℕ × Vec ℕ Z). place_cmp p.0 y ≡ Less) (keys_in es)
      → AllByRecursion (λ (m : ℕ). number_cmp records heights p.1 m ≡ Less) (numbers_in es)
  all_before p r [] at all less = tt
  all_before p r (q ∷ es) at all less =
      ((λ i. key_cmp (sym (key_is p r at) i) (sym (key_is q all.0.0 all.0.1) i)) ∙ less.0, all_before p r es at all.1 less.1)

  numbers_ascend : {Z : Type 0} (es : List (Place Z)) → HaveRecords es → IsStrictlySortedBy place_cmp (keys_in es)
      → IsStrictlySortedBy (number_cmp records heights) (numbers_in es)
  unfolding IsStrictlySortedBy
  numbers_ascend [] all asc = tt
  numbers_ascend (p ∷ es) all asc = (all_before p all.0.0 es all.0.1 all.1 asc.0, numbers_ascend es all.1 asc.1)

  numbers_done : {Z : Type 0} (es : List (Place Z)) → HaveRecords es
      → AllByRecursion (λ (n : ℕ). (r : TaskRecord) × IsDoneAt records live n r) (numbers_in es)
  numbers_done [] all = tt
  numbers_done (p ∷ es) all =
      let at = all.0.1 in ((all.0.0, record { is_live = at.is_live; found = at.found; done = at.done }), numbers_done es all.1)

-- ---- all of it

among_at : {Z : Type 0} (t : Tables) (heights live : List ℕ) (n : ℕ) (es : List (Place Z)) (o : Option TaskRecord) → IsTables t → AreDistinct t.names
    → All IsTold t.names → record_of t.records n ≡ o → AllByRecursion (λ (p : Place Z). (s : TaskRecord) × IsPlace t.records heights live p s) es
    → IfSome o (IsPlaced heights es n) → IfSome o (IsAmong (numbers_in es) n)
among_at t heights live n es None is distinct told found all placed = tt
among_at t heights live n es (Some r) is distinct told found all placed =
    λ done. place_number t heights live n (get_or heights n 0) r es is distinct told found all (placed done)

pub places_ordered : {Z : Type 0} (t : Tables) (heights live : List ℕ) (es : List (Place Z)) (nos : List ℕ) → IsTables t → AreDistinct t.names
    → All IsTold t.names → ArePlaces t.records heights live live es → nos ≡ numbers_in es → AreOrdered t.records heights live live nos
places_ordered {Z} t heights live es nos is distinct told a e =
    subst (AreOrdered t.records heights live live) (sym e) (record {
      few = let size = length-map es (λ (p : Place Z). p.1) in omega (arith, size, a.few);
      ascending = numbers_ascend t.records heights live es a.only a.ascending;
      only = numbers_done t.records heights live es a.only;
      each = λ n c. among_at t heights live n es (record_of t.records n) is distinct told refl a.only (a.each n c);
    })
