-- One place more, and places in order.
use Rattle.std.proofs.Common.{◌≡◌, ℕ, ◌+◌, ◌<◌, false, eqb, List, [], ◌∷◌, ◌++◌, get_or, Some, None, sym, ap, subst, refl, ◌∙◌, arith, inl, inr}
use Rattle.std.proofs.Common.{IsPermutation, IsSortedBy, rules}
use Rattle.std.specs.Prelude.{Option, Vec, IfSome, slice_get}
use Rattle.std.specs.List.{IsDistinct}
use Rattle.std.specs.declared.cmp.Ordering.{Ordering}
use Rattle.std.specs.declared.cmp.Ordering.TheVariants.{Less, Equal, Greater}
use Rattle.std.specs.Ordering.{nat_cmp, is_lt, ordering_then}
use Rattle.std.specs.Cmp.Lexicographic.{slice_cmp}
use Rattle.std.proofs.lemmas.Bool.{cases_lt}
use Rattle.std.proofs.lemmas.List.{length_push}
use Rattle.std.proofs.lemmas.List.Sorted.{length_permutation}
use Rattle.std.proofs.lemmas.Map.Lookups.{exact_unsigned, exact_bytes}
use Rattle.pie_value.specs.Canonical.{enc_task, IsCanonicalTask}
use Rattle.pie_value.specs.declared.task.Task.{Task}
use Rattle.pie_record.specs.declared.task_record.TaskRecord.{TaskRecord}
use Rattle.pie_record.specs.inner.Records.{record_of}
use Rattle.pie_record.proofs.Naming.{bytes_tell}
use Rattle.pie_builder_laws.specs.Names.{AreTasks}
use Rattle.pie_builder_laws.proofs.Naming.{one_place}
use Rattle.pie_fresh.specs.declared.ledger.Ledger.{Ledger}
use Rattle.pie_fresh.specs.inner.Ledgers.{IsLedger, IsRecorded}
use Rattle.pie_fresh.specs.inner.Ordered.{Place, place_cmp, IsPlace, HasPlace, same_number, AreGathered, ArePlaces}
use Rattle.pie_fresh.proofs.Ordering.{recorded_at, told_at}
use Rattle.pie_fresh.proofs.Sorting.{sorted_ascend, all_sorted, has_sorted, all_push, all_weaker, distinct_push, has_kept, has_last}

-- the canonical bytes of a numbered task are those of the task of its record
pub bytes_of_record : (l : Ledger) (n : ℕ) (r : TaskRecord) (bytes : List ℕ) → IsLedger l → record_of l.records n ≡ Some r
    → IfSome (slice_get l.names n) (λ t. IsCanonicalTask t bytes) → bytes ≡ enc_task r.task
bytes_of_record l n r bytes ledger found told =
    let named : slice_get l.names n ≡ Some r.task = (subst (λ (o : Option TaskRecord). IfSome o (IsRecorded l n)) found (ledger.recorded n)).named in
    (subst (λ (o : Option Task). IfSome o (λ t. IsCanonicalTask t bytes)) named told).bytes

-- equal keys have one height and the same bytes
pub key_exact : {Z : Type 0} (x y : ℕ × Vec ℕ Z) → place_cmp x y ≡ Equal → (x.0 ≡ y.0) × (x.1.items ≡ y.1.items)
key_exact {Z} x y e = by (nat_cmp x.0 y.0) refl e
  where
    by : (o : Ordering) → nat_cmp x.0 y.0 ≡ o → ordering_then o (slice_cmp nat_cmp x.1.items y.1.items) ≡ Equal → (x.0 ≡ y.0) × (x.1.items ≡ y.1.items)
    by Less o h = absurd (cc)
    by Equal o h = (exact_unsigned x.0 y.0 o, exact_bytes x.1.items y.1.items h)
    by Greater o h = absurd (cc)

-- no places are those of no tasks
pub gathered_none : {Z : Type 0} (l : Ledger) (places : List (Place Z)) → places ≡ [] → AreGathered l 0 places
unfolding IsDistinct
gathered_none l places none =
    subst (AreGathered l 0) (sym none) (record { distinct = tt; low = tt; only = tt; each = λ n low. absurd (omega (arith, low)); few = omega arith })

-- a task without a record has no place
pub placed_none : {Z : Type 0} (l : Ledger) (n : ℕ) (es : List (Place Z)) → record_of l.records n ≡ None → AreGathered l n es → AreGathered l (n + 1) es
placed_none {Z} l n es free a = record {
  distinct = a.distinct;
  low = all_weaker (λ (p : Place Z). p.1 < n) (λ (p : Place Z). p.1 < n + 1) (λ p low. omega (arith, low)) es a.low;
  only = a.only;
  each = λ k lt. elim (cases_lt k n) [
    | inl below ↦ a.each k below
    | inr at ↦
        let same : n ≡ k = omega (arith, lt, at) in
        subst (λ j. IfSome (record_of l.records j) (λ r. HasPlace (get_or l.heights.items j 0) (enc_task r.task) es)) same
        (subst (λ o. IfSome o (λ r. HasPlace (get_or l.heights.items n 0) (enc_task r.task) es)) (sym free) tt)
  ];
  few = omega (arith, a.few);
}

lower_apart : (k n : ℕ) → k < n → eqb k n ≡ false
lower_apart k n low = search (rules, arith)

kept_at : {Z : Type 0} (l : Ledger) (k : ℕ) (o : Option TaskRecord) (es fs : List (Place Z))
    → ((height : ℕ) (bytes : List ℕ) → HasPlace height bytes es → HasPlace height bytes fs)
    → IfSome o (λ r. HasPlace (get_or l.heights.items k 0) (enc_task r.task) es) → IfSome o (λ r. HasPlace (get_or l.heights.items k 0) (enc_task r.task) fs)
kept_at l k None es fs more h = tt
kept_at l k (Some r) es fs more h = more (get_or l.heights.items k 0) (enc_task r.task) h

-- one that has a record has one
pub placed_more : {Z : Type 0} (l : Ledger) (n : ℕ) (r : TaskRecord) (key : ℕ × Vec ℕ Z) (places more : List (Place Z)) → record_of l.records n ≡ Some r
    → get_or l.heights.items n 0 ≡ key.0 → key.1.items ≡ enc_task r.task → more ≡ places ++ (key, n) ∷ [] → AreGathered l n places
    → AreGathered l (n + 1) more
placed_more {Z} l n r key places more found high bytes pushed g = subst (AreGathered l (n + 1)) (sym pushed) (record {
  distinct = distinct_push same_number places place g.distinct
      (all_weaker (λ (p : Place Z). p.1 < n) (λ (p : Place Z). same_number p place ≡ false) (λ p low. lower_apart p.1 n low) places g.low);
  low = all_push (λ (p : Place Z). p.1 < n + 1) places place
      (all_weaker (λ (p : Place Z). p.1 < n) (λ (p : Place Z). p.1 < n + 1) (λ p low. omega (arith, low)) places g.low) (omega arith);
  only = all_push (λ (p : Place Z). (s : TaskRecord) × IsPlace l p s) places place g.only (r, record { done = found; high = high; bytes = bytes });
  each = at;
  few = let size = length_push places place in omega (arith, size, g.few);
})
  where
    place : Place Z
    place = (key, n)

    here : HasPlace (get_or l.heights.items n 0) (enc_task r.task) (places ++ place ∷ [])
    here =
        subst (λ h. HasPlace h (enc_task r.task) (places ++ place ∷ [])) (sym high)
        (subst (λ bs. HasPlace key.0 bs (places ++ place ∷ [])) bytes (has_last places place))

    at : (k : ℕ) → k < n + 1 → IfSome (record_of l.records k) (λ s. HasPlace (get_or l.heights.items k 0) (enc_task s.task) (places ++ place ∷ []))
    at k lt = elim (cases_lt k n) [
      | inl below ↦
          kept_at l k (record_of l.records k) places (places ++ place ∷ []) (λ height bytes has. has_kept height bytes places place has) (g.each k below)
      | inr ge ↦
          let same : n ≡ k = omega (arith, lt, ge) in
          subst (λ j. IfSome (record_of l.records j) (λ s. HasPlace (get_or l.heights.items j 0) (enc_task s.task) (places ++ place ∷ []))) same
          (subst (λ o. IfSome o (λ s. HasPlace (get_or l.heights.items n 0) (enc_task s.task) (places ++ place ∷ []))) (sym found) here)
    ]

-- places with one key have one number: canonical bytes tell tasks apart
one_number : {Z : Type 0} (l : Ledger) (p q : Place Z) (r s : TaskRecord) → IsLedger l → AreTasks l.names → IsPlace l p r → IsPlace l q s
    → place_cmp p.0 q.0 ≡ Equal → p.1 ≡ q.1
one_number l p q r s is tasks at bt e =
    let named = (recorded_at l p.1 r is at.done).named in
    let other = (recorded_at l q.1 s is bt.done).named in
    let same : r.task ≡ s.task =
    bytes_tell r.task s.task (told_at l.names p.1 r.task tasks.canonical named) (told_at l.names q.1 s.task tasks.canonical other)
    (sym at.bytes ∙ (key_exact p.0 q.0 e).1 ∙ bt.bytes) in
    one_place l.names tasks p.1 q.1 s.task (named ∙ ap Some same) other

-- places that are sorted stand in order
pub placed_sorted : {Z : Type 0} (l : Ledger) (m : ℕ) (places sorted : List (Place Z)) → IsLedger l → AreTasks l.names → AreGathered l m places
    → IsPermutation places sorted → IsSortedBy (λ (p q : Place Z). is_lt (ordering_then (place_cmp p.0 q.0) (nat_cmp p.1 q.1))) sorted → ArePlaces l m sorted
placed_sorted {Z} l m places sorted is tasks g same order = record {
  ascending = sorted_ascend (λ (p : Place Z). (r : TaskRecord) × IsPlace l p r) (λ p q at bt e. one_number l p q at.0 bt.0 is tasks at.1 bt.1 e) places sorted
      same order g.only g.distinct;
  only = all_sorted (λ (p : Place Z). (r : TaskRecord) × IsPlace l p r) places sorted same g.only;
  each = λ n low. kept_at l n (record_of l.records n) places sorted (λ height bytes has. has_sorted height bytes places sorted same has) (g.each n low);
  few = let size = length_permutation places sorted same in omega (arith, size, g.few);
}
