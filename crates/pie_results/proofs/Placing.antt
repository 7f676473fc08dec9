-- One live task more, in order.
use Rattle.std.proofs.Common.{◌≡◌, ℕ, ◌+◌, ◌≤◌, true, false, List, [], ◌∷◌, ◌++◌, length, get_or, Some, None, sym, ap, subst, refl, ◌∙◌, arith, inl, inr}
use Rattle.std.specs.Prelude.{Contains, Option, Vec, IfSome}
use Rattle.std.specs.List.{AllByRecursion}
use Rattle.std.specs.List.Sorted.{IsStrictlySortedBy}
use Rattle.std.specs.BTreeMap.{insert_entry}
use Rattle.std.specs.declared.cmp.Ordering.{Ordering}
use Rattle.std.specs.declared.cmp.Ordering.TheVariants.{Less, Equal, Greater}
use Rattle.std.specs.Ordering.{nat_cmp, ordering_then, match_ordering}
use Rattle.std.specs.Cmp.Lexicographic.{slice_cmp}
use Rattle.std.proofs.lemmas.List.{length_push}
use Rattle.std.proofs.lemmas.List.Elements.{Contains-append_cases}
use Rattle.std.proofs.lemmas.Map.Lookups.{exact_unsigned, exact_bytes}
use Rattle.pie_value.specs.Canonical.{enc_task}
use Rattle.pie_record.specs.declared.records.Records.{Records}
use Rattle.pie_record.specs.declared.task_record.TaskRecord.{TaskRecord}
use Rattle.pie_record.specs.inner.Records.{record_of}
use Rattle.pie_results.specs.inner.Failures.{is_done}
use Rattle.pie_results.specs.inner.Ordered.{Place, place_cmp, keys_in, IsPlace, HasPlace, IsPlaced, ArePlaces}
use Rattle.pie_results.proofs.Starting.{the_one}

-- equal keys have one height and the same bytes
pub key_exact : {Z : Type 0} (x y : ℕ × Vec ℕ Z) → place_cmp x y ≡ Equal → (x.0 ≡ y.0) × (x.1.items ≡ y.1.items)
key_exact {Z} x y e = by (nat_cmp x.0 y.0) refl e
  where
    by : (o : Ordering) → nat_cmp x.0 y.0 ≡ o → ordering_then o (slice_cmp nat_cmp x.1.items y.1.items) ≡ Equal → (x.0 ≡ y.0) × (x.1.items ≡ y.1.items)
    by Less o h = absurd (cc)
    by Equal o h = (exact_unsigned x.0 y.0 o, exact_bytes x.1.items y.1.items h)
    by Greater o h = absurd (cc)

all_put : {Z : Type 0} (P : Place Z → Type 0) (es : List (Place Z)) (k : ℕ × Vec ℕ Z) (n : ℕ)
    → ((x : ℕ × Vec ℕ Z) → place_cmp k x ≡ Equal → P (k, n) → P (x, n)) → AllByRecursion P es → P (k, n) → AllByRecursion P (insert_entry place_cmp es k n)
all_put P [] k n closed all p = (p, tt)
all_put {Z} P (e ∷ es) k n closed all p = by (place_cmp k e.0) refl (all_put P es k n closed all.1 p)
  where
    by : (o : Ordering) → place_cmp k e.0 ≡ o → AllByRecursion P (insert_entry place_cmp es k n)
        → AllByRecursion P (match_ordering o ((k, n) ∷ e ∷ es) ((e.0, n) ∷ es) (e ∷ insert_entry place_cmp es k n))
    by Less o more = (p, all)
    by Equal o more = (closed e.0 o p, all.1)
    by Greater o more = (all.0, more)

put_has : {Z : Type 0} (es : List (Place Z)) (k : ℕ × Vec ℕ Z) (n : ℕ) → HasPlace k.0 k.1.items (insert_entry place_cmp es k n)
put_has [] k n = inl (refl, refl)
put_has {Z} (e ∷ es) k n = by (place_cmp k e.0) refl (put_has es k n)
  where
    by : (o : Ordering) → place_cmp k e.0 ≡ o → HasPlace k.0 k.1.items (insert_entry place_cmp es k n)
        → HasPlace k.0 k.1.items (match_ordering o ((k, n) ∷ e ∷ es) ((e.0, n) ∷ es) (e ∷ insert_entry place_cmp es k n))
    by Less o more = inl (refl, refl)
    by Equal o more = let same = key_exact k e.0 o in inl (sym same.0, sym same.1)
    by Greater o more = inr more

put_keeps : {Z : Type 0} (height : ℕ) (bytes : List ℕ) (es : List (Place Z)) (k : ℕ × Vec ℕ Z) (n : ℕ) → HasPlace height bytes es
    → HasPlace height bytes (insert_entry place_cmp es k n)
put_keeps height bytes [] k n h = elim h [ ]
put_keeps {Z} height bytes (e ∷ es) k n h = by (place_cmp k e.0) h (λ m. put_keeps height bytes es k n m)
  where
    by : (o : Ordering) → HasPlace height bytes (e ∷ es) → (HasPlace height bytes es → HasPlace height bytes (insert_entry place_cmp es k n))
        → HasPlace height bytes (match_ordering o ((k, n) ∷ e ∷ es) ((e.0, n) ∷ es) (e ∷ insert_entry place_cmp es k n))
    by Less m more = inr m
    by Equal (inl m) more = inl m
    by Equal (inr m) more = inr m
    by Greater (inl m) more = inl m
    by Greater (inr m) more = inr (more m)

put_length : {Z : Type 0} (es : List (Place Z)) (k : ℕ × Vec ℕ Z) (n : ℕ) → length (insert_entry place_cmp es k n) ≤ length es + 1
put_length [] k n = omega arith
put_length {Z} (e ∷ es) k n = by (place_cmp k e.0) (put_length es k n)
  where
    by : (o : Ordering) → length (insert_entry place_cmp es k n) ≤ length es + 1
        → length (match_ordering o ((k, n) ∷ e ∷ es) ((e.0, n) ∷ es) (e ∷ insert_entry place_cmp es k n)) ≤ length (e ∷ es) + 1
    by Less more = omega arith
    by Equal more = omega arith
    by Greater more = omega (arith, more)

-- a number is seen that has no place to take
placed_skip : {Z : Type 0} (records : Records) (heights live seen : List ℕ) (n : ℕ) (es : List (Place Z))
    → IfSome (record_of records n) (IsPlaced heights es n) → ArePlaces records heights live seen es → ArePlaces records heights live (seen ++ n ∷ []) es
placed_skip {Z} records heights live seen n es here a = record {
  few = let long = length_push seen n in omega (arith, long, a.few);
  ascending = a.ascending;
  only = a.only;
  each = λ k c. elim (Contains-append_cases seen (n ∷ []) k c) [
    | inl old ↦ a.each k old
    | inr last ↦ subst (λ j. IfSome (record_of records j) (IsPlaced heights es j)) (the_one n k last) here
  ];
}

-- a task without a record has no place
pub placed_none : {Z : Type 0} (records : Records) (heights live seen : List ℕ) (n : ℕ) (es : List (Place Z)) → record_of records n ≡ None
    → ArePlaces records heights live seen es → ArePlaces records heights live (seen ++ n ∷ []) es
placed_none {Z} records heights live seen n es free a =
    placed_skip records heights live seen n es (subst (λ (o : Option TaskRecord). IfSome o (IsPlaced heights es n)) (sym free) tt) a

-- nor has one that isn't done
pub placed_undone : {Z : Type 0} (records : Records) (heights live seen : List ℕ) (n : ℕ) (r : TaskRecord) (es : List (Place Z))
    → record_of records n ≡ Some r → is_done r.outcome ≡ false → ArePlaces records heights live seen es
    → ArePlaces records heights live (seen ++ n ∷ []) es
placed_undone {Z} records heights live seen n r es found undone a =
    placed_skip records heights live seen n es (subst (λ (o : Option TaskRecord). IfSome o (IsPlaced heights es n)) (sym found)
    (λ done. absurd (let clash : false ≡ true = sym undone ∙ done in cc))) a

kept_at : {Z : Type 0} (heights : List ℕ) (k : ℕ) (o : Option TaskRecord) (es fs : List (Place Z))
    → ((height : ℕ) (bytes : List ℕ) → HasPlace height bytes es → HasPlace height bytes fs) → IfSome o (IsPlaced heights es k)
    → IfSome o (IsPlaced heights fs k)
kept_at heights k None es fs more h = tt
kept_at heights k (Some r) es fs more h = λ done. more (get_or heights k 0) (enc_task r.task) (h done)

-- one that is done has one
pub placed_more : {Z : Type 0} (records : Records) (heights live seen : List ℕ) (n : ℕ) (r : TaskRecord) (key : ℕ × Vec ℕ Z) (es fs : List (Place Z))
    → Contains live n → record_of records n ≡ Some r → is_done r.outcome ≡ true → get_or heights n 0 ≡ key.0 → key.1.items ≡ enc_task r.task
    → fs ≡ insert_entry place_cmp es key n → IsStrictlySortedBy place_cmp (keys_in fs) → ArePlaces records heights live seen es
    → ArePlaces records heights live (seen ++ n ∷ []) fs
placed_more {Z} records heights live seen n r key es fs is_live found done high bytes put ascending a = record {
  few =
      let size = put_length es key n in
      let all : length fs ≡ length (insert_entry place_cmp es key n) = ap length put in
      let long = length_push seen n in
      omega (arith, size, all, long, a.few);
  ascending = ascending;
  only = subst (λ (gs : List (Place Z)). AllByRecursion (λ (p : Place Z). (s : TaskRecord) × IsPlace records heights live p s) gs) (sym put)
      (all_put (λ (p : Place Z). (s : TaskRecord) × IsPlace records heights live p s) es key n
      (λ x e h. let same = key_exact key x e in
      (h.0, record { is_live = h.1.is_live; found = h.1.found; done = h.1.done; high = h.1.high ∙ same.0; bytes = sym same.1 ∙ h.1.bytes }))
      a.only (r, record { is_live = is_live; found = found; done = done; high = high; bytes = bytes }));
  each = λ k c. subst (λ (gs : List (Place Z)). IfSome (record_of records k) (IsPlaced heights gs k)) (sym put) (at k c);
}
  where
    grown : List (Place Z)
    grown = insert_entry place_cmp es key n

    here : IfSome (record_of records n) (IsPlaced heights grown n)
    here =
        subst (λ (o : Option TaskRecord). IfSome o (IsPlaced heights grown n)) (sym found)
        (λ _. subst (λ h. HasPlace h (enc_task r.task) grown) (sym high) (subst (λ bs. HasPlace key.0 bs grown) bytes (put_has es key n)))

    at : (k : ℕ) → Contains (seen ++ n ∷ []) k → IfSome (record_of records k) (IsPlaced heights grown k)
    at k c = elim (Contains-append_cases seen (n ∷ []) k c) [
      | inl old ↦ kept_at heights k (record_of records k) es grown (λ h bs m. put_keeps h bs es key n m) (a.each k old)
      | inr last ↦ subst (λ j. IfSome (record_of records j) (IsPlaced heights grown j)) (the_one n k last) here
    ]

sorted_nil : (Z : Type 0) → IsStrictlySortedBy (place_cmp {Z = Z}) []
unfolding IsStrictlySortedBy
sorted_nil Z = tt

pub places_none : {Z : Type 0} (records : Records) (heights live : List ℕ) → ArePlaces {Z = Z} records heights live [] []
places_none {Z} records heights live = record { few = omega arith; ascending = sorted_nil Z; only = tt; each = λ n c. absurd (omega (arith, c.1)) }
