-- Records that are taken by places in order are those that stood there before.
use Rattle.std.proofs.Common.{◌≡◌, ◌≢◌, ℕ, ◌+◌, ◌<◌, List, [], ◌∷◌, ◌++◌, length, drop, append_assoc, cond, get_or, Some, None, sym, ap, subst, refl, ◌∙◌}
use Rattle.std.specs.Prelude.{All, IfSome, Vec}
use Rattle.std.specs.List.{AllByRecursion}
use Rattle.std.specs.List.Sorted.{IsStrictlySortedBy}
use Rattle.std.specs.Option.{option_to_list}
use Rattle.std.specs.declared.cmp.Ordering.{Ordering}
use Rattle.std.specs.declared.cmp.Ordering.TheVariants.{Less, Equal, Greater}
use Rattle.std.specs.Ordering.{nat_cmp, is_eq, ordering_then, ordering_reverse, MatchOrdering}
use Rattle.std.specs.Cmp.{IsTotalOrder, ranks}
use Rattle.std.specs.Cmp.Lexicographic.{slice_cmp}
use Rattle.std.proofs.lemmas.Cmp.{nat_cmp_total, nat_list_cmp_total}
use Rattle.std.proofs.lemmas.List.{drop_more}
use Rattle.pie_value.specs.Canonical.{enc_task}
use Rattle.pie_record.specs.Canonical.{IsStorable}
use Rattle.pie_record.specs.declared.records.Records.{Records}
use Rattle.pie_record.specs.declared.task_record.TaskRecord.{TaskRecord}
use Rattle.pie_record.specs.inner.Records.{record_of, Takes}
use Rattle.pie_fresh.specs.declared.ledger.Ledger.{Ledger}
use Rattle.pie_fresh.specs.inner.Ledgers.{IsLedger}
use Rattle.pie_fresh.specs.inner.Ordered.{Place, place_cmp, keys_in, IsPlace, ArePlaces, AreApart, recorded}
use Rattle.pie_fresh.proofs.Ordering.{placed_zip, rows_all}

-- ---- places in order are of different numbers

not_below_itself : {K : Type 0} (R : K → K → Ordering) → IsTotalOrder R → (x : K) → R x x ≡ Less → ⊥
not_below_itself R total x e = let other : Less ≡ Greater = sym e ∙ total.antisymm x x ∙ ap ordering_reverse e in absurd (cc)

neither : (o p : Ordering) → (o ≡ Less → ⊥) → (p ≡ Less → ⊥) → ordering_then o p ≡ Less → ⊥
neither Less p first second e = first refl
neither Equal p first second e = second e
neither Greater p first second e = absurd (cc)

not_below_equal : (h k : ℕ) (a b : List ℕ) → h ≡ k → a ≡ b → ordering_then (nat_cmp h k) (slice_cmp nat_cmp a b) ≡ Less → ⊥
not_below_equal h k a b heights bytes less =
    neither (nat_cmp h h) (slice_cmp nat_cmp a a) (not_below_itself nat_cmp nat_cmp_total h) (not_below_itself (slice_cmp nat_cmp) nat_list_cmp_total a)
    (subst (λ (n : ℕ). ordering_then (nat_cmp h n) (slice_cmp nat_cmp a a) ≡ Less) (sym heights)
    (subst (λ (c : List ℕ). ordering_then (nat_cmp h k) (slice_cmp nat_cmp a c) ≡ Less) (sym bytes) less))

one_record : (r s : TaskRecord) → Some r ≡ Some s → r ≡ s
one_record r s e = cc

not_one : {Z : Type 0} (l : Ledger) (p q : Place Z) (r s : TaskRecord) → IsPlace l p r → IsPlace l q s → place_cmp p.0 q.0 ≡ Less → p.1 ≢ q.1
not_one l p q r s at bt less e =
    not_below_equal p.0.0 q.0.0 p.0.1.items q.0.1.items (sym at.high ∙ ap (λ (n : ℕ). get_or l.heights.items n 0) e ∙ bt.high)
    (at.bytes ∙ ap (λ (t : TaskRecord). enc_task t.task) (one_record r s (sym at.done ∙ ap (record_of l.records) e ∙ bt.done)) ∙ sym bt.bytes) less

apart_from : {Z : Type 0} (l : Ledger) (p : Place Z) (r : TaskRecord) (es : List (Place Z)) → IsPlace l p r
    → AllByRecursion (λ (q : Place Z). (s : TaskRecord) × IsPlace l q s) es → AllByRecursion (λ (y : ℕ × Vec ℕ Z). place_cmp p.0 y ≡ Less) (keys_in es)
    → AllByRecursion (λ (q : Place Z). p.1 ≢ q.1) es
apart_from l p r [] at all less = tt
apart_from l p r (q ∷ es) at all less = (not_one l p q r all.0.0 at all.0.1 less.0, apart_from l p r es at all.1 less.1)

ascending_apart : {Z : Type 0} (l : Ledger) (es : List (Place Z)) → AllByRecursion (λ (q : Place Z). (s : TaskRecord) × IsPlace l q s) es
    → IsStrictlySortedBy place_cmp (keys_in es) → AreApart es
unfolding IsStrictlySortedBy
ascending_apart l [] all ascending = tt
ascending_apart l (p ∷ es) all ascending = (apart_from l p all.0.0 es all.0.1 all.1 ascending.0, ascending_apart l es all.1 ascending.1)

pub places_apart : {Z : Type 0} (l : Ledger) (m : ℕ) (es : List (Place Z)) → ArePlaces l m es → AreApart es
places_apart l m es a = ascending_apart l es a.only a.ascending

-- ---- one record is taken

kept_there : {X : Type 0} (n m : ℕ) (x y : X) → n ≢ m → cond (is_eq (nat_cmp n m)) x y ≡ y
kept_there n m x y apart =
    elim (nat_cmp n m) as (λ r. MatchOrdering r (n < m) (n ≡ m) (m < n) → cond (is_eq r) x y ≡ y) [
      | Less ↦ λ lt. refl
      | Equal ↦ λ e. absurd (apart e)
      | Greater ↦ λ gt. refl
    ] (ranks n m)

others_stay : {Z : Type 0} (old new : Records) (n : ℕ) → Takes old new n → (es : List (Place Z)) → AllByRecursion (λ (q : Place Z). n ≢ q.1) es
    → recorded new es ≡ recorded old es
others_stay old new n takes [] apart = refl
others_stay old new n takes (q ∷ es) apart =
    ap (λ o. option_to_list o ++ recorded new es) (takes q.1 ∙ kept_there n q.1 None (record_of old q.1) apart.0)
    ∙ ap (λ (rs : List TaskRecord). option_to_list (record_of old q.1) ++ rs) (others_stay old new n takes es apart.1)

-- the records so far and those at the places that are left, after one more is taken
pub one_taken : {Z : Type 0} (old new : Records) (places : List (Place Z)) (i : ℕ) (p : Place Z) (before after all : List TaskRecord) → i < length places
    → p ≡ get_or places i p → AreApart (drop i places) → Takes old new p.1 → after ≡ before ++ option_to_list (record_of old p.1)
    → before ++ recorded old (drop i places) ≡ all → (after ++ recorded new (drop (i + 1) places) ≡ all) × AreApart (drop (i + 1) places)
one_taken {Z} old new places i p before after all lt at apart takes moved is =
    let rest = drop (i + 1) places in
    let left : drop i places ≡ p ∷ rest = drop_more places i p lt ∙ ap (λ (q : Place Z). q ∷ rest) (sym at) in
    let these : AreApart (p ∷ rest) = subst AreApart left apart in (
      ap (λ (rs : List TaskRecord). after ++ rs) (others_stay old new p.1 takes rest these.0)
          ∙ ap (λ (rs : List TaskRecord). rs ++ recorded old rest) moved
          ∙ append_assoc before (option_to_list (record_of old p.1)) (recorded old rest)
          ∙ ap (λ (es : List (Place Z)). before ++ recorded old es) (sym left)
          ∙ is,
      these.1,
    )

-- ---- the records at places can be stored

pub storable_rows : {Z : Type 0} (l : Ledger) (m : ℕ) (es : List (Place Z)) (rows : List TaskRecord) → IsLedger l → ArePlaces l m es → rows ≡ recorded l.records es
    → All IsStorable rows
storable_rows l m es rows is a e =
    subst (All IsStorable) (sym e)
    (rows_all l IsStorable (λ p r at. subst (λ o. IfSome o IsStorable) at.done (is.storable p.1)) es (recorded l.records es) (placed_zip l es a.only))
