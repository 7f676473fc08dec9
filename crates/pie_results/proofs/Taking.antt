-- Records that are taken by ascending numbers are those that stood there before.
use Rattle.std.proofs.Common.{◌≡◌, ◌≢◌, ℕ, ◌+◌, ◌<◌, List, [], ◌∷◌, ◌++◌, length, get_or, drop, append_assoc, cond, None, sym, ap, subst, refl, ◌∙◌}
use Rattle.std.specs.List.{AllByRecursion}
use Rattle.std.specs.List.Sorted.{IsStrictlySortedBy}
use Rattle.std.specs.Option.{option_to_list}
use Rattle.std.specs.declared.cmp.Ordering.{Ordering}
use Rattle.std.specs.declared.cmp.Ordering.TheVariants.{Less, Equal, Greater}
use Rattle.std.specs.Ordering.{nat_cmp, is_eq, ordering_then, ordering_reverse, MatchOrdering}
use Rattle.std.specs.Cmp.{IsTotalOrder, ranks}
use Rattle.std.specs.Cmp.Lexicographic.{slice_cmp}
use Rattle.std.proofs.lemmas.Cmp.{nat_cmp_total, nat_list_cmp_total}
use Rattle.std.proofs.lemmas.List.{drop_more}
use Rattle.pie_record.specs.declared.records.Records.{Records}
use Rattle.pie_record.specs.declared.task_record.TaskRecord.{TaskRecord}
use Rattle.pie_record.specs.inner.Records.{record_of, Takes}
use Rattle.pie_results.specs.inner.Ordered.{bytes_in, number_cmp, AreApart, recorded}

-- ---- ascending numbers are apart

not_below_itself : {K : Type 0} (R : K → K → Ordering) → IsTotalOrder R → (x : K) → R x x ≡ Less → ⊥
not_below_itself R total x e = let other : Less ≡ Greater = sym e ∙ total.antisymm x x ∙ ap ordering_reverse e in absurd (cc)

neither : (o p : Ordering) → (o ≡ Less → ⊥) → (p ≡ Less → ⊥) → ordering_then o p ≡ Less → ⊥
neither Less p first second e = first refl
neither Equal p first second e = second e
neither Greater p first second e = absurd (cc)

module _ (records : Records) (heights : List ℕ) where
  number_not_below : (n : ℕ) → number_cmp records heights n n ≡ Less → ⊥
  number_not_below n =
      neither (nat_cmp (get_or heights n 0) (get_or heights n 0)) (slice_cmp nat_cmp (bytes_in (record_of records n)) (bytes_in (record_of records n)))
      (not_below_itself nat_cmp nat_cmp_total (get_or heights n 0))
      (not_below_itself (slice_cmp nat_cmp) nat_list_cmp_total (bytes_in (record_of records n)))

  apart_from : (n : ℕ) (nos : List ℕ) → AllByRecursion (λ (m : ℕ). number_cmp records heights n m ≡ Less) nos → AllByRecursion (λ (m : ℕ). n ≢ m) nos
  apart_from n [] less = tt
  apart_from n (m ∷ nos) less =
      ((λ e. number_not_below n (subst (λ (k : ℕ). number_cmp records heights n k ≡ Less) (sym e) less.0)), apart_from n nos less.1)

  pub ascending_apart : (nos : List ℕ) → IsStrictlySortedBy (number_cmp records heights) nos → AreApart nos
  unfolding IsStrictlySortedBy
  ascending_apart [] ascending = tt
  ascending_apart (n ∷ nos) ascending = (apart_from n nos ascending.0, ascending_apart nos ascending.1)

-- ---- one record is taken

kept_there : {X : Type 0} (n m : ℕ) (x y : X) → n ≢ m → cond (is_eq (nat_cmp n m)) x y ≡ y
kept_there n m x y apart =
    elim (nat_cmp n m) as (λ r. MatchOrdering r (n < m) (n ≡ m) (m < n) → cond (is_eq r) x y ≡ y) [
      | Less ↦ λ lt. refl
      | Equal ↦ λ e. absurd (apart e)
      | Greater ↦ λ gt. refl
    ] (ranks n m)

module _ (old new : Records) (n : ℕ) (takes : Takes old new n) where
  others_stay : (nos : List ℕ) → AllByRecursion (λ (m : ℕ). n ≢ m) nos → recorded new nos ≡ recorded old nos
  others_stay [] apart = refl
  others_stay (m ∷ nos) apart =
      ap (λ o. option_to_list o ++ recorded new nos) (takes m ∙ kept_there n m None (record_of old m) apart.0)
      ∙ ap (λ (rs : List TaskRecord). option_to_list (record_of old m) ++ rs) (others_stay nos apart.1)

-- the records so far and those that are left, after one more is taken
pub one_taken : (old new : Records) (nos : List ℕ) (i : ℕ) (before after all : List TaskRecord) → i < length nos → AreApart (drop i nos)
    → Takes old new (get_or nos i 0) → after ≡ before ++ option_to_list (record_of old (get_or nos i 0)) → before ++ recorded old (drop i nos) ≡ all
    → (after ++ recorded new (drop (i + 1) nos) ≡ all) × AreApart (drop (i + 1) nos)
one_taken old new nos i before after all lt apart takes moved is =
    let n = get_or nos i 0 in
    let rest = drop (i + 1) nos in
    let these : AreApart (n ∷ rest) = subst AreApart (drop_more nos i 0 lt) apart in (
      ap (λ (rs : List TaskRecord). after ++ rs) (others_stay old new n takes rest these.0)
          ∙ ap (λ (rs : List TaskRecord). rs ++ recorded old rest) moved
          ∙ append_assoc before (option_to_list (record_of old n)) (recorded old rest)
          ∙ ap (λ (ns : List ℕ). before ++ recorded old ns) (sym (drop_more nos i 0 lt))
          ∙ is,
      these.1,
    )
