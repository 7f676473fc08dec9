-- Places that are sorted by their keys stand in order, if no two of different numbers have one key.
use Rattle.std.proofs.Common.{◌≡◌, ℕ, ◌+◌, ◌<◌, Bool, false, eqb, List, [], ◌∷◌, ◌++◌, length, get_or, map, sym, ap, subst, refl, ◌∙◌, arith, inl, inr}
use Rattle.std.proofs.Common.{IsPermutation, IsSortedBy, true≢false, rules}
use Rattle.std.proofs.lemmas.Bool.{eqb-false}
use Rattle.std.specs.List.{AllByRecursion, IsDistinct}
use Rattle.std.specs.List.Sorted.{IsStrictlySortedBy}
use Rattle.std.specs.declared.cmp.Ordering.{Ordering}
use Rattle.std.specs.declared.cmp.Ordering.TheVariants.{Less, Equal, Greater}
use Rattle.std.specs.Ordering.{nat_cmp, is_lt, ordering_then, ordering_reverse}
use Rattle.std.specs.Cmp.{IsTotalOrder}
use Rattle.std.proofs.lemmas.Cmp.{nat_cmp_total, nat_list_cmp_total, on_total, then_total}
use Rattle.std.proofs.lemmas.List.{get_or-map, length-map}
use Rattle.std.proofs.lemmas.List.Elements.{All-from_recursion, recursion_from_All}
use Rattle.std.proofs.lemmas.List.Sorted.{All-permutation, IsPermutation-sym}
use Rattle.std.proofs.lemmas.Map.Keys.{IsDistinct-IsPermutation, apart_from_distinct, sorted_from_all_adjacent}
use Rattle.pie_fresh.specs.inner.Ordered.{Place, place_cmp, keys_in, HasPlace, same_number}

-- ---- what is sorted and differs ascends

first_decides : (a b : Ordering) → is_lt (ordering_then a b) ≡ false → is_lt a ≡ false
first_decides Less b e = e
first_decides Equal b e = refl
first_decides Greater b e = refl

ascends : (a b : Ordering) → b ≡ ordering_reverse a → is_lt b ≡ false → (a ≡ Equal → ⊥) → a ≡ Less
ascends Less b back low differ = refl
ascends Equal b back low differ = absurd (differ refl)
ascends Greater b back low differ = absurd (true≢false (sym (ap is_lt back) ∙ low))

pub ascending_keys : {X K : Type 0} {R : K → K → Ordering} → IsTotalOrder R → (key : X → K) → (xs : List X)
    → IsSortedBy (λ x y. is_lt (R (key x) (key y))) xs
    → ((k : ℕ) (d : X) → k + 1 < length xs → R (key (get_or xs k d)) (key (get_or xs (k + 1) d)) ≡ Equal → ⊥) → IsStrictlySortedBy R (map key xs)
unfolding IsStrictlySortedBy
ascending_keys total key [] sorted differ = tt
ascending_keys {X} {K} {R} total key (x ∷ rest) sorted differ = sorted_from_all_adjacent total (map key xs) (key x) at
  where
    xs : List X
    xs = x ∷ rest

    at : (k : ℕ) → k + 1 < length (map key xs) → R (get_or (map key xs) k (key x)) (get_or (map key xs) (k + 1) (key x)) ≡ Less
    at k lt =
        let within : k + 1 < length xs = subst (λ n. k + 1 < n) (length-map xs key) lt in
        let here : get_or (map key xs) k (key x) ≡ key (get_or xs k x) = get_or-map key xs k x (key x) (omega arith) in
        let next : get_or (map key xs) (k + 1) (key x) ≡ key (get_or xs (k + 1) x) = get_or-map key xs (k + 1) x (key x) within in
        let less : R (key (get_or xs k x)) (key (get_or xs (k + 1) x)) ≡ Less
        = ascends _ _ (total.antisymm (key (get_or xs (k + 1) x)) (key (get_or xs k x))) (sorted k x (omega arith) within) (differ k x within) in
        rw (here, next) less

-- ---- places by their keys

place_cmp_total : {Z : Type 0} → IsTotalOrder (place_cmp {Z = Z})
place_cmp_total = then_total (on_total (λ x. x.0) nat_cmp_total) (on_total (λ x. x.1.items) nat_list_cmp_total)

-- a list that is sorted by keys and numbers is sorted by keys
pub by_keys : {Z : Type 0} (places : List (Place Z))
    → IsSortedBy (λ (p q : Place Z). is_lt (ordering_then (place_cmp p.0 q.0) (nat_cmp p.1 q.1))) places
    → IsSortedBy (λ (p q : Place Z). is_lt (place_cmp p.0 q.0)) places
by_keys places sorted k d low high = first_decides _ _ (sorted k d low high)

one_side : (n m : ℕ) → eqb n m ≡ eqb m n
one_side n m = search rules

pub sorted_ascend : {Z : Type 0} (P : Place Z → Type 0) → ((p q : Place Z) → P p → P q → place_cmp p.0 q.0 ≡ Equal → p.1 ≡ q.1)
    → (places sorted : List (Place Z)) → IsPermutation places sorted
    → IsSortedBy (λ (p q : Place Z). is_lt (ordering_then (place_cmp p.0 q.0) (nat_cmp p.1 q.1))) sorted → AllByRecursion P places
    → IsDistinct same_number places → IsStrictlySortedBy place_cmp (keys_in sorted)
sorted_ascend {Z} P tells places sorted same order all apart =
    ascending_keys place_cmp_total (λ (p : Place Z). p.0) sorted (by_keys sorted order)
    (λ k d lt e. eqb-false _ _ (apart_from_distinct same_number sorted k (k + 1) d differ (omega arith) lt)
    (tells (get_or sorted k d) (get_or sorted (k + 1) d) (each k d (omega arith)) (each (k + 1) d lt) e))
  where
    differ : IsDistinct same_number sorted
    differ = IsDistinct-IsPermutation same_number (λ p q. one_side p.1 q.1) places sorted same apart

    each : (k : ℕ) (d : Place Z) → k < length sorted → P (get_or sorted k d)
    each = All-permutation P places sorted same (All-from_recursion P places all)

-- ---- what is among places is among them sorted

pub all_sorted : {Z : Type 0} (P : Place Z → Type 0) (places sorted : List (Place Z)) → IsPermutation places sorted → AllByRecursion P places
    → AllByRecursion P sorted
all_sorted P places sorted same all = recursion_from_All P sorted (All-permutation P places sorted same (All-from_recursion P places all))

has_itself : {Z : Type 0} (some all : List (Place Z)) → ((height : ℕ) (bytes : List ℕ) → HasPlace height bytes some → HasPlace height bytes all)
    → AllByRecursion (λ (p : Place Z). HasPlace p.0.0 p.0.1.items all) some
has_itself [] all up = tt
has_itself (p ∷ some) all up = (up p.0.0 p.0.1.items (inl (refl, refl)), has_itself some all (λ height bytes more. up height bytes (inr more)))

has_picked : {Z : Type 0} (height : ℕ) (bytes : List ℕ) (some all : List (Place Z)) → AllByRecursion (λ (p : Place Z). HasPlace p.0.0 p.0.1.items all) some
    → HasPlace height bytes some → HasPlace height bytes all
has_picked height bytes [] all each has = elim has [ ]
has_picked height bytes (p ∷ some) all each (inl at) =
    subst (λ h. HasPlace h bytes all) at.0 (subst (λ bs. HasPlace p.0.0 bs all) at.1 each.0)
has_picked height bytes (p ∷ some) all each (inr more) = has_picked height bytes some all each.1 more

pub has_sorted : {Z : Type 0} (height : ℕ) (bytes : List ℕ) (places sorted : List (Place Z)) → IsPermutation places sorted → HasPlace height bytes places
    → HasPlace height bytes sorted
has_sorted {Z} height bytes places sorted same =
    has_picked height bytes places sorted
    (all_sorted (λ (p : Place Z). HasPlace p.0.0 p.0.1.items sorted) sorted places (IsPermutation-sym places sorted same)
    (has_itself sorted sorted (λ height bytes has. has)))

-- ---- one place more at the end

pub all_push : {X : Type 0} (P : X → Type 0) (xs : List X) (x : X) → AllByRecursion P xs → P x → AllByRecursion P (xs ++ x ∷ [])
all_push P [] x all one = (one, tt)
all_push P (y ∷ xs) x all one = (all.0, all_push P xs x all.1 one)

pub all_weaker : {X : Type 0} (P Q : X → Type 0) → ((x : X) → P x → Q x) → (xs : List X) → AllByRecursion P xs → AllByRecursion Q xs
all_weaker P Q weaker [] all = tt
all_weaker P Q weaker (x ∷ xs) all = (weaker x all.0, all_weaker P Q weaker xs all.1)

pub distinct_push : {X : Type 0} (eq : X → X → Bool) (xs : List X) (x : X) → IsDistinct eq xs → AllByRecursion (λ y. eq y x ≡ false) xs
    → IsDistinct eq (xs ++ x ∷ [])
unfolding IsDistinct
distinct_push eq [] x apart all = (tt, tt)
distinct_push eq (y ∷ xs) x apart all = (all_push (λ z. eq y z ≡ false) xs x apart.0 all.0, distinct_push eq xs x apart.1 all.1)

pub has_kept : {Z : Type 0} (height : ℕ) (bytes : List ℕ) (places : List (Place Z)) (p : Place Z) → HasPlace height bytes places
    → HasPlace height bytes (places ++ p ∷ [])
has_kept height bytes [] p has = elim has [ ]
has_kept height bytes (q ∷ places) p (inl at) = inl at
has_kept height bytes (q ∷ places) p (inr more) = inr (has_kept height bytes places p more)

pub has_last : {Z : Type 0} (places : List (Place Z)) (p : Place Z) → HasPlace p.0.0 p.0.1.items (places ++ p ∷ [])
has_last [] p = inl (refl, refl)
has_last (q ∷ places) p = inr (has_last places p)
