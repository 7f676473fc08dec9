-- What a stable sort gives is the list in ascending order of the definition.
use Rattle.std.proofs.Common.{◌≡◌, ◌+◌, ℕ, zero, suc, ◌<◌, ◌≤◌, Bool, true, false, cond, not, ◌&&◌, List, [], ◌∷◌, length, get_or, map, filter, refl, sym, ap}
use Rattle.std.proofs.Common.{◌∙◌, subst, inl, inr, arith}
use Rattle.std.proofs.Common.{IsSorted, Ordering, Less, Equal, Greater, is_lt, is_gt}
use Rattle.std.specs.Prelude.{⊤}
use Rattle.std.specs.Ordering.{ordering_reverse}
use Rattle.std.specs.List.Sorted.{ties, IsStable}
use Rattle.std.specs.Cmp.{IsTotalOrder, upto, alike_right, tied_itself}
use Rattle.std.proofs.lemmas.Bool.{cases_Bool}
use Rattle.std.specs.List.Sorted.{IsPermutation}
use Rattle.std.proofs.lemmas.List.Sorted.{sorted_far, ranks_by, IsPermutation-refl, IsPermutation-sym, IsPermutation-trans, IsPermutation-cons}
use Rattle.std.proofs.lemmas.List.Sorted.{IsPermutation-middle}
use Rattle.pie_value.specs.BuiltinItems.{put_in, sorted_by}

reversed_is : (r : Ordering) → is_lt (ordering_reverse r) ≡ is_gt r
reversed_is Less = refl
reversed_is Equal = refl
reversed_is Greater = refl

not_back : (r : Ordering) → is_gt r ≡ true → is_gt (ordering_reverse r) ≡ false
not_back Less e = cc
not_back Equal e = cc
not_back Greater e = refl

equal_of_tie : (r : Ordering) → (not (is_lt r) && not (is_lt (ordering_reverse r))) ≡ true → r ≡ Equal
equal_of_tie Less e = cc
equal_of_tie Equal e = refl
equal_of_tie Greater e = cc

equal_of_both : (r : Ordering) → is_gt r ≡ false → is_gt (ordering_reverse r) ≡ false → r ≡ Equal
equal_of_both Less e f = cc
equal_of_both Equal e f = refl
equal_of_both Greater e f = cc

swapped : {A : Type 0} (a b : Bool) (x y : A) (l : List A) → (a ≡ true → b ≡ true → ⊥)
    → cond b (y ∷ cond a (x ∷ l) l) (cond a (x ∷ l) l) ≡ cond a (x ∷ cond b (y ∷ l) l) (cond b (y ∷ l) l)
swapped true true x y l h = absurd (h refl refl)
swapped true false x y l h = refl
swapped false true x y l h = refl
swapped false false x y l h = refl

same_rest : {A : Type 0} (b : Bool) (x : A) (l m : List A) → cond b (x ∷ l) l ≡ cond b (x ∷ m) m → l ≡ m
same_rest true x l m e = cc
same_rest false x l m e = e

module _ {A : Type 0} (R : A → A → Ordering) (o : IsTotalOrder R) where
  abbrev tied : A → A → Bool
  tied = ties (λ x y. is_lt (R x y))

  -- none of some elements is less than one
  abbrev Above : A → List A → Type 0
  Above x [] = ⊤
  Above x (y ∷ ys) = (is_gt (R x y) ≡ false) × Above x ys

  -- none of some elements is less than one before it
  abbrev Up : List A → Type 0
  Up [] = ⊤
  Up (x ∷ xs) = Above x xs × Up xs

  lt_is_gt : (x y : A) → is_lt (R y x) ≡ is_gt (R x y)
  lt_is_gt x y = ap is_lt (o.antisymm y x) ∙ reversed_is (R x y)

  above_from : (x : A) (ys : List A) → ((k : ℕ) → k < length ys → is_lt (R (get_or ys k x) x) ≡ false) → Above x ys
  above_from x [] h = tt
  above_from x (y ∷ ys) h = (sym (lt_is_gt x y) ∙ h 0 (omega arith), above_from x ys (λ k l. h (suc k) (omega arith)))

  up_from : (xs : List A) → ((i j : ℕ) (d : A) → i ≤ j → j < length xs → is_lt (R (get_or xs j d) (get_or xs i d)) ≡ false) → Up xs
  up_from [] h = tt
  up_from (x ∷ xs) h = (
    above_from x xs (λ k l. h 0 (suc k) x (omega arith) (omega arith)),
    up_from xs (λ i j d p q. h (suc i) (suc j) d (omega arith) (omega arith)),
  )

  above_put : (z x : A) (ys : List A) → is_gt (R z x) ≡ false → Above z ys → Above z (put_in R x ys)
  above_put z x [] h k = (h, tt)
  above_put z x (y ∷ ys) h k = elim (is_gt (R x y)) as (λ b. Above z (cond b (y ∷ put_in R x ys) (x ∷ y ∷ ys))) [
    | true ↦ (k.0, above_put z x ys h k.1)
    | false ↦ (h, k)
  ]

  above_less : (x y : A) (zs : List A) → is_gt (R x y) ≡ false → Above y zs → Above x zs
  above_less x y [] h k = tt
  above_less x y (z ∷ zs) h k = (upto o x y z h k.0, above_less x y zs h k.1)

  up_put : (x : A) (ys : List A) → Up ys → Up (put_in R x ys)
  up_put x [] h = (tt, tt)
  up_put x (y ∷ ys) h = elim (cases_Bool (is_gt (R x y))) [
    | inl e ↦ rw e (above_put y x ys (ap is_gt (o.antisymm y x) ∙ not_back (R x y) e) h.0, up_put x ys h.1)
    | inr e ↦ rw e ((e, above_less x y ys e h.0), h)
  ]

  sorted_up : (xs : List A) → Up (sorted_by R xs)
  sorted_up [] = tt
  sorted_up (x ∷ xs) = up_put x (sorted_by R xs) (sorted_up xs)

  tied_equal : (x y : A) → tied x y ≡ true → R x y ≡ Equal
  tied_equal x y e = equal_of_tie (R x y) (ap (λ r. not (is_lt (R x y)) && not (is_lt r)) (sym (o.antisymm y x)) ∙ e)

  not_both : (t x y : A) → is_gt (R x y) ≡ true → tied t x ≡ true → tied t y ≡ true → ⊥
  not_both t x y g p q =
      let e : R x y ≡ Equal = sym (o.congr t x y (tied_equal t x p)) ∙ tied_equal t y q in
      let f : is_gt (R x y) ≡ false = ap is_gt e in cc

  stable_put : (t x : A) (ys : List A) → filter (tied t) (put_in R x ys) ≡ filter (tied t) (x ∷ ys)
  stable_put t x [] = refl
  stable_put t x (y ∷ ys) = elim (cases_Bool (is_gt (R x y))) [
    | inl e ↦ rw e (ap (λ l. cond (tied t y) (y ∷ l) l) (stable_put t x ys) ∙ swapped (tied t x) (tied t y) x y (filter (tied t) ys) (not_both t x y e))
    | inr e ↦ rw e refl
  ]

  sorted_stable : (t : A) (xs : List A) → filter (tied t) (sorted_by R xs) ≡ filter (tied t) xs
  sorted_stable t [] = refl
  sorted_stable t (x ∷ xs) = stable_put t x (sorted_by R xs) ∙ ap (λ l. cond (tied t x) (x ∷ l) l) (sorted_stable t xs)

  tied_self : (x : A) → tied x x ≡ true
  tied_self x = ap (λ r. not (is_lt r) && not (is_lt r)) (tied_itself o x)

  not_above : (x : A) → is_gt (R x x) ≡ false
  not_above x = ap is_gt (tied_itself o x)

  -- where one is greater than t, none that isn't less than that one ties with t
  none_tied : (y t : A) (l : List A) → is_gt (R y t) ≡ true → Above y l → filter (tied t) l ≡ []
  none_tied y t [] g h = refl
  none_tied y t (x ∷ xs) g h = elim (cases_Bool (tied t x)) [
    | inl e ↦ absurd (let f : is_gt (R y t) ≡ is_gt (R y x) = ap is_gt (alike_right o t x y (tied_equal t x e)) in let k = h.0 in cc)
    | inr e ↦ rw e (none_tied y t xs g h.1)
  ]

  kept_first : (z : A) (zs : List A) → filter (tied z) (z ∷ zs) ≡ z ∷ filter (tied z) zs
  kept_first z zs = rw (tied_self z) refl

  -- the first of one list isn't greater than the first of another, if they tie alike
  first_low : (y z : A) (ys zs : List A) → Up (y ∷ ys) → filter (tied z) (y ∷ ys) ≡ filter (tied z) (z ∷ zs) → is_gt (R y z) ≡ false
  first_low y z ys zs up h = elim (cases_Bool (is_gt (R y z))) [
    | inl g ↦ absurd (
        let e = none_tied y z (y ∷ ys) g (not_above y, up.0) in
        let f = kept_first z zs in
        let k : z ∷ filter (tied z) zs ≡ [] = sym f ∙ sym h ∙ e in cc)
    | inr g ↦ g
  ]

  same_first : (y z : A) (ys zs : List A) → R y z ≡ Equal → filter (tied y) (y ∷ ys) ≡ filter (tied y) (z ∷ zs) → y ≡ z
  same_first y z ys zs e h =
      let back : R z y ≡ Equal = o.antisymm z y ∙ ap ordering_reverse e in
      let t : tied y z ≡ true = ap (λ r. not (is_lt r) && not (is_lt (R z y))) e ∙ ap (λ r. not (is_lt r)) back in
      let f : filter (tied y) (z ∷ zs) ≡ z ∷ filter (tied y) zs = rw t refl in
      let k : y ∷ filter (tied y) ys ≡ z ∷ filter (tied y) zs = sym (kept_first y ys) ∙ h ∙ f in cc

  -- two lists in ascending order whose ties are alike are equal
  one_order : (ys zs : List A) → Up ys → Up zs → ((t : A) → filter (tied t) ys ≡ filter (tied t) zs) → ys ≡ zs
  one_order [] [] p q h = refl
  one_order [] (z ∷ zs) p q h = absurd (let k : z ∷ filter (tied z) zs ≡ [] = sym (kept_first z zs) ∙ sym (h z) in cc)
  one_order (y ∷ ys) [] p q h = absurd (let k : y ∷ filter (tied y) ys ≡ [] = sym (kept_first y ys) ∙ h y in cc)
  one_order (y ∷ ys) (z ∷ zs) p q h =
      let low : is_gt (R y z) ≡ false = first_low y z ys zs p (h z) in
      let high : is_gt (R z y) ≡ false = first_low z y zs ys q (sym (h y)) in
      let e : R y z ≡ Equal = equal_of_both (R y z) low (ap is_gt (sym (o.antisymm z y)) ∙ high) in
      let s : y ≡ z = same_first y z ys zs e (h y) in
      let rest : ys ≡ zs = one_order ys zs p.1 q.1
      (λ t. same_rest (tied t y) y (filter (tied t) ys) (filter (tied t) zs)
      (subst (λ (w : A). filter (tied t) (y ∷ ys) ≡ filter (tied t) (w ∷ zs)) (sym s) (h t))) in
      cc

  pub sorted_is : (xs ys : List A) → IsSorted R ys → IsStable R xs ys → ys ≡ sorted_by R xs
  sorted_is xs ys up stable =
      one_order ys (sorted_by R xs) (up_from ys (sorted_far (λ x y. is_lt (R x y)) (ranks_by o (λ x. x)) ys up)) (sorted_up xs)
      (λ t. stable t ∙ sym (sorted_stable t xs))

  put_permutes : (x : A) (ys : List A) → IsPermutation (x ∷ ys) (put_in R x ys)
  put_permutes x [] = IsPermutation-refl (x ∷ [])
  put_permutes x (y ∷ ys) = elim (cases_Bool (is_gt (R x y))) [
    | inl e ↦ rw e (IsPermutation-trans _ _ _ (IsPermutation-sym _ _ (IsPermutation-middle (y ∷ []) x ys))
        (IsPermutation-cons y (x ∷ ys) (put_in R x ys) (put_permutes x ys)))
    | inr e ↦ rw e (IsPermutation-refl (x ∷ y ∷ ys))
  ]

  pub sorted_permutes : (xs : List A) → IsPermutation xs (sorted_by R xs)
  sorted_permutes [] = IsPermutation-refl []
  sorted_permutes (x ∷ xs) = IsPermutation-trans _ _ _ (IsPermutation-cons x xs (sorted_by R xs) (sorted_permutes xs)) (put_permutes x (sorted_by R xs))

  -- each one beside the next, in another form and under another relation
  module _ {B : Type 0} (form : A → B) (AtMost : B → B → Type 0) (at_most : (x y : A) → is_gt (R x y) ≡ false → AtMost (form x) (form y)) (d : B) where
    rising : (xs : List A) → Up xs → (i : ℕ) → i + 1 < length (map form xs) → AtMost (get_or (map form xs) i d) (get_or (map form xs) (i + 1) d)
    rising [] up i l = absurd (omega arith)
    rising (x ∷ []) up i l = absurd (omega arith)
    rising (x ∷ y ∷ ys) up zero l = at_most x y up.0.0
    rising (x ∷ y ∷ ys) up (suc i) l = let e : suc i + 1 ≡ suc (i + 1) = omega arith in rw e (rising (y ∷ ys) up.1 i (omega arith))

    pub sorted_rises : (xs : List A) (i : ℕ) → i + 1 < length (map form (sorted_by R xs))
        → AtMost (get_or (map form (sorted_by R xs)) i d) (get_or (map form (sorted_by R xs)) (i + 1) d)
    sorted_rises xs = rising (sorted_by R xs) (sorted_up xs)

-- in the order of keys, the keys of a sorted list are the keys sorted
module _ {A K : Type 0} (R : K → K → Ordering) (key : A → K) where
  map_put : (x : A) (ys : List A) → map key (put_in (λ a b. R (key a) (key b)) x ys) ≡ put_in R (key x) (map key ys)
  map_put x [] = refl
  map_put x (y ∷ ys) = elim (cases_Bool (is_gt (R (key x) (key y)))) [
    | inl e ↦ rw e (ap (λ l. key y ∷ l) (map_put x ys))
    | inr e ↦ rw e refl
  ]

  pub map_sorted : (xs : List A) → map key (sorted_by (λ a b. R (key a) (key b)) xs) ≡ sorted_by R (map key xs)
  map_sorted [] = refl
  map_sorted (x ∷ xs) = map_put x (sorted_by (λ a b. R (key a) (key b)) xs) ∙ ap (put_in R (key x)) (map_sorted xs)
