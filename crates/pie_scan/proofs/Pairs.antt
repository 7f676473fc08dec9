-- Lists in which each thing stands before all later ones, by a path.
use Rattle.std.proofs.Common.{◌≡◌, ℕ, zero, suc, ◌-◌, ◌<◌, true, false, List, [], ◌∷◌, ◌++◌, length, get_or, take, refl, sym, ◌∙◌, ap, arith, inl, inr}
use Rattle.std.specs.Prelude.{Option, Some, slice_get, map}
use Rattle.std.specs.List.{AllPairs}
use Rattle.std.specs.List.Sorted.{IsStrictlySortedBy}
use Rattle.std.specs.declared.cmp.Ordering.TheVariants.{Less}
use Rattle.std.specs.Ordering.{is_lt}
use Rattle.std.proofs.lemmas.Bool.{cases_lt}
use Rattle.std.proofs.lemmas.List.{get_or-take, length-take, get_or_append_left, get_or_push, length_push}
use Rattle.std.proofs.lemmas.List.Quantifiers.{all_pairs_push}
use Rattle.std.proofs.lemmas.Option.{slice_get-get_or}
use Rattle.pie_scan.specs.Entries.{path_cmp}
use Rattle.pie_scan.specs.Reading.{follows, is_last}
use Rattle.pie_scan.proofs.Naming.{is_less, before_trans}
use Rattle.pie_scan.proofs.Merging.{AllAbove}

module _ {A : Type 0} (key : A → List ℕ) where
  abbrev pub Before : A → A → Type 0
  Before x y = path_cmp (key x) (key y) ≡ Less

  -- in path order
  abbrev pub Rising : List A → Type 0
  Rising xs = AllPairs Before xs

  -- the last of a list that has one
  last_is : (xs : List A) (k : ℕ) (d : A) → suc k ≡ length xs → slice_get xs (length xs - 1) ≡ Some (get_or xs k d)
  last_is xs k d long =
      let at : length xs - 1 ≡ k = omega (arith, long) in
      ap (λ (i : ℕ). slice_get xs i) at ∙ slice_get-get_or xs k d (omega (arith, long))

  last_before : (xs : List A) (x : A) (k : ℕ) (d : A) → suc k ≡ length xs → is_last key xs x ≡ is_lt (path_cmp (key (get_or xs k d)) (key x))
  last_before xs x k d long = ap (λ (o : Option A). follows key o x) (last_is xs k d long)

  -- one more, which comes after the last
  pub rising_push : (xs : List A) (y : A) → Rising xs → is_last key xs y ≡ true → Rising (xs ++ y ∷ [])
  rising_push xs y h last = all_pairs_push Before xs y h (λ k d lt. elim (cases_lt (suc k) (length xs)) [
    | inl more ↦
        let n = length xs - 1 in
        before_trans (key (get_or xs k d)) (key (get_or xs n d)) (key y) (h k n d (omega arith) (omega arith)) (at_end n d (omega arith))
    | inr end ↦ at_end k d (omega arith)
  ])
    where
      at_end : (k : ℕ) (d : A) → suc k ≡ length xs → Before (get_or xs k d) y
      at_end k d long = is_less (path_cmp (key (get_or xs k d)) (key y)) (sym (last_before xs y k d long) ∙ last)

  -- one more, which doesn't
  pub not_rising : (xs : List A) (y : A) → is_last key xs y ≡ false → ¬ (Rising (xs ++ y ∷ []))
  not_rising [] y e h = absurd (cc)
  not_rising (x ∷ xs) y e h =
      let all = x ∷ xs in
      let k = length xs in
      let long = length_push all y in
      let low = get_or_append_left all (y ∷ []) y k (omega arith) in
      let high = get_or_push all y y (suc k) refl in
      let two : path_cmp (key (get_or (all ++ y ∷ []) k y)) (key (get_or (all ++ y ∷ []) (suc k) y)) ≡ Less =
      h k (suc k) y (omega arith) (omega (arith, long)) in
      let less : path_cmp (key (get_or all k y)) (key y) ≡ Less =
      sym (ap (λ (a : A). path_cmp (key a) (key (get_or (all ++ y ∷ []) (suc k) y))) low ∙ ap (λ (b : A). path_cmp (key (get_or all k y)) (key b)) high)
      ∙ two in
      absurd (cc (sym (last_before all y k y refl) ∙ e, ap is_lt less))

  -- each thing of such a list comes after those before it
  pub rising_at : (xs : List A) (i : ℕ) (d : A) → Rising xs → i < length xs → is_last key (take i xs) (get_or xs i d) ≡ true
  rising_at xs zero d h lt = refl
  rising_at xs (suc k) d h lt =
      let front = take (suc k) xs in
      let long : suc k ≡ length front = omega (arith, lt, length-take (suc k) xs) in
      let x = get_or xs (suc k) d in
      last_before front x k d long
      ∙ ap (λ (y : A). is_lt (path_cmp (key y) (key x))) (get_or-take (suc k) xs k d (omega arith))
      ∙ ap is_lt (h k (suc k) d (omega arith) lt)

  -- the same, said of the paths
  above_all : (p : List ℕ) (xs : List A) → ((j : ℕ) (d : A) → j < length xs → path_cmp p (key (get_or xs j d)) ≡ Less) → AllAbove p (map key xs)
  above_all p [] h = tt
  above_all p (x ∷ xs) h = (h zero x (omega arith), above_all p xs (λ j d lt. h (suc j) d (omega (arith, lt))))

  above_at : (p : List ℕ) (xs : List A) (j : ℕ) (d : A) → AllAbove p (map key xs) → j < length xs → path_cmp p (key (get_or xs j d)) ≡ Less
  above_at p [] j d h lt = absurd (omega (arith, lt))
  above_at p (x ∷ xs) zero d h lt = h.0
  above_at p (x ∷ xs) (suc j) d h lt = above_at p xs j d h.1 (omega (arith, lt))

  pub rising_sorted : (xs : List A) → Rising xs → IsStrictlySortedBy path_cmp (map key xs)
  unfolding IsStrictlySortedBy
  rising_sorted [] h = tt
  rising_sorted (x ∷ xs) h = (
    above_all (key x) xs (λ j d lt. h zero (suc j) d (omega arith) (omega (arith, lt))),
    rising_sorted xs (λ i j d lt inside. h (suc i) (suc j) d (omega (arith, lt)) (omega (arith, inside))),
  )

  pub sorted_rising : (xs : List A) → IsStrictlySortedBy path_cmp (map key xs) → Rising xs
  unfolding IsStrictlySortedBy
  sorted_rising [] h i j d lt inside = absurd (omega (arith, inside))
  sorted_rising (x ∷ xs) h i zero d lt inside = absurd (omega (arith, lt))
  sorted_rising (x ∷ xs) h zero (suc j) d lt inside = above_at (key x) xs j d h.0 (omega (arith, inside))
  sorted_rising (x ∷ xs) h (suc i) (suc j) d lt inside = sorted_rising xs h.1 i j d (omega (arith, lt)) (omega (arith, inside))
