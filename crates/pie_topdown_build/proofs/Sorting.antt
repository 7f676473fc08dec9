-- The elements of a list in order.
use Rattle.std.proofs.Common.{◌≡◌, zero, suc, ◌+◌, Bool, true, false, cond, List, [], ◌∷◌, refl, subst, arith}
use Rattle.std.specs.Prelude.{IsPermutation, slice_index_or}
use Rattle.std.specs.List.Sorted.{IsSortedBy}
use Rattle.std.proofs.lemmas.List.Sorted.{IsPermutation-cons, IsPermutation-middle, IsPermutation-refl, IsPermutation-trans}

module _ {X : Type 0} (below : X → X → Bool) where
  abbrev put : X → List X → List X
  put x [] = x ∷ []
  put x (y ∷ ys) = cond (below x y) (x ∷ y ∷ ys) (y ∷ put x ys)

  abbrev pub sorted : List X → List X
  sorted [] = []
  sorted (x ∷ xs) = put x (sorted xs)

  -- ---- the same elements

  put_shuffled : (x : X) (ys : List X) → IsPermutation (x ∷ ys) (put x ys)
  put_shuffled x [] = IsPermutation-refl (x ∷ [])
  put_shuffled x (y ∷ ys) = by (below x y) (put_shuffled x ys)
    where
      by : (b : Bool) → IsPermutation (x ∷ ys) (put x ys) → IsPermutation (x ∷ y ∷ ys) (cond b (x ∷ y ∷ ys) (y ∷ put x ys))
      by true rest = IsPermutation-refl (x ∷ y ∷ ys)
      by false rest =
          IsPermutation-trans (x ∷ y ∷ ys) (y ∷ x ∷ ys) (y ∷ put x ys) (IsPermutation-middle (x ∷ []) y ys)
          (IsPermutation-cons y (x ∷ ys) (put x ys) rest)

  pub shuffled : (xs : List X) → IsPermutation xs (sorted xs)
  shuffled [] = IsPermutation-refl []
  shuffled (x ∷ xs) =
      IsPermutation-trans (x ∷ xs) (x ∷ sorted xs) (put x (sorted xs)) (IsPermutation-cons x xs (sorted xs) (shuffled xs)) (put_shuffled x (sorted xs))

  -- ---- in order

  -- the first of these, if there is one, isn't below an element
  abbrev pub Follows : X → List X → Type 0
  Follows x [] = Unit {0}
  Follows x (y ∷ ys) = below y x ≡ false

  abbrev pub Rises : List X → Type 0
  Rises [] = Unit {0}
  Rises (x ∷ xs) = Follows x xs × Rises xs

  pub in_order : (xs : List X) → Rises xs → IsSortedBy below xs
  in_order [] r k d low high = absurd (omega (arith, high))
  in_order (x ∷ []) r k d low high = absurd (omega (arith, high))
  in_order (x ∷ y ∷ ys) r zero d low high = r.0
  in_order (x ∷ y ∷ ys) r (suc k) d low high =
      let next : suc (k + 1) ≡ suc k + 1 = omega arith in
      subst (λ i. below (slice_index_or (x ∷ y ∷ ys) i d) (slice_index_or (y ∷ ys) k d) ≡ false) next
      (in_order (y ∷ ys) r.1 k d (omega arith) (omega (arith, high)))

  put_follows : (y x : X) (ys : List X) → below x y ≡ false → Follows y ys → Follows y (put x ys)
  put_follows y x [] e f = e
  put_follows y x (z ∷ zs) e f = by (below x z)
    where
      by : (b : Bool) → Follows y (cond b (x ∷ z ∷ zs) (z ∷ put x zs))
      by true = e
      by false = f

  module _ (one_way : (x y : X) → below x y ≡ true → below y x ≡ false) where
    put_rises : (x : X) (ys : List X) → Rises ys → Rises (put x ys)
    put_rises x [] r = (tt, tt)
    put_rises x (y ∷ ys) r = by (below x y) refl (put_rises x ys r.1)
      where
        by : (b : Bool) → below x y ≡ b → Rises (put x ys) → Rises (cond b (x ∷ y ∷ ys) (y ∷ put x ys))
        by true e rest = (one_way x y e, r)
        by false e rest = (put_follows y x ys e r.0, rest)

    pub rises : (xs : List X) → Rises (sorted xs)
    rises [] = tt
    rises (x ∷ xs) = put_rises x (sorted xs) (rises xs)
