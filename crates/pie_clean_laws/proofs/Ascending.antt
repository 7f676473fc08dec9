-- Two lists in ascending order that have the same elements are equal.
use Rattle.std.proofs.Common.{◌≡◌, ◌⊎◌, inl, inr, suc, List, [], ◌∷◌, refl, sym, subst, arith}
use Rattle.std.specs.List.{AllPairs, Contains}
use Rattle.pie_check_laws.proofs.Members.{none_in, here_or_there, here, there}

module _ {A : Type 0} (R : A → A → Type 0) (never : (x y : A) → R x y → R y x → ⊥) where
  behind : (x : A) (xs : List A) → AllPairs R (x ∷ xs) → AllPairs R xs
  behind x xs h = λ i j d a b. h (suc i) (suc j) d (omega arith) (omega arith)

  first_before : (x : A) (xs : List A) (y : A) → AllPairs R (x ∷ xs) → Contains xs y → R x y
  first_before x xs y h c = subst (R x) c.2 (h 0 (suc c.0) y (omega arith) (omega (arith, c.1)))

  heads_same : (x y : A) (xs ys : List A) → AllPairs R (x ∷ xs) → AllPairs R (y ∷ ys) → (y ≡ x) ⊎ Contains ys x → (x ≡ y) ⊎ Contains xs y → y ≡ x
  heads_same x y xs ys h k (inl e) b = e
  heads_same x y xs ys h k (inr a) (inl e) = sym e
  heads_same x y xs ys h k (inr a) (inr b) = absurd (never x y (first_before x xs y h b) (first_before y ys x k a))

  rest_within : (x : A) (xs ys : List A) → AllPairs R (x ∷ xs) → ((a : A) → Contains (x ∷ xs) a → Contains (x ∷ ys) a) → (a : A) → Contains xs a → Contains ys a
  rest_within x xs ys h f a c = by (here_or_there x a ys (f a (there x a xs c)))
    where
      by : (x ≡ a) ⊎ Contains ys a → Contains ys a
      by (inl e) =
          let r : R x a = first_before x xs a h c in
          absurd (never x a r (subst (λ z. R z x) e (subst (R x) (sym e) r)))
      by (inr k) = k

  pub ascending_same : (xs ys : List A) → AllPairs R xs → AllPairs R ys → ((a : A) → Contains xs a → Contains ys a)
      → ((a : A) → Contains ys a → Contains xs a) → xs ≡ ys
  ascending_same [] [] h k f g = refl
  ascending_same [] (y ∷ ys) h k f g = absurd (none_in y (g y (here y ys)))
  ascending_same (x ∷ xs) [] h k f g = absurd (none_in x (f x (here x xs)))
  ascending_same (x ∷ xs) (y ∷ ys) h k f g =
      let e : y ≡ x = heads_same x y xs ys h k (here_or_there y x ys (f x (here x xs))) (here_or_there x y xs (g y (here y ys))) in
      let l : AllPairs R (x ∷ ys) = subst (λ z. AllPairs R (z ∷ ys)) e k in
      let to : (a : A) → Contains (x ∷ xs) a → Contains (x ∷ ys) a = subst (λ z. (a : A) → Contains (x ∷ xs) a → Contains (z ∷ ys) a) e f in
      let fro : (a : A) → Contains (x ∷ ys) a → Contains (x ∷ xs) a = subst (λ z. (a : A) → Contains (z ∷ ys) a → Contains (x ∷ xs) a) e g in
      λ i. sym e i ∷ ascending_same xs ys (behind x xs h) (behind x ys l) (rest_within x xs ys h to) (rest_within x ys xs l fro) i
