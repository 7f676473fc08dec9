-- Lists in which each element stands before all later ones: by a number, and at one number by bytes.
use Rattle.std.proofs.Common.{◌≡◌, ℕ, suc, ◌-◌, ◌<◌, Bool, true, false, ◌&&◌, ◌||◌, List, [], ◌∷◌, ◌++◌, length, get_or, refl, ◌∙◌, ap, arith, inl, inr}
use Rattle.std.specs.Prelude.{Some, slice_get, ◌==◌, ◌⊎◌, nat_lt}
use Rattle.std.specs.List.{AllPairs}
use Rattle.std.specs.declared.cmp.Ordering.{Ordering}
use Rattle.std.specs.declared.cmp.Ordering.TheVariants.{Less, Equal, Greater}
use Rattle.std.specs.Ordering.{nat_cmp, is_lt}
use Rattle.std.specs.Cmp.Lexicographic.{slice_cmp}
use Rattle.std.proofs.lemmas.Bool.{ltb-true, lt-ltb, eqb-true, eq-eqb, cases_lt}
use Rattle.std.proofs.lemmas.Cmp.{nat_list_cmp_total}
use Rattle.std.proofs.lemmas.List.Quantifiers.{all_pairs_push}
use Rattle.std.proofs.lemmas.Option.{slice_get-get_or}

abbrev pub IsTransitive : {A : Type 0} → (A → A → Type 0) → Type 0
IsTransitive {A} R = (x y z : A) → R x y → R y z → R x z

-- one more, which stands after the last
pub pairs_push : {A : Type 0} (R : A → A → Type 0) (xs : List A) (y : A) → IsTransitive R → AllPairs R xs
    → ((k : ℕ) (d : A) → suc k ≡ length xs → R (get_or xs k d) y) → AllPairs R (xs ++ y ∷ [])
pairs_push {A} R xs y trans h last = all_pairs_push R xs y h (λ k d lt. elim (cases_lt (suc k) (length xs)) [
  | inl more ↦
      let n = length xs - 1 in
      trans (get_or xs k d) (get_or xs n d) y (h k n d (omega arith) (omega arith)) (last n d (omega arith))
  | inr end ↦ last k d (omega arith)
])

-- the last of a list that has one
pub last_is : {A : Type 0} (xs : List A) (k : ℕ) (d : A) → suc k ≡ length xs → slice_get xs (length xs - 1) ≡ Some (get_or xs k d)
last_is xs k d long =
    let at : length xs - 1 ≡ k = omega (arith, long) in
    ap (λ (i : ℕ). slice_get xs i) at ∙ slice_get-get_or xs k d (omega (arith, long))

-- a lower number comes first, and at one number the bytes decide
abbrev pub Ahead : ℕ → ℕ → Ordering → Type 0
Ahead n m o = (n < m) ⊎ ((n ≡ m) × (o ≡ Less))

abbrev pub is_ahead : ℕ → ℕ → Ordering → Bool
is_ahead n m o = nat_lt n m || (n == m && is_lt o)

less_is : (o : Ordering) → is_lt o ≡ true → o ≡ Less
less_is Less e = refl
less_is Equal e = absurd (cc)
less_is Greater e = absurd (cc)

pub ahead_is : (n m : ℕ) (o : Ordering) → is_ahead n m o ≡ true → Ahead n m o
ahead_is n m o e = by (nat_lt n m) (n == m) (is_lt o) refl refl refl e
  where
    by : (a b c : Bool) → nat_lt n m ≡ a → (n == m) ≡ b → is_lt o ≡ c → (a || (b && c)) ≡ true → Ahead n m o
    by true b c p q t f = inl (ltb-true n m p)
    by false true true p q t f = inr (eqb-true n m q, less_is o t)
    by false true false p q t f = absurd (cc)
    by false false c p q t f = absurd (cc)

either : (a b : Bool) → b ≡ true → (a || b) ≡ true
either true b e = refl
either false b e = e

pub ahead_on : (n m : ℕ) (o : Ordering) → Ahead n m o → is_ahead n m o ≡ true
ahead_on n m o (inl lt) = ap (λ (b : Bool). b || (n == m && is_lt o)) (lt-ltb n m lt)
ahead_on n m o (inr h) =
    either (nat_lt n m) (n == m && is_lt o)
    (ap (λ (x : Ordering). n == m && is_lt x) h.1 ∙ ap (λ (b : Bool). b && true) (eq-eqb n m h.0))

pub ahead_trans : {A : Type 0} (f : A → ℕ) (g : A → List ℕ) → IsTransitive (λ (x y : A). Ahead (f x) (f y) (slice_cmp nat_cmp (g x) (g y)))
ahead_trans f g x y z (inl p) (inl q) = inl (omega (arith, p, q))
ahead_trans f g x y z (inl p) (inr q) = inl (omega (arith, p, q.0))
ahead_trans f g x y z (inr p) (inl q) = inl (omega (arith, p.0, q))
ahead_trans f g x y z (inr p) (inr q) = inr (p.0 ∙ q.0, nat_list_cmp_total.trans (g x) (g y) (g z) p.1 q.1)
