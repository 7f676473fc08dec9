-- Tests that go by cases, and the longest prefix that passes a test.
use Rattle.std.proofs.Common.{◌≡◌, ◌⊎◌, inl, inr, ℕ, ◌+◌, ◌≤◌, suc, Bool, true, false, ◌&&◌, cond, List, [], ◌∷◌, ◌++◌, length, take, Option, Some, None, refl}
use Rattle.std.proofs.Common.{arith}
use Rattle.std.specs.List.{list_all, prefix_len}

pub either : (b : Bool) → (b ≡ true) ⊎ (b ≡ false)
either true = inl refl
either false = inr refl

pub both_true : (a b : Bool) → (a && b) ≡ true → (a ≡ true) × (b ≡ true)
both_true true b h = (refl, h)
both_true false b h = cc

pub chosen : {A : Type 0} (t : Bool) (x y z : A) → cond t x y ≡ z → ((t ≡ true) × (x ≡ z)) ⊎ ((t ≡ false) × (y ≡ z))
chosen true x y z h = inl (refl, h)
chosen false x y z h = inr (refl, h)

pub at_least : (p : ℕ → Bool) (v after : List ℕ) → list_all p v ≡ true → length v ≤ prefix_len p (v ++ after)
at_least p [] after h = omega arith
at_least p (x ∷ v) after h =
    let q = both_true (p x) (list_all p v) h in rw q.0 (omega (arith, at_least p v after q.1))

one_more : (p : ℕ → Bool) (x n : ℕ) (xs : List ℕ) → 1 + n ≡ suc n → p x ≡ true → list_all p (take n xs) ≡ true → list_all p (take (1 + n) (x ∷ xs)) ≡ true
one_more p x n xs e h k = rw (e, h) k

pub prefix_passes : (p : ℕ → Bool) (xs : List ℕ) → list_all p (take (prefix_len p xs) xs) ≡ true
prefix_passes p [] = refl
prefix_passes p (x ∷ xs) =
    elim (either (p x)) [ inl h ↦ rw h (one_more p x (prefix_len p xs) xs (omega arith) h (prefix_passes p xs)) | inr h ↦ rw h refl ]

pub some_or_none : (o : Option ℕ) → (o ≡ None) ⊎ ((c : ℕ) × (o ≡ Some c))
some_or_none None = inl refl
some_or_none (Some c) = inr (c, refl)
