-- The numbers below a count.
use Rattle.std.proofs.Common.{◌≡◌, ℕ, zero, suc, ◌+◌, List, [], ◌∷◌, ◌++◌, length, refl, sym, ap, ◌∙◌, arith, add-one}
use Rattle.std.proofs.lemmas.List.{length_push}
use Rattle.pie_order.specs.Places.{numbers_below}

pub length-numbers_below : (n : ℕ) → length (numbers_below n) ≡ n
length-numbers_below zero = refl
length-numbers_below (suc n) = omega (arith, length_push (numbers_below n) n, length-numbers_below n)

pub numbers_more : (n : ℕ) (old new : List ℕ) → old ≡ numbers_below n → new ≡ old ++ length old ∷ [] → new ≡ numbers_below (n + 1)
numbers_more n old new e grown =
    grown ∙ ap (λ (ns : List ℕ). ns ++ length ns ∷ []) e ∙ ap (λ m. numbers_below n ++ m ∷ []) (length-numbers_below n) ∙ sym (ap numbers_below (add-one n))
