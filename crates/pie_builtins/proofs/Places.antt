-- The first place of a text in another.
use Rattle.std.proofs.Common.{◌≡◌, ℕ, zero, suc, ◌<◌, ◌≤◌, Bool, true, false, List, [], ◌∷◌, ◌++◌, take, drop, length, refl, ap, sym, ◌∙◌, arith, add-one}
use Rattle.std.specs.Prelude.{Some, None}
use Rattle.std.proofs.lemmas.List.{take-append-drop}
use Rattle.std.proofs.lemmas.Slice.Eq.{bytes_eq-Decides}
use Rattle.std.specs.Str.Pattern.{LacksTextAt}
use Rattle.pie_value.specs.BuiltinTexts.{starts_with, first_place}

not_true : (b : Bool) → (b ≡ true → ⊥) → b ≡ false
not_true true h = absurd (h refl)
not_true false h = refl

pub take_front : (p rest : List ℕ) → take (length p) (p ++ rest) ≡ p
take_front [] rest = refl
take_front (b ∷ p) rest = ap (λ xs. b ∷ xs) (take_front p rest)

pub starts_yes : (s p rest : List ℕ) → s ≡ p ++ rest → starts_with s p ≡ true
starts_yes s p rest e = (bytes_eq-Decides (take (length p) s) p).1 (ap (take (length p)) e ∙ take_front p rest)

pub starts_is : (s p : List ℕ) → starts_with s p ≡ true → s ≡ p ++ drop (length p) s
starts_is s p e =
    let h : take (length p) s ≡ p = (bytes_eq-Decides (take (length p) s) p).0 e in
    sym (take-append-drop (length p) s) ∙ ap (λ front. front ++ drop (length p) s) h

starts_not : (s p : List ℕ) → LacksTextAt p s 0 → starts_with s p ≡ false
starts_not s p lacks = not_true (starts_with s p) (λ e. lacks (drop (length p) s) (starts_is s p e))

pub nowhere : (s p : List ℕ) → ((i : ℕ) → i ≤ length s → LacksTextAt p s i) → first_place s p ≡ None
nowhere [] p lacks = rw (starts_not [] p (lacks 0 (omega arith))) refl
nowhere (b ∷ bs) p lacks =
    let h : first_place bs p ≡ None = nowhere bs p (λ i le. lacks (suc i) (omega arith)) in
    rw (starts_not (b ∷ bs) p (lacks 0 (omega arith)), h) refl

pub at_first : (s p rest : List ℕ) (k : ℕ) → ((i : ℕ) → i < k → LacksTextAt p s i) → drop k s ≡ p ++ rest → first_place s p ≡ Some k
at_first [] p rest zero lacks e = rw (starts_yes [] p rest e) refl
at_first (b ∷ bs) p rest zero lacks e = rw (starts_yes (b ∷ bs) p rest e) refl
at_first [] p rest (suc k) lacks e = absurd (lacks 0 (omega arith) rest e)
at_first (b ∷ bs) p rest (suc k) lacks e =
    let h : first_place bs p ≡ Some k = at_first bs p rest k (λ i le. lacks (suc i) (omega arith)) e in
    rw (starts_not (b ∷ bs) p (lacks 0 (omega arith)), h) (ap (λ n. Some n) (add-one k))
