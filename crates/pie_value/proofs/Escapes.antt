-- What is escaped character by character is escaped byte by byte.
use Rattle.std.proofs.Common.{◌≡◌, ◌==◌, ℕ, suc, ◌<◌, ◌≤◌, Bool, true, false, List, [], ◌∷◌, ◌++◌, length, get_or, inl, inr, refl}
use Rattle.std.proofs.Common.{sym, ap, ◌∙◌, arith, append_assoc, append-nil}
use Rattle.std.proofs.lemmas.Bool.{cases_lt, eqb-true}
use Rattle.std.proofs.lemmas.Str.{encode_ascii, inside_one}
use lib.Utf8.{encode, encodes}
use Rattle.pie_value.specs.Shown.{escape_byte, escaped}

pub escaped_append : (xs ys : List ℕ) → escaped (xs ++ ys) ≡ escaped xs ++ escaped ys
escaped_append [] ys = refl
escaped_append (x ∷ xs) ys = ap (λ (l : List ℕ). escape_byte x ++ l) (escaped_append xs ys) ∙ sym (append_assoc (escape_byte x) _ _)

not_true : (b : Bool) → (b ≡ true → ⊥) → b ≡ false
not_true true h = absurd (h refl)
not_true false h = refl

test_false : (b n : ℕ) → (b ≡ n → ⊥) → (b == n) ≡ false
test_false b n h = not_true (b == n) (λ e. h (eqb-true b n e))

plain : (b : ℕ) → (b ≡ 34 → ⊥) → (b ≡ 92 → ⊥) → (b ≡ 10 → ⊥) → (b ≡ 9 → ⊥) → escape_byte b ≡ b ∷ []
plain b q s n t = rw (test_false b 34 q, test_false b 92 s, test_false b 10 n, test_false b 9 t) refl

escaped_high : (xs : List ℕ) → ((k : ℕ) → k < length xs → 128 ≤ get_or xs k 0) → escaped xs ≡ xs
escaped_high [] h = refl
escaped_high (x ∷ xs) h =
    let high : 128 ≤ x = h 0 (omega arith) in
    ap (λ (a : List ℕ). a ++ escaped xs) (plain x (λ e. omega arith) (λ e. omega arith) (λ e. omega arith) (λ e. omega arith))
    ∙ ap (λ (b : List ℕ). x ∷ b) (escaped_high xs (λ k below. h (suc k) (omega arith)))

-- a character that needs no escape
pub escaped_plain : (c : ℕ) → (c ≡ 34 → ⊥) → (c ≡ 92 → ⊥) → (c ≡ 10 → ⊥) → (c ≡ 9 → ⊥) → escaped (encode c) ≡ encode c
escaped_plain c q s n t = elim (cases_lt c 128) [
  | inl small ↦ rw (encode_ascii c small) (ap (λ (a : List ℕ). a ++ []) (plain c q s n t))
  | inr big ↦
      let high : (k : ℕ) → k < length (encode c) → 128 ≤ get_or (encode c) k 0 = λ k below. elim (cases_lt (get_or (encode c) k 0) 128) [
        | inl low ↦ absurd (omega (arith, inside_one c [] (encode c) k (sym (append-nil _)) below low))
        | inr h ↦ h
      ] in escaped_high (encode c) high
]

-- a character of the four
pub escaped_ascii : (c : ℕ) → c < 128 → escaped (encode c) ≡ escape_byte c
escaped_ascii c h = rw (encode_ascii c h) (append-nil (escape_byte c))

encodes_append : (cs ds : List ℕ) → encodes (cs ++ ds) ≡ encodes cs ++ encodes ds
encodes_append [] ds = refl
encodes_append (c ∷ cs) ds = ap (λ (l : List ℕ). encode c ++ l) (encodes_append cs ds) ∙ sym (append_assoc (encode c) _ _)

-- one character more
pub escaped_more : (cs : List ℕ) (c : ℕ) → escaped (encodes (cs ++ c ∷ [])) ≡ escaped (encodes cs) ++ escaped (encode c)
escaped_more cs c =
    ap escaped (encodes_append cs (c ∷ []) ∙ ap (λ (l : List ℕ). encodes cs ++ l) (append-nil (encode c))) ∙ escaped_append (encodes cs) (encode c)

-- what was written before, and one character more
pub written_more : (o a b : List ℕ) (cs : List ℕ) (c : ℕ) → a ≡ o ++ escaped (encodes cs) → b ≡ a ++ escaped (encode c)
    → b ≡ o ++ escaped (encodes (cs ++ c ∷ []))
written_more o a b cs c h k =
    k ∙ ap (λ (x : List ℕ). x ++ escaped (encode c)) h ∙ append_assoc o (escaped (encodes cs)) (escaped (encode c))
    ∙ ap (λ (x : List ℕ). o ++ x) (sym (escaped_more cs c))
