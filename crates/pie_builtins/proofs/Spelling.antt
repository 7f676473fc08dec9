-- The integer that std's `parse` reads is the one that a text spells, where no plus sign stands before it.
use Rattle.std.proofs.Common.{◌≡◌, ◌≢◌, ◌⊎◌, ℕ, zero, suc, ◌+◌, ◌-◌, ◌*◌, ◌^◌, ◌<◌, ◌≤◌, Bool, true, false, ◌&&◌, List, [], ◌∷◌, length, get_or, refl, sym, ap}
use Rattle.std.proofs.Common.{◌∙◌, subst, inl, inr, arith, ℤ, pos, neg_ℤ, OkIff, Option, Some, None, Result, Ok, Err, w64, nat_le, nat_eq, ◌==◌}
use Rattle.std.proofs.Common.{le-leb, leb-true, lt-ltb, le-ltb, ne_eqb, eq-eqb, eqb-true}
use Rattle.std.specs.Result.{result_ok}
use Rattle.std.specs.List.{starts_with}
use Rattle.std.specs.Char.{digit_value}
use Rattle.std.specs.Int.{IsInRange}
use Rattle.std.specs.Str.Parse.{AllDigits, digits_value, digits_value_after, ParsesSigned}
use Rattle.std.proofs.lemmas.Bool.{cases_Bool, cases_lt, cases_eq}
use Rattle.std.proofs.lemmas.Str.{digit_value_digit}
use Rattle.std.proofs.lemmas.Str.Parse.{tells_digits, numerals_by_value, parse_signed_minus, parse_signed_plain}
use Rattle.pie_value.specs.BuiltinTexts.{is_digit, digits_after, number_spelt, as_positive, as_negative, and_then, int_spelt}

both_true : (a b : Bool) → (a && b) ≡ true → (a ≡ true) × (b ≡ true)
both_true true true e = (refl, refl)
both_true true false e = cc
both_true false b e = cc

digit_in : (c : ℕ) → is_digit c ≡ true → IsInRange 48 57 c
digit_in c e = let k = both_true (nat_le 48 c) (nat_le c 57) e in (leb-true 48 c k.0, leb-true c 57 k.1)

in_digit : (c : ℕ) → IsInRange 48 57 c → is_digit c ≡ true
in_digit c h = rw (le-leb 48 c h.0, le-leb c 57 h.1) refl

-- digits spell the number that they write, and other bytes none
digits_read : (n : ℕ) (ds : List ℕ) → (AllDigits 10 ds × (digits_after n ds ≡ Some (digits_value_after 10 n ds)))
    ⊎ ((AllDigits 10 ds → ⊥) × (digits_after n ds ≡ None))
digits_read n [] = inl (tt, refl)
digits_read n (c ∷ cs) = elim (cases_Bool (is_digit c)) [
  | inl e ↦
      let r : IsInRange 48 57 c = digit_in c e in
      let same : n * 10 + (c - 48) ≡ n * 10 + digit_value c = omega (arith, digit_value_digit c r) in
      let step : digits_after n (c ∷ cs) ≡ digits_after (n * 10 + digit_value c) cs = rw e (ap (λ m. digits_after m cs) same) in
      elim (digits_read (n * 10 + digit_value c) cs) [
        | inl k ↦ inl (tells_digits.more c cs r k.0, step ∙ k.1)
        | inr k ↦ inr (λ d. k.0 (tells_digits.parts c cs d).1, step ∙ k.1)
      ]
  | inr e ↦ inr (λ d. (let k : is_digit c ≡ true = in_digit c (tells_digits.parts c cs d).0 in cc), rw e refl)
]

-- the same of one or more
abbrev Reads : List ℕ → Type 0
Reads ds = (AllDigits 10 ds × (0 < length ds) × (number_spelt ds ≡ Some (digits_value 10 ds)))
    ⊎ ((AllDigits 10 ds → 0 < length ds → ⊥) × (number_spelt ds ≡ None))

number_read : (ds : List ℕ) → Reads ds
number_read [] = inr (λ d l. omega arith, refl)
number_read (c ∷ cs) = elim (digits_read 0 (c ∷ cs)) [
  | inl k ↦ inl (k.0, omega arith, k.1)
  | inr k ↦ inr (λ d l. k.0 d, k.1)
]

negative_fits : (n : ℕ) → n ≤ 2 ^ 63 → as_negative n ≡ Some (neg_ℤ (pos n))
negative_fits zero h = refl
negative_fits (suc n) h = rw (lt-ltb n (2 ^ 63) (omega arith)) refl

negative_past : (n : ℕ) → 2 ^ 63 < n → as_negative n ≡ None
negative_past zero h = absurd (omega arith)
negative_past (suc n) h = rw (le-ltb n (2 ^ 63) (omega arith)) refl

-- a text that begins with a plus sign spells no integer
pub plus_read : (bs : List ℕ) → starts_with nat_eq bs (43 ∷ []) ≡ true → int_spelt bs ≡ None
plus_read [] e = refl
plus_read (b ∷ bs) e =
    let k = both_true (43 == b) true e in
    let same : b ≡ 43 = sym (eqb-true 43 b k.0) in
    subst (λ (c : ℕ). int_spelt (c ∷ bs) ≡ None) (sym same) refl

pub no_plus : (bs : List ℕ) → starts_with nat_eq bs (43 ∷ []) ≡ false → get_or bs 0 0 ≢ 43
no_plus [] e = λ p. omega arith
no_plus (b ∷ bs) e = λ p. (let k : (43 == b) ≡ true = eq-eqb 43 b (sym p) in let f : ((43 == b) && true) ≡ true = rw k refl in cc)

-- an answer that stands exactly where there is one
answered : {E : Type 0} (r : Result ℤ E) (P : Type 0) (v : ℤ) (o : Option ℤ) → OkIff r P v → (P → o ≡ Some v) → ((P → ⊥) → o ≡ None) → result_ok r ≡ o
answered (Ok x) P v o h some none = ap Some h.1 ∙ sym (some h.0)
answered (Err e) P v o h some none = sym (none h)

module _ {E : Type 0} (r : Result ℤ E) where
  minus_read : (bs : List ℕ) → ParsesSigned w64 10 (45 ∷ bs) r → result_ok r ≡ int_spelt (45 ∷ bs)
  minus_read bs h =
      let fits = parse_signed_minus (numerals_by_value (AllDigits 10) tells_digits) w64 (45 ∷ bs) r h refl in
      elim (number_read bs) [
        | inl k ↦ answered r _ _ (and_then (number_spelt bs) as_negative) fits
            (λ p. rw k.2 (negative_fits (digits_value 10 bs) p.2))
            (λ n. rw k.2 (negative_past (digits_value 10 bs) (elim (cases_lt (2 ^ 63) (digits_value 10 bs)) [ inl l ↦ l | inr l ↦ absurd (n (k.0, k.1, l)) ])))
        | inr k ↦ answered r _ _ (and_then (number_spelt bs) as_negative) fits (λ p. absurd (k.0 p.0 p.1)) (λ n. rw k.1 refl)
      ]

  plain_read : (bs : List ℕ) → get_or bs 0 0 ≢ 43 → get_or bs 0 0 ≢ 45 → ParsesSigned w64 10 bs r → result_ok r ≡ and_then (number_spelt bs) as_positive
  plain_read bs plus minus h =
      let fits = parse_signed_plain (numerals_by_value (AllDigits 10) tells_digits) w64 bs r h plus minus in
      elim (number_read bs) [
        | inl k ↦ answered r _ _ (and_then (number_spelt bs) as_positive) fits
            (λ p. rw (k.2, lt-ltb (digits_value 10 bs) (2 ^ 63) p.2) refl)
            (λ n. rw (
              k.2,
              le-ltb (digits_value 10 bs) (2 ^ 63)
                  (elim (cases_lt (digits_value 10 bs) (2 ^ 63)) [ inl l ↦ absurd (n (k.0, k.1, l)) | inr l ↦ l ]),
            ) refl)
        | inr k ↦ answered r _ _ (and_then (number_spelt bs) as_positive) fits (λ p. absurd (k.0 p.0 p.1)) (λ n. rw k.1 refl)
      ]

  pub text_read : (bs : List ℕ) → get_or bs 0 0 ≢ 43 → ParsesSigned w64 10 bs r → result_ok r ≡ int_spelt bs
  text_read [] plus h = plain_read [] plus (λ e. omega arith) h
  text_read (b ∷ bs) plus h = elim (cases_eq b 45) [
    | inl e ↦ subst (λ (c : ℕ). result_ok r ≡ int_spelt (c ∷ bs)) (sym e) (minus_read bs (subst (λ (c : ℕ). ParsesSigned w64 10 (c ∷ bs) r) e h))
    | inr n ↦ rw (ne_eqb b 45 n) (plain_read (b ∷ bs) plus n h)
  ]
