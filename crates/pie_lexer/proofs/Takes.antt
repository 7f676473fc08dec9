-- From what the code has found at a place to the token that stands there.
use Rattle.std.proofs.Common.{◌≡◌, inl, inr, ℕ, ◌+◌, ◌^◌, ◌<◌, ◌≤◌, suc, Bool, true, false, nat_lt, List, [], ◌∷◌, ◌++◌, length, take, drop, get_or, Option}
use Rattle.std.proofs.Common.{Some, None, Result, Ok, Err, ℤ, pos, w64, refl, sym, subst, ap, ◌∙◌, arith, rules, length-append, length-drop}
use Rattle.std.specs.List.{list_all, prefix_len}
use Rattle.std.specs.Result.{OkIff, result_ok}
use Rattle.std.proofs.lemmas.Bool.Decides.{nat_tests}
use Rattle.std.proofs.lemmas.List.Folds.{length-prefix_len}
use Rattle.std.proofs.lemmas.Str.Parse.{IsNumeralModel, numerals_by_fold}
use Rattle.std.proofs.lemmas.Int.{to_z-of_z}
use mir.Val.{SFits, to_z, of_z}
use Rattle.pie_lexer.specs.Bytes.{is_letter, is_digit, is_word_byte}
use Rattle.pie_lexer.specs.Words.{word_kind}
use Rattle.pie_lexer.specs.Marks.{pair_at, byte_at}
use Rattle.pie_lexer.specs.Quotes.{nothing}
use Rattle.pie_lexer.specs.inner.Scanning.{End, Closes, Opens, Fails, scan, end_of}
use Rattle.pie_lexer.specs.declared.unquote.Quoted.{Quoted}
use Rattle.pie_lexer.specs.Tokens.{read_on, number_of, narrow, Number, Kind, IsLongest, Refused, wide, unclosed, escape, char}
use Rattle.pie_lexer.specs.inner.Answers.{IsTokenAt}
use Rattle.pie_lexer.specs.declared.token.TokenKind.{TokenKind}
use Rattle.pie_lexer.specs.declared.token.TokenKind.TheVariants as kinds
use Rattle.pie_lexer.specs.declared.error.LexError.TheVariants.{BadChar, OpenText, BadEscape, WideInt}
use Rattle.pie_lexer.proofs.Prefixes.{chosen}
use Rattle.pie_lexer.proofs.Spelled.{sort_of}
use Rattle.pie_lexer.proofs.Longest.{longest_word, longest_digits, longest_pair, longest_byte, no_pair, no_mark}
use Rattle.pie_lexer.proofs.Insides.{Said, plain_says}
use Rattle.pie_lexer.proofs.Quoting.{longest_quoted}

letter_is_word : (b : ℕ) → is_letter b ≡ true → is_word_byte b ≡ true
letter_is_word b h = grind (arith, nat_tests)

one_on : (p : ℕ → Bool) (b n : ℕ) (bs : List ℕ) → p b ≡ true → n ≡ prefix_len p (b ∷ bs) → n ≡ suc (prefix_len p bs)
one_on p b n bs h e = let k : prefix_len p (b ∷ bs) ≡ suc (prefix_len p bs) = rw h (omega arith) in e ∙ k

pub word_taken : (text : List ℕ) (n at : ℕ) (k : TokenKind) → 0 < length text → is_letter (get_or text 0 0) ≡ true → n ≡ prefix_len is_word_byte text
    → k ≡ word_kind (take n text) → IsTokenAt at text (record { kind = k; at = at; end = at + n })
word_taken [] n at k l h e q = absurd (omega arith)
word_taken (b ∷ bs) n at k l h e q =
    let m = prefix_len is_word_byte bs in
    let s : n ≡ suc m = one_on is_word_byte b n bs (letter_is_word b h) e in
    let t : k ≡ word_kind (take (suc m) (b ∷ bs)) = q ∙ ap (λ i. word_kind (take i (b ∷ bs))) s in (
      b ∷ take m bs,
      drop m bs,
      Kind (word_kind (b ∷ take m bs)),
      longest_word b bs m refl h,
      t,
      refl,
      (let z = length-prefix_len is_word_byte bs in omega arith),
    )

-- the digits in front of a text
record Digits (text : List ℕ) (n : ℕ) : Type 0 where
  length_is : n ≡ length (take n text)
  longest_is : IsLongest text (take n text) (drop n text) (Number (number_of (take n text)))

digits_prefix : (text : List ℕ) (n : ℕ) → 0 < length text → is_digit (get_or text 0 0) ≡ true → n ≡ prefix_len is_digit text → Digits text n
digits_prefix [] n l h e = absurd (omega arith)
digits_prefix (b ∷ bs) n l h e =
    let m = prefix_len is_digit bs in
    let s : n ≡ suc m = one_on is_digit b n bs h e in
    let d : Digits (b ∷ bs) (suc m) = record {
      length_is = (let z = length-prefix_len is_digit bs in
          omega arith);
      longest_is = longest_digits b bs m refl h;
    } in
    subst (Digits (b ∷ bs)) (sym s) d

pub narrow_some : (n : ℕ) (v : ℤ) → Some v ≡ narrow n → (n < 2 ^ 63) × (v ≡ pos n)
narrow_some n v h = elim (chosen (nat_lt n (2 ^ 63)) (Some (pos n)) None (Some v) (sym h)) [
  | inl c ↦ (grind (arith, nat_tests), (let e : Some (pos n) ≡ Some v = c.1 in cc))
  | inr c ↦ (let e : None ≡ Some v = c.1 in cc)
]

pub narrow_none : (n : ℕ) → None ≡ narrow n → 2 ^ 63 ≤ n
narrow_none n h = elim (chosen (nat_lt n (2 ^ 63)) (Some (pos n)) None None (sym h)) [
  | inl c ↦ (let e : Some (pos n) ≡ None = c.1 in cc)
  | inr c ↦ grind (arith, nat_tests)
]

pub int_stored : (n : ℕ) (v : ℤ) → Some v ≡ narrow n → to_z w64 (of_z w64 v) ≡ v
int_stored n v h =
    let x = narrow_some n v h in
    let f : SFits w64 (pos n) = search (rules, x.0) in
    to_z-of_z w64 v (subst (SFits w64) (sym x.1) f)

pub int_taken : (text : List ℕ) (n at : ℕ) (v z : ℤ) → z ≡ v → 0 < length text → is_digit (get_or text 0 0) ≡ true → n ≡ prefix_len is_digit text
    → Some v ≡ narrow (number_of (take n text)) → IsTokenAt at text (record { kind = kinds.Int z; at = at; end = at + n })
int_taken text n at v z s l h e q =
    let d = digits_prefix text n l h e in
    let x = narrow_some (number_of (take n text)) v q in (
      take n text,
      drop n text,
      Number (number_of (take n text)),
      d.longest_is,
      (x.0, ap (λ z. kinds.Int z) (s ∙ x.1)),
      refl,
      (let z = d.length_is in omega arith),
    )

pub int_refused : (text : List ℕ) (n at : ℕ) → 0 < length text → is_digit (get_or text 0 0) ≡ true → n ≡ prefix_len is_digit text
    → None ≡ narrow (number_of (take n text)) → Refused at text (WideInt at)
int_refused text n at l h e q =
    let d = digits_prefix text n l h e in
    wide (take n text) (drop n text) (number_of (take n text)) d.longest_is (narrow_none (number_of (take n text)) q)

pub own_digits : IsNumeralModel (λ ds. list_all is_digit ds ≡ true) number_of
own_digits = numerals_by_fold _ (search rules) read_on (search rules)

pub narrowed : {E : Type 0} (r : Result ℤ E) (n l : ℕ) (o : Option ℤ) → OkIff r ((0 < l) × (n < 2 ^ 63)) (pos n) → 0 < l → o ≡ result_ok r → o ≡ narrow n
narrowed (Ok x) n l o h k e = let t : nat_lt n (2 ^ 63) ≡ true = grind (arith, nat_tests, h.0.1) in rw t (e ∙ ap Some h.1)
narrowed (Err x) n l o h k e = elim (chosen (nat_lt n (2 ^ 63)) (Some (pos n)) None (narrow n) refl) [
  | inl c ↦ absurd (h (k, grind (arith, nat_tests)))
  | inr c ↦ e ∙ c.1
]

pub pair_taken : (text : List ℕ) (at : ℕ) (k : TokenKind) → sort_of (get_or text 0 0) ≡ 4 → Some k ≡ pair_at text
    → IsTokenAt at text (record { kind = k; at = at; end = at + 2 })
pair_taken [] at k s h = cc
pair_taken (a ∷ []) at k s h = cc
pair_taken (a ∷ b ∷ bs) at k s h = (a ∷ b ∷ [], bs, Kind k, longest_pair a b bs k s (sym h), refl, refl, refl)

pub byte_taken : (text : List ℕ) (at : ℕ) (k : TokenKind) → sort_of (get_or text 0 0) ≡ 4 → pair_at text ≡ None → Some k ≡ byte_at text
    → IsTokenAt at text (record { kind = k; at = at; end = at + 1 })
byte_taken [] at k s p h = cc
byte_taken (a ∷ bs) at k s p h = (a ∷ [], bs, Kind k, longest_byte a bs k s (no_pair a bs p) (sym h), refl, refl, refl)

not_quote : (a : ℕ) → sort_of a ≡ 4 → a ≡ 34 → ⊥
not_quote a s h = let e : sort_of 34 ≡ 4 = subst (λ n. sort_of n ≡ 4) h s in omega arith

pub char_refused : (text : List ℕ) (at : ℕ) → 0 < length text → sort_of (get_or text 0 0) ≡ 4 → pair_at text ≡ None → byte_at text ≡ None
    → Refused at text (BadChar at)
char_refused [] at l s p h = absurd (omega arith)
char_refused (a ∷ bs) at l s p h = char a bs refl (not_quote a s) (no_mark a bs s (no_pair a bs p) h)

says : (tail : List ℕ) (e : End) → e ≡ scan ([], false) tail 1 → Said tail e
says tail e h = subst (Said tail) (sym h) (plain_says tail [] [] 1 nothing refl)

pub text_taken : (text tail said : List ℕ) (n at : ℕ) → text ≡ 34 ∷ tail → Closes said n ≡ scan ([], false) tail 1
    → IsTokenAt at text (record { kind = kinds.Text said; at = at; end = at + n })
text_taken text tail said n at q h =
    let s = says tail (Closes said n) h in
    let e : text ≡ 34 ∷ (s.0 ++ 34 ∷ s.1) = q ∙ ap (λ t. 34 ∷ t) s.2 in (
      34 ∷ (s.0 ++ 34 ∷ []),
      s.1,
      Kind (kinds.Text said),
      subst (λ t. IsLongest t (34 ∷ (s.0 ++ 34 ∷ [])) s.1 (Kind (kinds.Text said))) (sym e) (longest_quoted s.0 said s.1 s.3),
      refl,
      refl,
      (let l = s.4 in omega (arith, length-append s.0 (34 ∷ []))),
    )

pub open_refused : (text tail : List ℕ) (at : ℕ) → text ≡ 34 ∷ tail → Opens ≡ scan ([], false) tail 1 → Refused at text (OpenText at)
open_refused text tail at q h =
    let s = says tail Opens h in unclosed s.0 s.1 s.2 (q ∙ ap (λ t. 34 ∷ t) s.3) s.4 s.5

pub escape_refused : (text tail : List ℕ) (n at : ℕ) → text ≡ 34 ∷ tail → Fails n ≡ scan ([], false) tail 1 → Refused at text (BadEscape (at + n))
escape_refused text tail n at q h =
    let s = says tail (Fails n) h in
    let e : at + 1 + length s.0 ≡ at + n = (let l = s.6 in omega arith) in
    subst (λ i. Refused at text (BadEscape i)) e (escape s.0 s.1 s.2 (q ∙ ap (λ t. 34 ∷ t) s.3) s.4 s.5)

pub quote_first : (text : List ℕ) (at : ℕ) → at < length text → get_or (drop at text) 0 0 ≡ 34 → drop at text ≡ 34 ∷ drop 1 (drop at text)
quote_first text at h q = first (drop at text) (let l = length-drop at text in omega arith) q
  where
    first : (xs : List ℕ) → 0 < length xs → get_or xs 0 0 ≡ 34 → xs ≡ 34 ∷ drop 1 xs
    first [] l e = absurd (omega arith)
    first (x ∷ xs) l e = ap (λ b. b ∷ xs) e

pub closes_within : (tail said : List ℕ) (n : ℕ) → Closes said n ≡ scan ([], false) tail 1 → n ≤ length tail + 1
closes_within tail said n h =
    let s = says tail (Closes said n) h in
    let l = ap length s.2 in
    let m = s.4 in omega (arith, length-append s.0 (34 ∷ s.1))

pub fails_within : (tail : List ℕ) (n : ℕ) → Fails n ≡ scan ([], false) tail 1 → n ≤ length tail + 1
fails_within tail n h =
    let s = says tail (Fails n) h in
    let l = ap length s.3 in
    let m = s.6 in omega (arith, length-append s.0 s.2)

-- the end that the code found, of the bytes from a place on
pub ends_as : (q : Quoted) (e : End) (rest text : List ℕ) (at : ℕ) → end_of q ≡ scan ([], false) (drop 1 rest) 1 → end_of q ≡ e → rest ≡ drop at text
    → e ≡ scan ([], false) (drop 1 (drop at text)) 1
ends_as q e rest text at h k s = sym k ∙ h ∙ ap (λ t. scan ([], false) (drop 1 t) 1) s
