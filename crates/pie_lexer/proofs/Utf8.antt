-- Words, digits and what a text in quotes says are UTF-8.
use Rattle.std.proofs.Common.{◌≡◌, inl, inr, ℕ, ◌+◌, ◌<◌, Bool, true, false, ◌==◌, List, [], ◌∷◌, ◌++◌, length, get_or, take, drop, Some, None, append_assoc}
use Rattle.std.proofs.Common.{refl, sym, subst, ap, ◌∙◌, arith, length-append}
use Rattle.std.specs.List.{list_all}
use Rattle.std.specs.Str.{IsUtf8, IsAscii}
use Rattle.std.proofs.lemmas.Str.{IsUtf8-from_ascii, IsUtf8-take, IsUtf8-drop, IsUtf8-append, IsCharBoundary-before_ascii, IsCharBoundary-after_ascii}
use Rattle.std.proofs.lemmas.List.{take-append-drop}
use Rattle.std.proofs.Math.Seq.{take-append_seam, drop-append-add}
use Rattle.std.proofs.lemmas.Str.Ascii.{IsAscii-nil, IsAscii-cons}
use Rattle.std.proofs.lemmas.Bool.Decides.{nat_tests}
use Rattle.pie_lexer.specs.Bytes.{is_digit, is_word_byte}
use Rattle.pie_lexer.specs.Quotes.{escape_of, Inside, nothing, plain, escape}
use Rattle.pie_lexer.specs.inner.Scanning.{Closes, scan}
use Rattle.pie_lexer.proofs.Prefixes.{both_true, chosen}
use Rattle.pie_lexer.proofs.Insides.{Said, plain_says}
use Rattle.pie_lexer.proofs.Takes.{quote_first}

word_is_small : (b : ℕ) → is_word_byte b ≡ true → b < 128
word_is_small b h = grind (arith, nat_tests)

digit_is_small : (b : ℕ) → is_digit b ≡ true → b < 128
digit_is_small b h = grind (arith, nat_tests)

ascii : (p : ℕ → Bool) → ((b : ℕ) → p b ≡ true → b < 128) → (bs : List ℕ) → list_all p bs ≡ true → IsAscii bs
ascii p small [] h = IsAscii-nil
ascii p small (b ∷ bs) h =
    let q = both_true (p b) (list_all p bs) h in IsAscii-cons b bs (small b q.0) (ascii p small bs q.1)

pub word_is_utf8 : (bs : List ℕ) → list_all is_word_byte bs ≡ true → IsUtf8 bs
word_is_utf8 bs h = IsUtf8-from_ascii bs (ascii is_word_byte word_is_small bs h)

pub digits_are_utf8 : (bs : List ℕ) → list_all is_digit bs ≡ true → IsUtf8 bs
digits_are_utf8 bs h = IsUtf8-from_ascii bs (ascii is_digit digit_is_small bs h)

at_seam : (xs : List ℕ) (b : ℕ) (ys : List ℕ) → get_or (xs ++ b ∷ ys) (length xs) 0 ≡ b
at_seam [] b ys = refl
at_seam (x ∷ xs) b ys = at_seam xs b ys

behind_seam : (xs : List ℕ) (b : ℕ) (ys : List ℕ) → drop (length xs + 1) (xs ++ b ∷ ys) ≡ ys
behind_seam xs b ys = drop-append-add xs (b ∷ ys) 1

-- a text may be cut around an ASCII byte
pub cut : (xs : List ℕ) (b : ℕ) (ys : List ℕ) → IsUtf8 (xs ++ b ∷ ys) → b < 128 → IsUtf8 xs × IsUtf8 ys
cut xs b ys u h =
    let e = at_seam xs b ys in
    let small : get_or (xs ++ b ∷ ys) (length xs) 0 < 128 = omega arith in
    let within : length xs < length (xs ++ b ∷ ys) = omega (arith, length-append xs (b ∷ ys)) in (
      subst IsUtf8 (take-append_seam xs (b ∷ ys)) (IsUtf8-take (xs ++ b ∷ ys) (length xs) u
          (IsCharBoundary-before_ascii (xs ++ b ∷ ys) (length xs) within small)),
      subst IsUtf8 (behind_seam xs b ys) (IsUtf8-drop (xs ++ b ∷ ys) (length xs + 1) u (IsCharBoundary-after_ascii (xs ++ b ∷ ys) (length xs) u within small)),
    )

escape_is_small : (e c : ℕ) → escape_of e ≡ Some c → (e < 128) × (c < 128)
escape_is_small e c h = elim (chosen (e == 34) (Some 34) _ (Some c) h) [
  | inl p ↦ found e 34 34 c p.0 p.1 (omega arith) (omega arith)
  | inr p ↦ elim (chosen (e == 92) (Some 92) _ (Some c) p.1) [
    | inl q ↦ found e 92 92 c q.0 q.1 (omega arith) (omega arith)
    | inr q ↦ elim (chosen (e == 110) (Some 10) _ (Some c) q.1) [
      | inl r ↦ found e 110 10 c r.0 r.1 (omega arith) (omega arith)
      | inr r ↦ elim (chosen (e == 116) (Some 9) None (Some c) r.1) [
        | inl s ↦ found e 116 9 c s.0 s.1 (omega arith) (omega arith)
        | inr s ↦ (let n : None ≡ Some c = s.1 in cc)
      ]
    ]
  ]
]
  where
    found : (e a b c : ℕ) → (e == a) ≡ true → Some b ≡ Some c → a < 128 → b < 128 → (e < 128) × (c < 128)
    found e a b c t s h k = (let x : e ≡ a = grind (arith, nat_tests) in omega arith, let y : b ≡ c = cc in omega arith)

one_byte : (c : ℕ) → c < 128 → IsUtf8 (c ∷ [])
one_byte c h = IsUtf8-from_ascii (c ∷ []) (IsAscii-cons c [] h IsAscii-nil)

pub said_is_utf8 : {i s : List ℕ} → (run : List ℕ) → Inside i s → IsUtf8 (run ++ i) → IsUtf8 (run ++ s)
said_is_utf8 run nothing u = u
said_is_utf8 run (plain {b = b} {inner = i} {said = s} p q r j) u =
    subst IsUtf8 (append_assoc run (b ∷ []) s) (said_is_utf8 (run ++ b ∷ []) j (subst IsUtf8 (sym (append_assoc run (b ∷ []) i)) u))
said_is_utf8 run (escape {e = e} {c = c} {inner = i} {said = s} h j) u =
    let small = escape_is_small e c h in
    let x = cut run 92 (e ∷ i) u (omega arith) in
    let y = cut [] e i x.1 small.0 in
    IsUtf8-append run (c ∷ s) x.0 (IsUtf8-append (c ∷ []) s (one_byte c small.1) (said_is_utf8 [] j y.1))

-- what the text in quotes says that stands at a place of a text
pub quoted_is_utf8 : (text : List ℕ) (at : ℕ) (said : List ℕ) (n : ℕ) → IsUtf8 text → at < length text → get_or (drop at text) 0 0 ≡ 34
    → Closes said n ≡ scan ([], false) (drop 1 (drop at text)) 1 → IsUtf8 said
quoted_is_utf8 text at said n u h q e =
    let tail = drop 1 (drop at text) in
    let s = subst (Said tail) (sym e) (plain_says tail [] [] 1 nothing refl) in
    let f : take at text ++ 34 ∷ tail ≡ text = ap (λ t. take at text ++ t) (sym (quote_first text at h q)) ∙ take-append-drop at text in
    let x = cut (take at text) 34 tail (subst IsUtf8 (sym f) u) (omega arith) in
    let y = cut s.0 34 s.1 (subst IsUtf8 s.2 x.1) (omega arith) in
    said_is_utf8 [] s.3 y.0
