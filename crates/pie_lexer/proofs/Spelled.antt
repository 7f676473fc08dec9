-- What the first byte of a spelled text says of it.
use Rattle.std.proofs.Common.{◌≡◌, inl, inr, ℕ, Bool, true, false, ◌&&◌, cond, ◌==◌, List, [], ◌∷◌, ◌++◌, Some, refl, sym, ap, ◌∙◌, arith}
use Rattle.std.specs.List.{list_all}
use Rattle.std.proofs.lemmas.Bool.Decides.{nat_tests}
use Rattle.pie_lexer.specs.Bytes.{is_letter, is_digit, is_word_byte}
use Rattle.pie_lexer.specs.Words.{word_kind}
use Rattle.pie_lexer.specs.Marks.{Row, doubles, singles, look_up, mark_of}
use Rattle.pie_lexer.specs.Quotes.{Inside}
use Rattle.pie_lexer.specs.Tokens.{number_of, Lexeme, Number, Kind, Spells, word, digits, quoted, mark}
use Rattle.pie_lexer.specs.declared.token.TokenKind.{TokenKind}
use Rattle.pie_lexer.specs.declared.token.TokenKind.TheVariants as kinds
use Rattle.pie_lexer.proofs.Prefixes.{both_true, chosen}

-- the sort of a text by its first byte: 1 a word, 2 digits, 3 a text in quotes, 4 a mark or nothing
abbrev pub sort_of : ℕ → ℕ
sort_of b = cond (is_letter b) 1 (cond (is_digit b) 2 (cond (b == 34) 3 4))

pub letter_sort : (b : ℕ) → is_letter b ≡ true → sort_of b ≡ 1
letter_sort b h = rw h refl

no_letter : (b : ℕ) → is_digit b ≡ true → is_letter b ≡ false
no_letter b h = grind (arith, nat_tests)

pub digit_sort : (b : ℕ) → is_digit b ≡ true → sort_of b ≡ 2
digit_sort b h = let l = no_letter b h in rw (l, h) refl

pub other_sort : (b : ℕ) → is_letter b ≡ false → is_digit b ≡ false → (b == 34) ≡ false → sort_of b ≡ 4
other_sort b l d q = rw (l, d, q) refl

same : (a b : ℕ) → (a == b) ≡ true → a ≡ b
same a b h = grind (arith, nat_tests)

-- what each row of a table meets, what is found by it meets
row_meets : (p : ℕ → Bool) (a b : ℕ) (rows : List Row) (k : TokenKind) → list_all (λ r. p r.0) rows ≡ true → look_up a b rows ≡ Some k → p a ≡ true
row_meets p a b [] k h e = cc
row_meets p a b (row ∷ rows) k h e =
    let q = both_true (p row.0) (list_all (λ r. p r.0) rows) h in
    elim (chosen (a == row.0 && b == row.1) (Some row.2) (look_up a b rows) (Some k) e) [
      | inl c ↦ ap p (same a row.0 (both_true (a == row.0) (b == row.1) c.0).0) ∙ q.0
      | inr c ↦ row_meets p a b rows k q.1 c.1
    ]

pub mark_sort : (a : ℕ) (bs : List ℕ) (k : TokenKind) → mark_of (a ∷ bs) ≡ Some k → sort_of a ≡ 4
mark_sort a [] k h = same _ 4 (row_meets (λ b. sort_of b == 4) a 0 singles k refl h)
mark_sort a (b ∷ []) k h = same _ 4 (row_meets (λ b. sort_of b == 4) a b doubles k refl h)
mark_sort a (b ∷ c ∷ bs) k h = cc

apart : (a m n : ℕ) → sort_of a ≡ m → sort_of a ≡ n → (m ≡ n → ⊥) → ⊥
apart a m n p q differ = differ (sym p ∙ q)

quote_sort : (a : ℕ) (bs r : List ℕ) → a ∷ bs ≡ 34 ∷ r → sort_of a ≡ 3
quote_sort a bs r h = let e : a ≡ 34 = cc in rw e refl

pub nonempty : (w : List ℕ) (x : Lexeme) → Spells w x → (b : ℕ) × (bs : List ℕ) × (w ≡ b ∷ bs)
nonempty w x (word {b = b} {bs = bs} l h) = (b, bs, refl)
nonempty w x (digits {b = b} {bs = bs} d h) = (b, bs, refl)
nonempty w x (quoted {inner = inner} i e) = (34, inner ++ 34 ∷ [], e)
nonempty [] x (mark e) = cc
nonempty (b ∷ bs) x (mark e) = (b, bs, refl)

pub word_is : (b : ℕ) (bs : List ℕ) (x : Lexeme) → sort_of b ≡ 1 → Spells (b ∷ bs) x → (list_all is_word_byte bs ≡ true) × (x ≡ Kind (word_kind (b ∷ bs)))
word_is b bs x s (word l h) = (h, refl)
word_is b bs x s (digits d h) = absurd (apart b 1 2 s (digit_sort b d) (λ e. omega arith))
word_is b bs x s (quoted {inner = inner} i e) = absurd (apart b 1 3 s (quote_sort b bs (inner ++ 34 ∷ []) e) (λ e. omega arith))
word_is b bs x s (mark {k = k} e) = absurd (apart b 1 4 s (mark_sort b bs k e) (λ e. omega arith))

pub digits_are : (b : ℕ) (bs : List ℕ) (x : Lexeme) → sort_of b ≡ 2 → Spells (b ∷ bs) x → (list_all is_digit bs ≡ true) × (x ≡ Number (number_of (b ∷ bs)))
digits_are b bs x s (word l h) = absurd (apart b 2 1 s (letter_sort b l) (λ e. omega arith))
digits_are b bs x s (digits d h) = (h, refl)
digits_are b bs x s (quoted {inner = inner} i e) = absurd (apart b 2 3 s (quote_sort b bs (inner ++ 34 ∷ []) e) (λ e. omega arith))
digits_are b bs x s (mark {k = k} e) = absurd (apart b 2 4 s (mark_sort b bs k e) (λ e. omega arith))

pub quoted_is : (b : ℕ) (bs : List ℕ) (x : Lexeme) → sort_of b ≡ 3 → Spells (b ∷ bs) x
    → (inner : List ℕ) × (said : List ℕ) × (bs ≡ inner ++ 34 ∷ []) × Inside inner said × (x ≡ Kind (kinds.Text said))
quoted_is b bs x s (word l h) = absurd (apart b 3 1 s (letter_sort b l) (λ e. omega arith))
quoted_is b bs x s (digits d h) = absurd (apart b 3 2 s (digit_sort b d) (λ e. omega arith))
quoted_is b bs x s (quoted {inner = inner} {said = said} i e) = (inner, said, cc, i, refl)
quoted_is b bs x s (mark {k = k} e) = absurd (apart b 3 4 s (mark_sort b bs k e) (λ e. omega arith))

pub mark_is : (b : ℕ) (bs : List ℕ) (x : Lexeme) → sort_of b ≡ 4 → Spells (b ∷ bs) x → (k : TokenKind) × (mark_of (b ∷ bs) ≡ Some k) × (x ≡ Kind k)
mark_is b bs x s (word l h) = absurd (apart b 4 1 s (letter_sort b l) (λ e. omega arith))
mark_is b bs x s (digits d h) = absurd (apart b 4 2 s (digit_sort b d) (λ e. omega arith))
mark_is b bs x s (quoted {inner = inner} i e) = absurd (apart b 4 3 s (quote_sort b bs (inner ++ 34 ∷ []) e) (λ e. omega arith))
mark_is b bs x s (mark {k = k} e) = (k, e, refl)
