-- The longest that is spelled in front of a text.
use Rattle.std.proofs.Common.{◌≡◌, ℕ, ◌≤◌, suc, true, List, [], ◌∷◌, ◌++◌, length, take, drop, Some, None, refl, sym, subst, ap, ◌∙◌, arith}
use Rattle.std.specs.List.{prefix_len}
use Rattle.std.proofs.lemmas.List.{take-append-drop}
use Rattle.std.proofs.lemmas.List.Folds.{length-prefix_len}
use Rattle.pie_lexer.specs.Bytes.{is_letter, is_digit, is_word_byte}
use Rattle.pie_lexer.specs.Words.{word_kind}
use Rattle.pie_lexer.specs.Marks.{double_of, single_of, pair_at}
use Rattle.pie_lexer.specs.Tokens.{number_of, Lexeme, Number, Kind, Spells, word, digits, mark, IsLongest}
use Rattle.pie_lexer.specs.declared.token.TokenKind.{TokenKind}
use Rattle.pie_lexer.proofs.Prefixes.{at_least, prefix_passes}
use Rattle.pie_lexer.proofs.Spelled.{sort_of, letter_sort, digit_sort, word_is, digits_are, mark_is, nonempty}

no_longer_word : (b : ℕ) (bs v after : List ℕ) (y : Lexeme) → is_letter b ≡ true → b ∷ bs ≡ v ++ after → Spells v y
    → length v ≤ suc (prefix_len is_word_byte bs)
no_longer_word b bs [] after y l e s = omega arith
no_longer_word b bs (c ∷ vs) after y l e s =
    let h : b ≡ c = cc in
    let t : bs ≡ vs ++ after = cc in
    let q = word_is c vs y (subst (λ n. sort_of n ≡ 1) h (letter_sort b l)) s in
    rw t (omega (arith, at_least is_word_byte vs after q.0))

pub longest_word : (b : ℕ) (bs : List ℕ) (m : ℕ) → m ≡ prefix_len is_word_byte bs → is_letter b ≡ true
    → IsLongest (b ∷ bs) (b ∷ take m bs) (drop m bs) (Kind (word_kind (b ∷ take m bs)))
longest_word b bs m e l = record {
  front = ap (λ t. b ∷ t) (sym (take-append-drop m bs));
  spelled = word l (rw e (prefix_passes is_word_byte bs));
  longest = λ v after y h s. rw (e, length-prefix_len is_word_byte bs) (no_longer_word b bs v after y l h s);
}

no_longer_digits : (b : ℕ) (bs v after : List ℕ) (y : Lexeme) → is_digit b ≡ true → b ∷ bs ≡ v ++ after → Spells v y → length v ≤ suc (prefix_len is_digit bs)
no_longer_digits b bs [] after y l e s = omega arith
no_longer_digits b bs (c ∷ vs) after y l e s =
    let h : b ≡ c = cc in
    let t : bs ≡ vs ++ after = cc in
    let q = digits_are c vs y (subst (λ n. sort_of n ≡ 2) h (digit_sort b l)) s in
    rw t (omega (arith, at_least is_digit vs after q.0))

pub longest_digits : (b : ℕ) (bs : List ℕ) (m : ℕ) → m ≡ prefix_len is_digit bs → is_digit b ≡ true
    → IsLongest (b ∷ bs) (b ∷ take m bs) (drop m bs) (Number (number_of (b ∷ take m bs)))
longest_digits b bs m e l = record {
  front = ap (λ t. b ∷ t) (sym (take-append-drop m bs));
  spelled = digits l (rw e (prefix_passes is_digit bs));
  longest = λ v after y h s. rw (e, length-prefix_len is_digit bs) (no_longer_digits b bs v after y l h s);
}

no_longer_pair : (a b : ℕ) (bs v after : List ℕ) (y : Lexeme) → sort_of a ≡ 4 → a ∷ b ∷ bs ≡ v ++ after → Spells v y → length v ≤ 2
no_longer_pair a b bs [] after y m e s = omega arith
no_longer_pair a b bs (c ∷ []) after y m e s = omega arith
no_longer_pair a b bs (c ∷ d ∷ []) after y m e s = omega arith
no_longer_pair a b bs (c ∷ d ∷ f ∷ vs) after y m e s =
    let h : a ≡ c = cc in
    let q = mark_is c (d ∷ f ∷ vs) y (subst (λ n. sort_of n ≡ 4) h m) s in
    let never : None ≡ Some q.0 = q.1 in cc

pub longest_pair : (a b : ℕ) (bs : List ℕ) (k : TokenKind) → sort_of a ≡ 4 → double_of a b ≡ Some k → IsLongest (a ∷ b ∷ bs) (a ∷ b ∷ []) bs (Kind k)
longest_pair a b bs k m h = record {
  front = refl;
  spelled = mark h;
  longest = λ v after y e s. no_longer_pair a b bs v after y m e s;
}

-- no mark of two bytes begins the text
abbrev pub NoPair : ℕ → List ℕ → Type 0
NoPair a [] = Unit {0}
NoPair a (b ∷ _) = double_of a b ≡ None

no_longer_byte : (a : ℕ) (bs v after : List ℕ) (y : Lexeme) → sort_of a ≡ 4 → NoPair a bs → a ∷ bs ≡ v ++ after → Spells v y → (length v ≤ 1)
    × (length v ≡ 1 → (k : TokenKind) × (single_of a ≡ Some k))
no_longer_byte a bs [] after y m n e s = (omega arith, λ h. absurd (omega arith))
no_longer_byte a bs (c ∷ []) after y m n e s =
    let h : a ≡ c = cc in
    let q = mark_is c [] y (subst (λ n. sort_of n ≡ 4) h m) s in
    (omega arith, λ _. (q.0, ap single_of h ∙ q.1))
no_longer_byte a bs (c ∷ d ∷ []) after y m n e s =
    let h : a ≡ c = cc in
    let t : bs ≡ d ∷ after = cc in
    let q = mark_is c (d ∷ []) y (subst (λ n. sort_of n ≡ 4) h m) s in
    let none : double_of a d ≡ None = subst (NoPair a) t n in
    let some : double_of a d ≡ Some q.0 = ap (λ n. double_of n d) h ∙ q.1 in
    let never : None ≡ Some q.0 = sym none ∙ some in cc
no_longer_byte a bs (c ∷ d ∷ f ∷ vs) after y m n e s =
    let h : a ≡ c = cc in
    let q = mark_is c (d ∷ f ∷ vs) y (subst (λ n. sort_of n ≡ 4) h m) s in
    let never : None ≡ Some q.0 = q.1 in cc

pub longest_byte : (a : ℕ) (bs : List ℕ) (k : TokenKind) → sort_of a ≡ 4 → NoPair a bs → single_of a ≡ Some k → IsLongest (a ∷ bs) (a ∷ []) bs (Kind k)
longest_byte a bs k m n h = record {
  front = refl;
  spelled = mark h;
  longest = λ v after y e s. (no_longer_byte a bs v after y m n e s).0;
}

pub no_mark : (a : ℕ) (bs : List ℕ) → sort_of a ≡ 4 → NoPair a bs → single_of a ≡ None → (v after : List ℕ) (y : Lexeme) → a ∷ bs ≡ v ++ after → Spells v y → ⊥
no_mark a bs m n h v after y e s =
    let x = nonempty v y s in
    let q = no_longer_byte a bs v after y m n e s in
    let one : length v ≡ 1 = (let z = ap length x.2 in omega arith) in
    let k = q.1 one in
    let never : Some k.0 ≡ None = sym k.1 ∙ h in cc

pub no_pair : (a : ℕ) (bs : List ℕ) → pair_at (a ∷ bs) ≡ None → NoPair a bs
no_pair a [] h = tt
no_pair a (b ∷ bs) h = h
