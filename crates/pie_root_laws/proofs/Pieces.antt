-- A token in front of a text that is cut is cut from it.
use Rattle.std.proofs.Common.{◌≡◌, ◌≢◌, inl, inr, ℕ, ◌+◌, ◌<◌, ◌^◌, Bool, true, false, cond, ◌==◌, List, [], ◌∷◌, ◌++◌, length, take}
use Rattle.std.proofs.Common.{drop, Some, None, Ok, pos, refl, sym, subst, ap, arith, append_assoc}
use Rattle.std.specs.List.{list_all, prefix_len}
use Rattle.std.specs.Fmt.{decimal}
use Rattle.std.proofs.lemmas.Bool.Decides.{nat_tests, eqb_tells}
use Rattle.std.proofs.lemmas.Fmt.{decimal_nonempty, digits_decimal, digits_value-decimal}
use Rattle.pie_lexer.specs.Bytes.{is_letter, is_digit, is_word_byte, is_space, gap_len}
use Rattle.pie_lexer.specs.Words.{word_kind}
use Rattle.pie_lexer.specs.Marks.{double_of, single_of}
use Rattle.pie_lexer.specs.Quotes.{Inside, nothing, plain, escape}
use Rattle.pie_lexer.specs.Tokens.{number_of, Lexeme, Number, Kind, IsLongest, Means, Lexes, gap, token}
use Rattle.pie_lexer.specs.declared.token.Token.{Token}
use Rattle.pie_lexer.specs.declared.token.TokenKind.{TokenKind}
use Rattle.pie_lexer.specs.declared.token.TokenKind.TheVariants as kinds
use Rattle.pie_lexer.proofs.Prefixes.{both_true}
use Rattle.pie_lexer.proofs.Insides.{inside-append}
use Rattle.pie_lexer.proofs.Spelled.{sort_of}
use Rattle.pie_lexer.proofs.Longest.{NoPair, longest_word, longest_digits, longest_byte}
use Rattle.pie_lexer.proofs.Quoting.{longest_quoted}
use Rattle.pie_lexer.proofs.Takes.{own_digits}
use Rattle.pie_value.specs.Shown.{escape_byte, escaped, quoted}
use Rattle.pie_roots.specs.Kinds.{kinds_of}

-- wherever the text begins, it is cut into tokens of these kinds
abbrev pub Cuts : List ℕ → List TokenKind → Type 0
Cuts text ks = (at : ℕ) → (ts : List Token) × Lexes at text (Ok ts) × (kinds_of ts ≡ ks)

-- no word and no digits go on here
abbrev pub Ends : List ℕ → Type 0
Ends [] = Unit {0}
Ends (b ∷ _) = is_word_byte b ≡ false

one_token : (text w rest : List ℕ) (x : Lexeme) (k : TokenKind) (ks : List TokenKind) → gap_len text ≡ 0 → IsLongest text w rest x → Means x k
    → Cuts rest ks → Cuts text (k ∷ ks)
one_token text w rest x k ks g l m c at =
    let r = c (at + length w) in (
      record { kind = k; at = at; end = at + length w } ∷ r.0,
      token w rest x k g l m r.1,
      ap (λ ks. k ∷ ks) r.2,
    )

-- ---- what parts tokens

-- no comment and no space begins with this byte
abbrev Begins : ℕ → Type 0
Begins b = ((b == 47) ≡ false) × (is_space b ≡ false)

no_gap : (b : ℕ) (bs : List ℕ) → Begins b → gap_len (b ∷ bs) ≡ 0
no_gap b [] h = rw h.1 refl
no_gap b (c ∷ bs) h = rw (h.0, h.1) refl

space_gap : (rest : List ℕ) → gap_len (32 ∷ rest) ≡ 1
space_gap [] = refl
space_gap (b ∷ rest) = refl

pub space_cut : (rest : List ℕ) (ks : List TokenKind) → Cuts rest ks → Cuts (32 ∷ rest) ks
space_cut rest ks c at =
    let r = c (at + 1) in
    let e = space_gap rest in
    let l : Lexes (at + gap_len (32 ∷ rest)) (drop (gap_len (32 ∷ rest)) (32 ∷ rest)) (Ok r.0) =
    subst (λ n. Lexes (at + n) (drop n (32 ∷ rest)) (Ok r.0)) (sym e) r.1 in
    (r.0, gap (omega (arith, e)) l, r.2)

-- ---- marks

abbrev IsLone : ℕ → Type 0
IsLone a = (sort_of a ≡ 4) × Begins a × ((b : ℕ) → double_of a b ≡ None)

lone_pair : (a : ℕ) (rest : List ℕ) → ((b : ℕ) → double_of a b ≡ None) → NoPair a rest
lone_pair a [] h = tt
lone_pair a (b ∷ rest) h = h b

mark_cut : (a : ℕ) (rest : List ℕ) (k : TokenKind) (ks : List TokenKind) → IsLone a → single_of a ≡ Some k → Cuts rest ks → Cuts (a ∷ rest) (k ∷ ks)
mark_cut a rest k ks h s c =
    one_token (a ∷ rest) (a ∷ []) rest (Kind k) k ks (no_gap a rest h.1) (longest_byte a rest k h.0 (lone_pair a rest h.2) s) refl c

pub open_round : (rest : List ℕ) (ks : List TokenKind) → Cuts rest ks → Cuts (40 ∷ rest) (kinds.OpenRound ∷ ks)
open_round rest ks c = mark_cut 40 rest kinds.OpenRound ks (refl, (refl, refl), λ b. refl) refl c

pub close_round : (rest : List ℕ) (ks : List TokenKind) → Cuts rest ks → Cuts (41 ∷ rest) (kinds.CloseRound ∷ ks)
close_round rest ks c = mark_cut 41 rest kinds.CloseRound ks (refl, (refl, refl), λ b. refl) refl c

pub open_square : (rest : List ℕ) (ks : List TokenKind) → Cuts rest ks → Cuts (91 ∷ rest) (kinds.OpenSquare ∷ ks)
open_square rest ks c = mark_cut 91 rest kinds.OpenSquare ks (refl, (refl, refl), λ b. refl) refl c

pub close_square : (rest : List ℕ) (ks : List TokenKind) → Cuts rest ks → Cuts (93 ∷ rest) (kinds.CloseSquare ∷ ks)
close_square rest ks c = mark_cut 93 rest kinds.CloseSquare ks (refl, (refl, refl), λ b. refl) refl c

pub comma : (rest : List ℕ) (ks : List TokenKind) → Cuts rest ks → Cuts (44 ∷ rest) (kinds.Comma ∷ ks)
comma rest ks c = mark_cut 44 rest kinds.Comma ks (refl, (refl, refl), λ b. refl) refl c

-- ---- words

-- the test fails at the front of what is left
abbrev Fails : (ℕ → Bool) → List ℕ → Type 0
Fails p [] = Unit {0}
Fails p (b ∷ _) = p b ≡ false

stops : (p : ℕ → Bool) (rest : List ℕ) → Fails p rest → prefix_len p rest ≡ 0
stops p [] h = refl
stops p (b ∷ rest) h = rw h refl

passes : (p : ℕ → Bool) (ws rest : List ℕ) → list_all p ws ≡ true → Fails p rest → length ws ≡ prefix_len p (ws ++ rest)
passes p [] rest h f = sym (stops p rest f)
passes p (w ∷ ws) rest h f =
    let q = both_true (p w) (list_all p ws) h in
    let e = passes p ws rest q.1 f in rw q.0 (omega (arith, e))

front_of : (ws rest : List ℕ) → take (length ws) (ws ++ rest) ≡ ws
front_of [] rest = refl
front_of (w ∷ ws) rest = ap (λ t. w ∷ t) (front_of ws rest)

rest_of : (ws rest : List ℕ) → drop (length ws) (ws ++ rest) ≡ rest
rest_of [] rest = refl
rest_of (w ∷ ws) rest = rest_of ws rest

ends_fails : (rest : List ℕ) → Ends rest → Fails is_word_byte rest
ends_fails [] h = tt
ends_fails (b ∷ rest) h = h

no_digit : (b : ℕ) → is_word_byte b ≡ false → is_digit b ≡ false
no_digit b h = grind (arith, nat_tests)

ends_digits : (rest : List ℕ) → Ends rest → Fails is_digit rest
ends_digits [] h = tt
ends_digits (b ∷ rest) h = no_digit b h

letter_begins : (b : ℕ) → is_letter b ≡ true → Begins b
letter_begins b h = (grind (arith, nat_tests), grind (arith, nat_tests))

digit_begins : (b : ℕ) → is_digit b ≡ true → Begins b
digit_begins b h = (grind (arith, nat_tests), grind (arith, nat_tests))

whole_word : (b : ℕ) (ws rest : List ℕ) → is_letter b ≡ true → list_all is_word_byte ws ≡ true → Ends rest
    → IsLongest (b ∷ (ws ++ rest)) (b ∷ ws) rest (Kind (word_kind (b ∷ ws)))
whole_word b ws rest l h e =
    let text = b ∷ (ws ++ rest) in
    let q = longest_word b (ws ++ rest) (length ws) (passes is_word_byte ws rest h (ends_fails rest e)) l in
    subst (λ w. IsLongest text (b ∷ w) rest (Kind (word_kind (b ∷ w)))) (front_of ws rest)
    (subst (λ r. IsLongest text (b ∷ take (length ws) (ws ++ rest)) r (Kind (word_kind (b ∷ take (length ws) (ws ++ rest))))) (rest_of ws rest) q)

pub word_cut : (b : ℕ) (ws rest : List ℕ) (k : TokenKind) (ks : List TokenKind) → is_letter b ≡ true → list_all is_word_byte ws ≡ true → Ends rest
    → word_kind (b ∷ ws) ≡ k → Cuts rest ks → Cuts (b ∷ (ws ++ rest)) (k ∷ ks)
word_cut b ws rest k ks l h e s c =
    one_token (b ∷ (ws ++ rest)) (b ∷ ws) rest (Kind (word_kind (b ∷ ws))) k ks (no_gap b (ws ++ rest) (letter_begins b l)) (whole_word b ws rest l h e)
    (sym s) c

-- ---- numbers

whole_digits : (b : ℕ) (ds rest : List ℕ) → is_digit b ≡ true → list_all is_digit ds ≡ true → Ends rest
    → IsLongest (b ∷ (ds ++ rest)) (b ∷ ds) rest (Number (number_of (b ∷ ds)))
whole_digits b ds rest l h e =
    let text = b ∷ (ds ++ rest) in
    let q = longest_digits b (ds ++ rest) (length ds) (passes is_digit ds rest h (ends_digits rest e)) l in
    subst (λ w. IsLongest text (b ∷ w) rest (Number (number_of (b ∷ w)))) (front_of ds rest)
    (subst (λ r. IsLongest text (b ∷ take (length ds) (ds ++ rest)) r (Number (number_of (b ∷ take (length ds) (ds ++ rest))))) (rest_of ds rest) q)

digits_cut : (ds rest : List ℕ) (n : ℕ) (ks : List TokenKind) → 0 < length ds → list_all is_digit ds ≡ true → number_of ds ≡ n → n < 2 ^ 63 → Ends rest
    → Cuts rest ks → Cuts (ds ++ rest) (kinds.Int (pos n) ∷ ks)
digits_cut [] rest n ks some h v small e c = absurd (omega arith)
digits_cut (d ∷ ds) rest n ks some h v small e c =
    let q = both_true (is_digit d) (list_all is_digit ds) h in
    let m : Means (Number (number_of (d ∷ ds))) (kinds.Int (pos n)) = (omega (arith, v), ap (λ n. kinds.Int (pos n)) (sym v)) in
    one_token (d ∷ (ds ++ rest)) (d ∷ ds) rest (Number (number_of (d ∷ ds))) (kinds.Int (pos n)) ks (no_gap d (ds ++ rest) (digit_begins d q.0))
    (whole_digits d ds rest q.0 q.1 e) m c

wider : (n : ℕ) → n < 2 ^ 63 → n < 2 ^ 64
wider n h = omega arith

pub decimal_cut : (n : ℕ) (rest : List ℕ) (ks : List TokenKind) → n < 2 ^ 63 → Ends rest → Cuts rest ks
    → Cuts (decimal n ++ rest) (kinds.Int (pos n) ∷ ks)
decimal_cut n rest ks small e c =
    let w = wider n small in
    digits_cut (decimal n) rest n ks (decimal_nonempty n w) (digits_decimal own_digits n w) (digits_value-decimal own_digits n w) small e c

-- a minus before digits
no_arrow : (d : ℕ) → is_digit d ≡ true → double_of 45 d ≡ None
no_arrow d h = let e : (d == 62) ≡ false = grind (arith, nat_tests) in rw e refl

minus_pair : (ds rest : List ℕ) → 0 < length ds → list_all is_digit ds ≡ true → NoPair 45 (ds ++ rest)
minus_pair [] rest some h = absurd (omega arith)
minus_pair (d ∷ ds) rest some h = no_arrow d (both_true (is_digit d) (list_all is_digit ds) h).0

pub minus_cut : (n : ℕ) (rest : List ℕ) (ks : List TokenKind) → n < 2 ^ 63 → Cuts (decimal n ++ rest) ks → Cuts (45 ∷ (decimal n ++ rest)) (kinds.Minus ∷ ks)
minus_cut n rest ks small c =
    let w = wider n small in
    let p = minus_pair (decimal n) rest (decimal_nonempty n w) (digits_decimal own_digits n w) in
    one_token (45 ∷ (decimal n ++ rest)) (45 ∷ []) (decimal n ++ rest) (Kind kinds.Minus) kinds.Minus ks (no_gap 45 (decimal n ++ rest) (refl, refl))
    (longest_byte 45 (decimal n ++ rest) kinds.Minus refl p refl) refl c

-- ---- texts

-- a byte that needs no escape, but for a tab
tab_or_plain : (b : ℕ) → b ≢ 34 → b ≢ 92 → b ≢ 10 → Inside (cond (b == 9) (92 ∷ 116 ∷ []) (b ∷ [])) (b ∷ [])
tab_or_plain b x y z = elim (eqb_tells b 9) [
  | inl t ↦ rw t.0 (subst (λ n. Inside (92 ∷ 116 ∷ []) (n ∷ [])) (sym t.1) (escape refl nothing))
  | inr t ↦ rw t.0 (plain x y z nothing)
]

escape_inside : (b : ℕ) → Inside (escape_byte b) (b ∷ [])
escape_inside b = elim (eqb_tells b 34) [
  | inl h ↦ subst (λ n. Inside (escape_byte n) (n ∷ [])) (sym h.1) (escape refl nothing)
  | inr q ↦ elim (eqb_tells b 92) [
    | inl h ↦ subst (λ n. Inside (escape_byte n) (n ∷ [])) (sym h.1) (escape refl nothing)
    | inr s ↦ elim (eqb_tells b 10) [
      | inl h ↦ subst (λ n. Inside (escape_byte n) (n ∷ [])) (sym h.1) (escape refl nothing)
      | inr l ↦ rw (q.0, s.0, l.0) (tab_or_plain b q.1 s.1 l.1)
    ]
  ]
]

pub escaped_inside : (bs : List ℕ) → Inside (escaped bs) bs
escaped_inside [] = nothing
escaped_inside (b ∷ bs) = inside-append (escape_inside b) (escaped_inside bs)

pub text_cut : (bs rest : List ℕ) (ks : List TokenKind) → Cuts rest ks → Cuts (quoted bs ++ rest) (kinds.Text bs ∷ ks)
text_cut bs rest ks c =
    let inner = escaped bs in
    let e : quoted bs ++ rest ≡ 34 ∷ (inner ++ 34 ∷ rest) = ap (λ t. 34 ∷ t) (append_assoc inner (34 ∷ []) rest) in
    let text = 34 ∷ (inner ++ 34 ∷ rest) in
    subst (λ t. Cuts t (kinds.Text bs ∷ ks)) (sym e)
    (one_token text (34 ∷ (inner ++ 34 ∷ [])) rest (Kind (kinds.Text bs)) (kinds.Text bs) ks (no_gap 34 (inner ++ 34 ∷ rest) (refl, refl))
    (longest_quoted inner bs rest (escaped_inside bs)) refl c)
