-- A text has no more functions than bytes, and no longer names.
use Rattle.std.proofs.Common.{◌≡◌, ℕ, ◌+◌, ◌<◌, ◌≤◌, Bool, true, false, not, cond, List, [], ◌∷◌, length, drop, refl, sym, ap, ◌∙◌, subst, arith}
use Rattle.std.specs.Prelude.{◌&&◌, ◌==◌, All, Option, Some, None, IfSome, Result, Ok, Err}
use Rattle.std.specs.List.{list_all}
use Rattle.std.proofs.lemmas.Bool.{false≢true}
use Rattle.std.proofs.lemmas.List.{length-append, length-drop}
use Rattle.std.proofs.lemmas.List.Elements.{All-nil, All-cons, All-head, All-tail, All-append, All-weaker}
use Rattle.pie_lexer.specs.declared.error.LexError.{LexError}
use Rattle.pie_lexer.specs.declared.token.Token.{Token}
use Rattle.pie_lexer.specs.declared.token.TokenKind.{TokenKind}
use Rattle.pie_lexer.specs.declared.token.TokenKind.TheVariants as kinds
use Rattle.pie_lexer.specs.Bytes.{gap_len}
use Rattle.pie_lexer.specs.Marks as marks
use Rattle.pie_lexer.specs.Marks.{mark_of}
use Rattle.pie_lexer.specs.Tokens.{Lexeme, Number, Kind, Spells, word, digits, quoted, mark, Means, before, Lexes, ended, gap, token, refused}
use Rattle.pie_lexer.specs.Words as words
use Rattle.pie_lexer.specs.Words.{same_text, keyword_of, named, word_kind}
use Rattle.pie_lexer.proofs.Spelled.{nonempty}
use Rattle.pie_digest.specs.Digests.{is_func, name_in, name_of, digest_here, digests_of}

-- ---- the name of a token

abbrev is_name : TokenKind → Bool
is_name (kinds.Name n) = true
is_name k = false

no_name : (k : TokenKind) → is_name k ≡ false → name_in k ≡ []
no_name (kinds.Name n) e = absurd (false≢true (sym e))
no_name k e = refl

-- what is found in a table without names is no name
abbrev NoName : Option TokenKind → Type 0
NoName o = IfSome o (λ k. is_name k ≡ false)

chosen : (b c : Bool) (k : TokenKind) (o : Option TokenKind) → (not (is_name k) && c) ≡ true → (c ≡ true → NoName o) → NoName (cond b (Some k) o)
chosen true c k o h more = plain (is_name k) h
  where
    plain : (n : Bool) → (not n && c) ≡ true → n ≡ false
    plain true e = sym e
    plain false e = refl
chosen false c k o h more = more (rest (not (is_name k)) h)
  where
    rest : (n : Bool) → (n && c) ≡ true → c ≡ true
    rest true e = e
    rest false e = absurd (false≢true e)

in_words : (w : List ℕ) (rows : List (List ℕ × TokenKind)) → list_all (λ (r : List ℕ × TokenKind). not (is_name r.1)) rows ≡ true
    → NoName (words.look_up w rows)
in_words w [] h = tt
in_words w (r ∷ rows) h =
    chosen (same_text w r.0) (list_all (λ (r : List ℕ × TokenKind). not (is_name r.1)) rows) r.1 (words.look_up w rows) h (in_words w rows)

in_marks : (a b : ℕ) (rows : List marks.Row) → list_all (λ (r : marks.Row). not (is_name r.2)) rows ≡ true → NoName (marks.look_up a b rows)
in_marks a b [] h = tt
in_marks a b (r ∷ rows) h =
    chosen (a == r.0 && b == r.1) (list_all (λ (r : marks.Row). not (is_name r.2)) rows) r.2 (marks.look_up a b rows) h (in_marks a b rows)

either_none : (o p : Option TokenKind) → NoName o → NoName p → NoName (words.or_else o p)
either_none (Some k) p h g = h
either_none None p h g = g

keyword_none : (w : List ℕ) → NoName (keyword_of w)
keyword_none w = either_none _ _ (in_words w words.type_words refl) (either_none _ _ (in_words w words.flow_words refl) (in_words w words.effect_words refl))

named_within : (w : List ℕ) (o : Option TokenKind) → NoName o → length (name_in (named w o)) ≤ length w
named_within w None h = omega arith
named_within w (Some k) h = omega (arith, ap length (no_name k h))

mark_none : (w : List ℕ) → NoName (mark_of w)
mark_none [] = tt
mark_none (a ∷ []) = in_marks a 0 marks.singles refl
mark_none (a ∷ b ∷ []) = in_marks a b marks.doubles refl
mark_none (a ∷ b ∷ c ∷ w) = tt

-- the name of a lexeme
abbrev lexeme_name : Lexeme → List ℕ
lexeme_name (Number n) = []
lexeme_name (Kind k) = name_in k

spelled_within : (w : List ℕ) (x : Lexeme) → Spells w x → length (lexeme_name x) ≤ length w
spelled_within w x (word {b = b} {bs = bs} l h) = named_within (b ∷ bs) (keyword_of (b ∷ bs)) (keyword_none (b ∷ bs))
spelled_within w x (digits d h) = omega arith
spelled_within w x (quoted i e) = omega arith
spelled_within w x (mark {k = k} e) =
    let none : is_name k ≡ false = subst (λ o. NoName o) e (mark_none w) in omega (arith, ap length (no_name k none))

meant_within : (x : Lexeme) (k : TokenKind) → Means x k → length (name_in k) ≤ length (lexeme_name x)
meant_within (Number n) k h = omega (arith, ap (λ j. length (name_in j)) h.1)
meant_within (Kind y) k h = omega (arith, ap (λ j. length (name_in j)) h)

-- ---- the tokens of a text

-- so many tokens at most, and no name longer
abbrev Within : ℕ → List Token → Type 0
Within n ts = (length ts ≤ n) × All (λ (t : Token). length (name_in t.kind) ≤ n) ts

abbrev Fits : ℕ → Result (List Token) LexError → Type 0
Fits n (Ok ts) = Within n ts
Fits n (Err e) = Unit {0}

wider : (m n : ℕ) (r : Result (List Token) LexError) → m ≤ n → Fits m r → Fits n r
wider m n (Ok ts) le h = (
  omega (arith, le, h.0),
  All-weaker (λ (t : Token). length (name_in t.kind) ≤ m) (λ (t : Token). length (name_in t.kind) ≤ n) (λ t l. omega (arith, le, l)) ts h.1,
)
wider m n (Err e) le h = tt

one_more : (m n : ℕ) (t : Token) (r : Result (List Token) LexError) → m < n → length (name_in t.kind) ≤ n → Fits m r → Fits n (before t r)
one_more m n t (Ok ts) less short h =
    let w : Within n ts = wider m n (Ok ts) (omega (arith, less)) h in
    (omega (arith, less, h.0), All-cons (λ (u : Token). length (name_in u.kind) ≤ n) t ts short w.1)
one_more m n t (Err e) less short h = tt

fits : (at : ℕ) (text : List ℕ) (r : Result (List Token) LexError) → Lexes at text r → Fits (length text) r
fits _ _ _ ended = (omega arith, All-nil (λ (t : Token). length (name_in t.kind) ≤ 0))
fits _ _ _ (gap {at = at} {text = text} {r = r} g more) =
    wider (length (drop (gap_len text) text)) (length text) r (omega (arith, length-drop (gap_len text) text))
    (fits (at + gap_len text) (drop (gap_len text) text) r more)
fits _ _ _ (token {at = at} {text = text} w rest x k {r = r} g longest means more) =
    let n = nonempty w x longest.spelled in
    let some : 0 < length w = subst (λ (v : List ℕ). 0 < length v) (sym n.2) (omega arith) in
    let whole : length text ≡ length w + length rest = ap length longest.front ∙ length-append w rest in
    one_more (length rest) (length text) (record { kind = k; at = at; end = at + length w }) r (omega (arith, some, whole))
    (omega (arith, whole, meant_within x k means, spelled_within w x longest.spelled)) (fits (at + length w) rest r more)
fits _ _ _ (refused g h) = tt

-- ---- the rows of functions

row_within : (n : ℕ) (f : Token) (ts : List Token) → All (λ (t : Token). length (name_in t.kind) ≤ n) (f ∷ ts) → length (name_of (f ∷ ts)) ≤ n
row_within n f [] h = omega arith
row_within n f (t ∷ ts) h =
    All-head (λ (t : Token). length (name_in t.kind) ≤ n) t ts (All-tail (λ (t : Token). length (name_in t.kind) ≤ n) f (t ∷ ts) h)

here_few : (b : Bool) (row : List ℕ × List ℕ) → length (cond b (row ∷ []) []) ≤ 1
here_few true row = omega arith
here_few false row = omega arith

here_short : (n : ℕ) (b : Bool) (row : List ℕ × List ℕ) → length row.0 ≤ n → All (λ (f : List ℕ × List ℕ). length f.0 ≤ n) (cond b (row ∷ []) [])
here_short n true row l = All-cons (λ (f : List ℕ × List ℕ). length f.0 ≤ n) row [] l (All-nil (λ (f : List ℕ × List ℕ). length f.0 ≤ n))
here_short n false row l = All-nil (λ (f : List ℕ × List ℕ). length f.0 ≤ n)

few_here : (text : List ℕ) (t : Token) (ts : List Token) → length (digest_here text (t ∷ ts)) ≤ 1
few_here text t ts = here_few (is_func t.kind) _

few_rows : (text : List ℕ) (ts : List Token) → length (digests_of text ts) ≤ length ts
few_rows text [] = omega arith
few_rows text (t ∷ ts) = omega (arith, length-append (digest_here text (t ∷ ts)) (digests_of text ts), few_here text t ts, few_rows text ts)

short_here : (text : List ℕ) (n : ℕ) (t : Token) (ts : List Token) → All (λ (u : Token). length (name_in u.kind) ≤ n) (t ∷ ts)
    → All (λ (f : List ℕ × List ℕ). length f.0 ≤ n) (digest_here text (t ∷ ts))
short_here text n t ts h = here_short n (is_func t.kind) _ (row_within n t ts h)

short_rows : (text : List ℕ) (n : ℕ) (ts : List Token) → All (λ (t : Token). length (name_in t.kind) ≤ n) ts
    → All (λ (f : List ℕ × List ℕ). length f.0 ≤ n) (digests_of text ts)
short_rows text n [] h = All-nil (λ (f : List ℕ × List ℕ). length f.0 ≤ n)
short_rows text n (t ∷ ts) h = All-append (λ (f : List ℕ × List ℕ). length f.0 ≤ n) (digest_here text (t ∷ ts)) (digests_of text ts)
    (short_here text n t ts h) (short_rows text n ts (All-tail (λ (t : Token). length (name_in t.kind) ≤ n) t ts h))

-- a text has at most as many functions as bytes, and their names are no longer
pub rows_within : (text : List ℕ) (ts : List Token) → Lexes 0 text (Ok ts)
    → (length (digests_of text ts) ≤ length text) × All (λ (f : List ℕ × List ℕ). length f.0 ≤ length text) (digests_of text ts)
rows_within text ts h =
    let w : Within (length text) ts = fits 0 text (Ok ts) h in (omega (arith, few_rows text ts, w.0), short_rows text (length text) ts w.1)
