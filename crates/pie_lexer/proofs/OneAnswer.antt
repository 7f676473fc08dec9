-- A text has one answer.
use Rattle.std.proofs.Common.{◌≡◌, inl, inr, ℕ, ◌+◌, ◌≤◌, List, [], ◌∷◌, ◌++◌, length, drop, Some, Result, Ok, Err, refl, sym, subst, ap, ◌∙◌, arith}
use Rattle.std.proofs.Common.{append_assoc}
use Rattle.pie_lexer.specs.Bytes.{gap_len}
use Rattle.pie_lexer.specs.Quotes.{Inside, EndsOpen, IsBadEscape}
use Rattle.pie_lexer.specs.Tokens.{Lexeme, Number, Kind, Spells, word, digits, quoted, mark, IsLongest, Means, Refused, wide, unclosed, escape, char, before}
use Rattle.pie_lexer.specs.Tokens.{Lexes, ended, gap, token, refused}
use Rattle.pie_lexer.specs.inner.Answers.{IsAnswer, IsOnlyAnswer}
use Rattle.pie_lexer.specs.declared.token.Token.{Token}
use Rattle.pie_lexer.specs.declared.token.TokenKind.{TokenKind}
use Rattle.pie_lexer.specs.declared.token.TokenKind.TheVariants as kinds
use Rattle.pie_lexer.specs.declared.error.LexError.{LexError}
use Rattle.pie_lexer.specs.declared.error.LexError.TheVariants.{BadChar, OpenText, BadEscape, WideInt, OutOfMemory}
use Rattle.pie_lexer.proofs.Spelled.{sort_of, letter_sort, digit_sort, mark_sort, word_is, digits_are, quoted_is, mark_is, nonempty}
use Rattle.pie_lexer.proofs.Quoting.{Stops, stops_at_quote, stops_open, stops_bad, inside_same}

-- two fronts of one length are one
same_prefix : (v w r q : List ℕ) → length v ≡ length w → v ++ r ≡ w ++ q → (v ≡ w) × (r ≡ q)
same_prefix [] [] r q l e = (refl, e)
same_prefix [] (b ∷ w) r q l e = absurd (omega arith)
same_prefix (a ∷ v) [] r q l e = absurd (omega arith)
same_prefix (a ∷ v) (b ∷ w) r q l e =
    let h : a ≡ b = cc in
    let t : v ++ r ≡ w ++ q = cc in
    let z = same_prefix v w r q (omega arith) t in (cc (h, z.0), z.1)

-- what is spelled is one lexeme
spelled_same : (w : List ℕ) (x y : Lexeme) → Spells w x → Spells w y → x ≡ y
spelled_same w x y (word {b = b} {bs = bs} l h) t = sym (word_is b bs y (letter_sort b l) t).1
spelled_same w x y (digits {b = b} {bs = bs} d h) t = sym (digits_are b bs y (digit_sort b d) t).1
spelled_same w x y (quoted {inner = inner} {said = said} i e) t =
    let q = quoted_is 34 (inner ++ 34 ∷ []) y refl (subst (λ v. Spells v y) e t) in
    let z = inside_same (34 ∷ []) (34 ∷ []) i q.3 (stops_at_quote []) (stops_at_quote []) q.2 in
    ap (λ s. Kind (kinds.Text s)) z.1 ∙ sym q.4
spelled_same [] x y (mark e) t = let n = nonempty [] y t in let k : [] ≡ n.0 ∷ n.1 = n.2 in cc
spelled_same (b ∷ bs) x y (mark {k = k} e) t =
    let q = mark_is b bs y (mark_sort b bs k e) t in
    let o : Some k ≡ Some q.0 = sym e ∙ q.1 in
    let h : k ≡ q.0 = cc in ap Kind h ∙ sym q.2

-- the longest is one
longest_same : (text v r w q : List ℕ) (x y : Lexeme) → IsLongest text v r x → IsLongest text w q y → (v ≡ w) × (r ≡ q) × (x ≡ y)
longest_same text v r w q x y a b =
    let l : length w ≤ length v = a.longest w q y b.front b.spelled in
    let m : length v ≤ length w = b.longest v r x a.front a.spelled in
    let z = same_prefix v w r q (omega arith) (sym a.front ∙ b.front) in
    (z.0, z.1, spelled_same w x y (subst (λ u. Spells u x) z.0 a.spelled) b.spelled)

means_same : (x : Lexeme) (k j : TokenKind) → Means x k → Means x j → k ≡ j
means_same (Number n) k j a b = a.1 ∙ sym b.1
means_same (Kind z) k j a b = a ∙ sym b

not_empty : (w rest : List ℕ) (x : Lexeme) → IsLongest [] w rest x → ⊥
not_empty w rest x h =
    let n = nonempty w x h.spelled in
    let e : [] ≡ n.0 ∷ (n.1 ++ rest) = h.front ∙ ap (λ v. v ++ rest) n.2 in cc

-- a text in quotes is closed only where no other ending is
closed_only : (text inner said r w rest : List ℕ) (x : Lexeme) → text ≡ 34 ∷ (inner ++ r) → Inside inner said → Stops r → IsLongest text w rest x
    → r ≡ 34 ∷ rest
closed_only text inner said r w rest x e i s h =
    let n = nonempty w x h.spelled in
    let t : 34 ∷ (inner ++ r) ≡ n.0 ∷ (n.1 ++ rest) = sym e ∙ h.front ∙ ap (λ v. v ++ rest) n.2 in
    let b : 34 ≡ n.0 = cc in
    let u : inner ++ r ≡ n.1 ++ rest = cc in
    let q = quoted_is n.0 n.1 x (subst (λ c. sort_of c ≡ 3) b refl) (subst (λ v. Spells v x) n.2 h.spelled) in
    let z = inside_same r (34 ∷ rest) i q.3 s (stops_at_quote rest) (u ∙ ap (λ v. v ++ rest) q.2 ∙ append_assoc q.0 (34 ∷ []) rest) in z.2

open_not_closed : (r rest : List ℕ) → EndsOpen r → r ≡ 34 ∷ rest → ⊥
open_not_closed [] rest h e = cc
open_not_closed (b ∷ []) rest h e = let k : b ≡ 34 = cc in elim h [ inl p ↦ absurd (omega arith) | inr p ↦ absurd (omega arith) ]
open_not_closed (b ∷ c ∷ r) rest h e = let k : b ≡ 34 = cc in absurd (omega arith)

bad_not_closed : (r rest : List ℕ) → IsBadEscape r → r ≡ 34 ∷ rest → ⊥
bad_not_closed [] rest h e = h
bad_not_closed (b ∷ []) rest h e = h
bad_not_closed (b ∷ c ∷ r) rest h e = let k : b ≡ 34 = cc in let p = h.0 in absurd (omega arith)

open_not_bad : (r q : List ℕ) → EndsOpen r → IsBadEscape q → r ≡ q → ⊥
open_not_bad r [] h k e = k
open_not_bad r (b ∷ []) h k e = k
open_not_bad [] (b ∷ c ∷ q) h k e = cc
open_not_bad (a ∷ []) (b ∷ c ∷ q) h k e = cc
open_not_bad (a ∷ d ∷ r) (b ∷ c ∷ q) h k e = let x : a ≡ b = cc in let p = k.0 in absurd (omega arith)

taken_not_refused : (at : ℕ) (text w rest : List ℕ) (x : Lexeme) (k : TokenKind) (e : LexError) → IsLongest text w rest x → Means x k → Refused at text e → ⊥
taken_not_refused at text w rest x k e h m (wide v q n l big) =
    let z = longest_same text w rest v q x (Number n) h l in
    let m2 : Means (Number n) k = subst (λ y. Means y k) z.2 m in
    let small = m2.0 in absurd (omega arith)
taken_not_refused at text w rest x k e h m (unclosed inner said r t i o) = open_not_closed r rest o
    (closed_only text inner said r w rest x t i (stops_open r o) h)
taken_not_refused at text w rest x k e h m (escape inner said r t i o) = bad_not_closed r rest o (closed_only text inner said r w rest x t i (stops_bad r o) h)
taken_not_refused at text w rest x k e h m (char b r t q none) = none w rest x h.front h.spelled

quote_not_wide : (text inner r w rest : List ℕ) (n : ℕ) (said : List ℕ) → text ≡ 34 ∷ (inner ++ r) → Inside inner said → Stops r → (r ≡ 34 ∷ rest → ⊥)
    → IsLongest text w rest (Number n) → ⊥
quote_not_wide text inner r w rest n said e i s never h = never (closed_only text inner said r w rest (Number n) e i s h)

refused_same : (at : ℕ) (text : List ℕ) (e f : LexError) → Refused at text e → Refused at text f → e ≡ f
refused_same at text e f (wide w rest n l big) (wide w2 rest2 n2 l2 big2) = refl
refused_same at text e f (wide w rest n l big) (unclosed inner said r t i o) = absurd
    (quote_not_wide text inner r w rest n said t i (stops_open r o) (open_not_closed r rest o) l)
refused_same at text e f (wide w rest n l big) (escape inner said r t i o) = absurd
    (quote_not_wide text inner r w rest n said t i (stops_bad r o) (bad_not_closed r rest o) l)
refused_same at text e f (wide w rest n l big) (char b r t q none) = absurd (none w rest (Number n) l.front l.spelled)
refused_same at text e f (unclosed inner said r t i o) (wide w rest n l big) = absurd
    (quote_not_wide text inner r w rest n said t i (stops_open r o) (open_not_closed r rest o) l)
refused_same at text e f (unclosed inner said r t i o) (unclosed inner2 said2 r2 t2 i2 o2) = refl
refused_same at text e f (unclosed inner said r t i o) (escape inner2 said2 r2 t2 i2 o2) =
    let u : inner ++ r ≡ inner2 ++ r2 = (let v : 34 ∷ (inner ++ r) ≡ 34 ∷ (inner2 ++ r2) = sym t ∙ t2 in cc) in
    let z = inside_same r r2 i i2 (stops_open r o) (stops_bad r2 o2) u in absurd (open_not_bad r r2 o o2 z.2)
refused_same at text e f (unclosed inner said r t i o) (char b r2 t2 q none) = absurd
    (q (let v : 34 ∷ (inner ++ r) ≡ b ∷ r2 = sym t ∙ t2 in let w : b ≡ 34 = cc in w))
refused_same at text e f (escape inner said r t i o) (wide w rest n l big) = absurd
    (quote_not_wide text inner r w rest n said t i (stops_bad r o) (bad_not_closed r rest o) l)
refused_same at text e f (escape inner said r t i o) (unclosed inner2 said2 r2 t2 i2 o2) =
    let u : inner ++ r ≡ inner2 ++ r2 = (let v : 34 ∷ (inner ++ r) ≡ 34 ∷ (inner2 ++ r2) = sym t ∙ t2 in cc) in
    let z = inside_same r r2 i i2 (stops_bad r o) (stops_open r2 o2) u in absurd (open_not_bad r2 r o2 o (sym z.2))
refused_same at text e f (escape inner said r t i o) (escape inner2 said2 r2 t2 i2 o2) =
    let u : inner ++ r ≡ inner2 ++ r2 = (let v : 34 ∷ (inner ++ r) ≡ 34 ∷ (inner2 ++ r2) = sym t ∙ t2 in cc) in
    let z = inside_same r r2 i i2 (stops_bad r o) (stops_bad r2 o2) u in ap (λ v. BadEscape (at + 1 + length v)) z.0
refused_same at text e f (escape inner said r t i o) (char b r2 t2 q none) = absurd
    (q (let v : 34 ∷ (inner ++ r) ≡ b ∷ r2 = sym t ∙ t2 in let w : b ≡ 34 = cc in w))
refused_same at text e f (char b r2 t2 q none) (wide w rest n l big) = absurd (none w rest (Number n) l.front l.spelled)
refused_same at text e f (char b r2 t2 q none) (unclosed inner said r t i o) = absurd
    (q (let v : 34 ∷ (inner ++ r) ≡ b ∷ r2 = sym t ∙ t2 in let w : b ≡ 34 = cc in w))
refused_same at text e f (char b r2 t2 q none) (escape inner said r t i o) = absurd
    (q (let v : 34 ∷ (inner ++ r) ≡ b ∷ r2 = sym t ∙ t2 in let w : b ≡ 34 = cc in w))
refused_same at text e f (char b r t q none) (char b2 r2 t2 q2 none2) = refl

nothing_refused : (at : ℕ) (e : LexError) → Refused at [] e → ⊥
nothing_refused at e (wide w rest n l big) = not_empty w rest (Number n) l
nothing_refused at e (unclosed inner said r t i o) = cc
nothing_refused at e (escape inner said r t i o) = cc
nothing_refused at e (char b r t q none) = cc

pub one_answer : (at : ℕ) (text : List ℕ) (r s : Result (List Token) LexError) → Lexes at text r → Lexes at text s → r ≡ s
one_answer at text r s ended ended = refl
one_answer at text r s ended (gap h l) = absurd (omega arith)
one_answer at text r s ended (token w rest x k g h m l) = absurd (not_empty w rest x h)
one_answer at text r s ended (refused {e = e} g f) = absurd (nothing_refused at e f)
one_answer at text r s (gap h l) ended = absurd (omega arith)
one_answer at text r s (gap h l) (gap h2 l2) = one_answer (at + gap_len text) (drop (gap_len text) text) r s l l2
one_answer at text r s (gap h l) (token w rest x k g h2 m l2) = absurd (omega arith)
one_answer at text r s (gap h l) (refused g f) = absurd (omega arith)
one_answer at text r s (token w rest x k g h m l) ended = absurd (not_empty w rest x h)
one_answer at text r s (token w rest x k g h m l) (gap h2 l2) = absurd (omega arith)
one_answer at text r s (token w rest x k {r = r1} g h m l) (token w2 rest2 x2 k2 {r = r2} g2 h2 m2 l2) =
    let z = longest_same text w rest w2 rest2 x x2 h h2 in
    let n : k ≡ k2 = means_same x k k2 m (subst (λ y. Means y k2) (sym z.2) m2) in
    let p : Lexes (at + length w) rest r2 = subst (λ y. Lexes (at + length w) y r2) (sym z.1) (subst (λ y. Lexes (at + length y) rest2 r2) (sym z.0) l2) in
    let o : r1 ≡ r2 = one_answer (at + length w) rest r1 r2 l p in
    let a : before (record { kind = k; at = at; end = at + length w }) r1 ≡ before (record { kind = k2; at = at; end = at + length w }) r1 = ap
    (λ j. before (record { kind = j; at = at; end = at + length w }) r1) n in
    let b : before (record { kind = k2; at = at; end = at + length w }) r1 ≡ before (record { kind = k2; at = at; end = at + length w2 }) r1 = ap
    (λ y. before (record { kind = k2; at = at; end = at + length y }) r1) z.0 in
    let c : before (record { kind = k2; at = at; end = at + length w2 }) r1 ≡ before (record { kind = k2; at = at; end = at + length w2 }) r2 = ap
    (λ y. before (record { kind = k2; at = at; end = at + length w2 }) y) o in
    a ∙ b ∙ c
one_answer at text r s (token w rest x k g h m l) (refused {e = e} g2 f) = absurd (taken_not_refused at text w rest x k e h m f)
one_answer at text r s (refused {e = e} g f) ended = absurd (nothing_refused at e f)
one_answer at text r s (refused g f) (gap h l) = absurd (omega arith)
one_answer at text r s (refused {e = e} g f) (token w rest x k g2 h m l) = absurd (taken_not_refused at text w rest x k e h m f)
one_answer at text r s (refused {e = e} g f) (refused {e = e2} g2 f2) = ap Err (refused_same at text e e2 f f2)

pub only_answer : {A : Type 0} (view : A → List Token) (x : Result A LexError) (text : List ℕ) → IsAnswer view x text → IsOnlyAnswer view x text
only_answer view (Ok a) text h = λ r l. one_answer 0 text r (Ok (view a)) l h
only_answer view (Err (BadChar i)) text h = λ r l. one_answer 0 text r (Err (BadChar i)) l h
only_answer view (Err (OpenText i)) text h = λ r l. one_answer 0 text r (Err (OpenText i)) l h
only_answer view (Err (BadEscape i)) text h = λ r l. one_answer 0 text r (Err (BadEscape i)) l h
only_answer view (Err (WideInt i)) text h = λ r l. one_answer 0 text r (Err (WideInt i)) l h
only_answer view (Err OutOfMemory) text h = λ r l. tt
