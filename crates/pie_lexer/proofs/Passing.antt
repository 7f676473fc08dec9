-- From the answers at a place to those at the place before.
use Rattle.std.proofs.Common.{◌≡◌, ℕ, ◌+◌, ◌<◌, ◌≤◌, Bool, true, false, cond, List, [], ◌∷◌, ◌++◌, length, drop, Result, Ok, Err, refl, sym, subst, ap, ◌∙◌}
use Rattle.std.proofs.Common.{arith, append_assoc, length-append, length-drop}
use Rattle.std.specs.List.{prefix_len}
use Rattle.std.proofs.lemmas.List.{drop-drop, drop_all}
use Rattle.std.proofs.lemmas.List.Prefix.{front_rest}
use Rattle.std.proofs.lemmas.List.Sums.{prefix_len-le-length}
use Rattle.pie_lexer.specs.Bytes.{off_line_end, opens_comment, opens_space, gap_len}
use Rattle.pie_lexer.specs.Tokens.{before, Lexes, ended, gap, token, refused}
use Rattle.pie_lexer.proofs.Spelled.{nonempty}
use Rattle.pie_lexer.specs.inner.Answers.{after, Carries, IsTokenAt, TakesToken, Passes}
use Rattle.pie_lexer.specs.declared.token.Token.{Token}
use Rattle.pie_lexer.specs.declared.error.LexError.{LexError}
use Rattle.pie_lexer.specs.declared.error.LexError.TheVariants.{BadChar, OpenText, BadEscape, WideInt, OutOfMemory}

pub gap_within : (text : List ℕ) → gap_len text ≤ length text
gap_within text = by_comment (opens_comment text) (opens_space text) text (space_within text)
  where
    by_comment : (c s : Bool) (text : List ℕ) → cond s 1 0 ≤ length text → cond c (prefix_len off_line_end text) (cond s 1 0) ≤ length text
    by_comment true s text h = prefix_len-le-length off_line_end text
    by_comment false s text h = h

    one_or_none : (s : Bool) (n : ℕ) → 1 ≤ n → cond s 1 0 ≤ n
    one_or_none true n h = h
    one_or_none false n h = omega arith

    space_within : (text : List ℕ) → cond (opens_space text) 1 0 ≤ length text
    space_within [] = omega arith
    space_within (b ∷ bs) = one_or_none (opens_space (b ∷ bs)) (length (b ∷ bs)) (omega arith)

pub gap_carries : (text : List ℕ) (at n : ℕ) (ts : List Token) → 0 < n → n ≡ gap_len (drop at text) → Carries text at (at + n) ts ts
gap_carries text at n ts h e = λ r l. (
  r,
  gap (subst (λ i. 0 < i) e h)
      (subst (λ i. Lexes (at + i) (drop i (drop at text)) r) e (subst (λ t. Lexes (at + n) t r) (sym (drop-drop n at text)) l)),
  refl,
)

kept : (old : List Token) (t : Token) (r : Result (List Token) LexError) → after (old ++ t ∷ []) r ≡ after old (before t r)
kept old t (Ok us) = ap Ok (append_assoc old (t ∷ []) us)
kept old t (Err e) = refl

pub token_carries : (text : List ℕ) (at : ℕ) (t : Token) (old new : List Token) → gap_len (drop at text) ≡ 0 → IsTokenAt at (drop at text) t
    → new ≡ old ++ t ∷ []
    → Carries text at t.end old new
token_carries text at t old new g (w, rest, x, longest, means, a, e) n = λ r l. (before t r, stands r l, ap (λ ts. after ts r) n ∙ kept old t r)
  where
    behind : rest ≡ drop t.end text
    behind = sym (front_rest (drop at text) w rest longest.front) ∙ drop-drop (length w) at text ∙ ap (λ i. drop i text) (sym e)

    stands : (r : Result (List Token) LexError) → Lexes t.end (drop t.end text) r → Lexes at (drop at text) (before t r)
    stands r l =
        let m : Lexes (at + length w) rest r = subst (λ i. Lexes i rest r) e (subst (λ xs. Lexes t.end xs r) (sym behind) l) in
        let z : Lexes at (drop at text) (before (record { kind = t.kind; at = at; end = at + length w }) r) = token w rest x t.kind g longest means m in
        subst (λ i. Lexes at (drop at text) (before (record { kind = t.kind; at = i; end = t.end }) r)) (sym a)
        (subst (λ i. Lexes at (drop at text) (before (record { kind = t.kind; at = at; end = i }) r)) (sym e) z)

pub token_within : (text : List ℕ) (at : ℕ) (t : Token) → at ≤ length text → IsTokenAt at (drop at text) t → (at < t.end) × (t.end ≤ length text)
token_within text at t h (w, rest, x, longest, means, a, e) =
    let l = ap length longest.front in
    let s = nonempty w x longest.spelled in
    let k = ap length s.2 in
    (omega arith, omega (arith, length-append w rest, length-drop at text))

pub all_passed : (text : List ℕ) (at : ℕ) → length text ≤ at → Lexes at (drop at text) (Ok [])
all_passed text at h = subst (λ t. Lexes at t (Ok [])) (sym (drop_all at text h)) ended

pub carried : (text : List ℕ) (at next : ℕ) (old new : List Token) → Carries text at next old new
    → ((r : Result (List Token) LexError) → Lexes at (drop at text) r → Lexes 0 text (after old r))
    → (r : Result (List Token) LexError) → Lexes next (drop next text) r → Lexes 0 text (after new r)
carried text at next old new c f r l =
    let s = c r l in subst (Lexes 0 text) (sym s.2) (f s.0 s.1)

pub refused_passes : (text : List ℕ) (at : ℕ) (old new : List Token) (e : LexError) → gap_len (drop at text) ≡ 0 → TakesToken at (drop at text) (Err e)
    → Passes text at old new (Err e)
refused_passes text at old new (BadChar i) g h = refused g h
refused_passes text at old new (OpenText i) g h = refused g h
refused_passes text at old new (BadEscape i) g h = refused g h
refused_passes text at old new (WideInt i) g h = refused g h
refused_passes text at old new OutOfMemory g h = tt
