-- The tokens of a function of a pipeline are those between its first byte and its last.
use Rattle.std.proofs.Common.{◌≡◌, ℕ, ◌+◌, ◌<◌, ◌≤◌, suc, Bool, true, false, not, ◌&&◌, cond, nat_lt, List, [], ◌∷◌, ◌++◌, length, drop, Result, Ok, Err, refl}
use Rattle.std.proofs.Common.{sym, subst, ap, ◌∙◌, arith, append_assoc}
use Rattle.std.proofs.lemmas.Bool.Decides.{nat_tests}
use Rattle.std.proofs.lemmas.List.{append-nil}
use Rattle.pie_lexer.specs.Bytes.{gap_len}
use Rattle.pie_lexer.specs.Tokens.{before, Lexes, ended, gap, token, refused}
use Rattle.pie_lexer.specs.declared.token.Token.{Token}
use Rattle.pie_lexer.specs.declared.token.TokenKind.{TokenKind}
use Rattle.pie_lexer.specs.declared.token.TokenKind.TheVariants as tokens
use Rattle.pie_parser.specs.Kinds.{kind_of_token}
use Rattle.pie_lexer.specs.declared.error.LexError.{LexError}
use Rattle.pie_lexer.proofs.Spelled.{nonempty}
use Rattle.pie_parser.specs.declared.kind.Kind.TheVariants as kinds
use Rattle.pie_parser.specs.FunctionTrees.{FunctionTree}
use Rattle.pie_parser.specs.At.{At}
use Rattle.pie_parser.specs.Places.{first_kind, next, start_of}
use Rattle.pie_parser.specs.FunctionReading.{last_end}
use Rattle.pie_parser.specs.FunctionGrammar as functions
use Rattle.pie_parser.specs.FunctionGrammar.{IsFunction, Functions, IsPipeline}
use Rattle.pie_spelling_laws.specs.Spelling.{tokens_within}
use Rattle.pie_spelling_laws.specs.Standing.{IsStretch, IsIn, IsFunctionOf, NextIsFunc}
use Rattle.pie_spelling_laws.specs.Same.{EachStandsInItsText, EachReachesToTheNext}
use Rattle.pie_spelling_laws.proofs.Words.{FunctionWord, function_word, first_func}

-- each token takes bytes, and stands behind this byte and behind those before it
abbrev pub Rising : ℕ → List Token → Type 0
Rising b [] = Unit {0}
Rising b (t ∷ ts) = (b ≤ t.at) × (t.at < t.end) × Rising t.end ts

from_before : (b c : ℕ) (ts : List Token) → c ≤ b → Rising b ts → Rising c ts
from_before b c [] l h = tt
from_before b c (t ∷ ts) l h = (let o = h.0 in omega arith, h.1, h.2)

abbrev AnswerRises : ℕ → Result (List Token) LexError → Type 0
AnswerRises b (Ok ts) = Rising b ts
AnswerRises b (Err e) = Unit {0}

answer_before : (b c : ℕ) (r : Result (List Token) LexError) → c ≤ b → AnswerRises b r → AnswerRises c r
answer_before b c (Ok ts) l h = from_before b c ts l h
answer_before b c (Err e) l h = tt

one_before : (t : Token) (r : Result (List Token) LexError) → t.at < t.end → AnswerRises t.end r → AnswerRises t.at (before t r)
one_before t (Ok ts) l h = (omega arith, l, h)
one_before t (Err e) l h = tt

answer_rises : (at : ℕ) (here : List ℕ) (r : Result (List Token) LexError) → Lexes at here r → AnswerRises at r
answer_rises at here r ended = tt
answer_rises at here r (gap h l) = answer_before (at + gap_len here) at r (omega arith) (answer_rises (at + gap_len here) (drop (gap_len here) here) r l)
answer_rises at here r (token w rest x k {r = q} g h m l) =
    let n = nonempty w x h.spelled in
    let o : length w ≡ suc (length n.1) = ap length n.2 in
    one_before (record { kind = k; at = at; end = at + length w }) q (omega arith) (answer_rises (at + length w) rest q l)
answer_rises at here r (refused g f) = tt

below_first : (b : ℕ) (us zs : List Token) (u : Token) → Rising b (us ++ u ∷ zs) → b ≤ u.at
below_first b [] zs u h = h.0
below_first b (t ∷ us) zs u h = let l = below_first t.end us zs u h.2 in let o = h.0 in let p = h.1 in omega arith

behind_rises : (b : ℕ) (us zs : List Token) → Rising b (us ++ zs) → Rising (last_end b us) zs
behind_rises b [] zs h = h
behind_rises b (t ∷ us) zs h = behind_rises t.end us zs h.2

below_last : (b : ℕ) (us zs : List Token) → Rising b (us ++ zs) → b ≤ last_end b us
below_last b [] zs h = omega arith
below_last b (t ∷ us) zs h = let l = below_last t.end us zs h.2 in let o = h.0 in let p = h.1 in omega arith

is_below : (n m : ℕ) → n < m → nat_lt n m ≡ true
is_below n m l = grind (arith, nat_tests)

not_below : (n m : ℕ) → m ≤ n → nat_lt n m ≡ false
not_below n m l = grind (arith, nat_tests)

and_false : (b : Bool) → (b && false) ≡ false
and_false true = refl
and_false false = refl

-- the tokens in front are left out
front_out : (b i j : ℕ) (us zs : List Token) (u : Token) → i ≡ u.at → Rising b (us ++ u ∷ zs) → tokens_within i j (us ++ u ∷ zs) ≡ tokens_within i j (u ∷ zs)
front_out b i j [] zs u e h = refl
front_out b i j (t ∷ us) zs u e h =
    let l = below_first t.end us zs u h.2 in
    let p = h.1 in
    let o = is_below t.at i (omega arith) in
    (λ k. cond (not (o k) && not (nat_lt j t.end)) (t ∷ tokens_within i j (us ++ u ∷ zs)) (tokens_within i j (us ++ u ∷ zs)))
    ∙ front_out t.end i j us zs u e h.2

-- the tokens between are kept
all_kept : (b i j : ℕ) (us zs : List Token) → i ≤ b → last_end b us ≤ j → Rising b (us ++ zs) → tokens_within i j (us ++ zs) ≡ us ++ tokens_within i j zs
all_kept b i j [] zs l m h = refl
all_kept b i j (t ∷ us) zs l m h =
    let p = h.0 in
    let q = h.1 in
    let v = below_last t.end us zs h.2 in
    let o = not_below t.at i (omega arith) in
    let g = not_below j t.end (omega arith) in
    (λ k. cond (not (o k) && not (g k)) (t ∷ tokens_within i j (us ++ zs)) (tokens_within i j (us ++ zs)))
    ∙ ap (λ ts. t ∷ ts) (all_kept t.end i j us zs (omega arith) m h.2)

-- the tokens behind are left out
rest_out : (b i j : ℕ) (zs : List Token) → j ≤ b → Rising b zs → tokens_within i j zs ≡ []
rest_out b i j [] l h = refl
rest_out b i j (t ∷ zs) l h =
    let p = h.0 in
    let q = h.1 in
    let g = is_below j t.end (omega arith) in
    (λ k. cond (not (nat_lt t.at i) && not (g k)) (t ∷ tokens_within i j zs) (tokens_within i j zs))
    ∙ (λ k. cond (and_false (not (nat_lt t.at i)) k) (t ∷ tokens_within i j zs) (tokens_within i j zs))
    ∙ rest_out t.end i j zs (omega arith) h.2

last_of_end : (b : ℕ) (us : List Token) (t : Token) → last_end b (us ++ t ∷ []) ≡ t.end
last_of_end b [] t = refl
last_of_end b (u ∷ us) t = last_of_end u.end us t

-- a stretch of tokens is what stands between its first byte and its last
stretch_within : (front us rest : List Token) (last : Token) (i j n : ℕ) → Rising 0 (front ++ ((us ++ last ∷ []) ++ rest))
    → i ≡ start_of n ((us ++ last ∷ []) ++ rest) → j ≡ last.end
    → tokens_within i j (front ++ ((us ++ last ∷ []) ++ rest)) ≡ us ++ last ∷ []
stretch_within front us rest last i j n h e d = by_first us h e
  where
    kept : (u : Token) (vs : List Token) → (w : List Token) → w ≡ u ∷ vs → last_end 0 w ≡ last.end → Rising 0 (front ++ (w ++ rest)) → i ≡ u.at
        → tokens_within i j (front ++ (w ++ rest)) ≡ w
    kept u vs w f g h e =
        let h2 : Rising 0 (front ++ u ∷ (vs ++ rest)) = subst (λ x. Rising 0 (front ++ (x ++ rest))) f h in
        let r : Rising (last_end 0 front) (u ∷ (vs ++ rest)) = behind_rises 0 front (u ∷ (vs ++ rest)) h2 in
        let r2 : Rising u.at (u ∷ (vs ++ rest)) = (omega arith, r.1, r.2) in
        let g2 : last_end u.end vs ≡ last.end = sym (ap (last_end 0) f) ∙ g in
        let z : Rising (last_end u.end vs) rest = behind_rises u.end vs rest r.2 in
        let o : tokens_within i j (front ++ u ∷ (vs ++ rest)) ≡ u ∷ vs = front_out 0 i j front (vs ++ rest) u e h2
        ∙ all_kept u.at i j (u ∷ vs) rest (omega arith) (omega arith) r2
        ∙ ap (λ ts. (u ∷ vs) ++ ts) (rest_out (last_end u.end vs) i j rest (omega arith) z)
        ∙ append-nil (u ∷ vs) in
        ap (λ x. tokens_within i j (front ++ (x ++ rest))) f ∙ o ∙ sym f

    by_first : (us : List Token) → Rising 0 (front ++ ((us ++ last ∷ []) ++ rest)) → i ≡ start_of n ((us ++ last ∷ []) ++ rest)
        → tokens_within i j (front ++ ((us ++ last ∷ []) ++ rest)) ≡ us ++ last ∷ []
    by_first [] h e = kept last [] (last ∷ []) refl refl h e
    by_first (u ∷ us) h e = kept u (us ++ last ∷ []) (u ∷ us ++ last ∷ []) refl (last_of_end u.end us last) h e

-- where a function of a pipeline stands
record Stands (ts : List Token) (f : FunctionTree) : Type 0 where
  from : At
  to : At
  ahead : List Token
  splits : ts ≡ ahead ++ from.rest
  grammar : IsFunction from to f
  next_one : NextIsFunc to.rest

no_end : (k : TokenKind) → kind_of_token k ≡ kinds.End → ⊥
no_end tokens.Func h = cc
no_end k h = cc

ends_there : (s : At) → next s ≡ kinds.End → NextIsFunc s.rest
ends_there s h = by_mark s.marked h
  where
    by_rest : (ts : List Token) → first_kind ts ≡ kinds.End → NextIsFunc ts
    by_rest [] h = tt
    by_rest (t ∷ ts) h = absurd (no_end t.kind h)

    by_mark : (b : Bool) → cond b kinds.Marked (first_kind s.rest) ≡ kinds.End → NextIsFunc s.rest
    by_mark true h = cc
    by_mark false h = by_rest s.rest h

starts_function : {s m : At} {f : FunctionTree} → IsFunction s m f → next s ≡ kinds.Func
starts_function (functions.function q i k p z w) = q.0

next_function : {s m : At} {fs : List FunctionTree} → Functions s m fs → next m ≡ kinds.End → NextIsFunc s.rest
next_function {s = s} functions.no_function e = ends_there s e
next_function {s = s} (functions.a_function x k) e = let u = first_func s (starts_function x) in subst NextIsFunc (sym u.2) u.3

stands : (before behind : List FunctionTree) (s m : At) (f : FunctionTree) (fs : List FunctionTree) → fs ≡ before ++ f ∷ behind → Functions s m fs
    → next m ≡ kinds.End → Stands s.rest f
stands [] behind s m f fs e functions.no_function n = cc
stands [] behind s m f fs e (functions.a_function {a = a} {f = g} x k) n =
    let h : g ≡ f = cc in record { from = s; to = a; ahead = []; splits = refl; grammar = subst (IsFunction s a) h x; next_one = next_function k n }
stands (b ∷ before) behind s m f fs e functions.no_function n = cc
stands (b ∷ before) behind s m f fs e (functions.a_function {a = a} {f = g} {fs = gs} x k) n =
    let h : gs ≡ before ++ f ∷ behind = cc in
    let z = stands before behind a m f gs h k n in
    let w = function_word x in
    let us : List Token = w.func ∷ (w.others ++ w.last ∷ []) in
    record {
      from = z.from;
      to = z.to;
      ahead = us ++ z.ahead;
      splits = w.splits ∙ ap (λ r. w.func ∷ r) (sym (append_assoc w.others (w.last ∷ []) a.rest)) ∙ ap (λ r. us ++ r) z.splits
          ∙ sym (append_assoc us z.ahead z.from.rest);
      grammar = z.grammar;
      next_one = z.next_one;
    }

not_marked : {s m : At} {f : FunctionTree} → IsFunction s m f → s.marked ≡ false
not_marked {s = s} (functions.function q i k p z w) = by_mark s.marked refl
  where
    by_mark : (b : Bool) → s.marked ≡ b → b ≡ false
    by_mark false e = refl
    by_mark true e = (let y : kinds.Marked ≡ kinds.Func = sym (ap (λ b. cond b kinds.Marked (first_kind s.rest)) e) ∙ q.0 in cc)

function_at : {s m : At} {f : FunctionTree} → IsFunction s m f → f.at ≡ start_of s.past s.rest
function_at (functions.function q i k p z w) = refl

function_end : {s m : At} {f : FunctionTree} → IsFunction s m f → f.end ≡ m.past
function_end (functions.function q i k p z w) = refl

-- a function of a pipeline, and its word
record Placed (text : List ℕ) (ts : List Token) (f : FunctionTree) : Type 0 where
  place : Stands ts f
  word : FunctionWord place.from place.to
  splits : ts ≡ place.ahead ++ (((word.func ∷ word.others) ++ word.last ∷ []) ++ place.to.rest)
  here : place.from.rest ≡ ((word.func ∷ word.others) ++ word.last ∷ []) ++ place.to.rest
  within : tokens_within f.at f.end ts ≡ (word.func ∷ word.others) ++ word.last ∷ []

placed : (text : List ℕ) (ts : List Token) (f : FunctionTree) → IsFunctionOf text ts f → Placed text ts f
placed text ts f x =
    let p = x.pipeline in
    let z = stands x.before x.behind (record { past = 0; rest = ts; marked = false }) p.0 f (x.before ++ f ∷ x.behind) refl p.1 p.2 in
    let c = function_word z.grammar in
    let us : List Token = (c.func ∷ c.others) ++ c.last ∷ [] in
    let e : z.from.rest ≡ us ++ z.to.rest = c.splits ∙ sym (append_assoc (c.func ∷ c.others) (c.last ∷ []) z.to.rest) in
    let d : ts ≡ z.ahead ++ (us ++ z.to.rest) = z.splits ∙ ap (λ r. z.ahead ++ r) e in
    let l : Lexes 0 text (Ok (z.ahead ++ (us ++ z.to.rest))) = subst (λ r. Lexes 0 text (Ok r)) d x.lexed in
    let at : f.at ≡ start_of z.from.past (us ++ z.to.rest) = function_at z.grammar ∙ ap (start_of z.from.past) e in
    let end : f.end ≡ c.last.end = function_end z.grammar ∙ c.ends in
    let w : tokens_within f.at f.end ts ≡ us = ap (tokens_within f.at f.end) d
    ∙ stretch_within z.ahead (c.func ∷ c.others) z.to.rest c.last f.at f.end z.from.past (answer_rises 0 text (Ok (z.ahead ++ (us ++ z.to.rest))) l) at end in
    record { place = z; word = c; splits = d; here = e; within = w }

pub each_stands : EachStandsInItsText
each_stands text ts f x =
    let y = placed text ts f x in
    let z = y.place in
    let us : List Token = (y.word.func ∷ y.word.others) ++ y.word.last ∷ [] in
    let g : IsFunction (record { past = z.from.past; rest = us ++ z.to.rest; marked = false }) z.to f =
    subst (λ b. IsFunction (record { past = z.from.past; rest = us ++ z.to.rest; marked = b }) z.to f) (not_marked z.grammar)
    (subst (λ r. IsFunction (record { past = z.from.past; rest = r; marked = z.from.marked }) z.to f) y.here z.grammar) in
    let s : IsStretch us f = record { rest = z.to.rest; past = z.from.past; stop = z.to; grammar = g; stops = refl } in
    subst (λ v. IsIn text v f) (sym y.within) (record { before = z.ahead; stretch = s; lexed = subst (λ r. Lexes 0 text (Ok r)) y.splits x.lexed })

pub each_reaches : EachReachesToTheNext
each_reaches text ts f x =
    let y = placed text ts f x in
    record {
      before = y.place.ahead;
      func = y.word.func;
      others = y.word.others ++ y.word.last ∷ [];
      behind = y.place.to.rest;
      splits = y.splits ∙ ap (λ us. y.place.ahead ++ (us ++ y.place.to.rest)) (sym y.within);
      begins = y.within;
      is_one = y.word.begins;
      none = y.word.none;
      next = y.place.next_one;
    }
