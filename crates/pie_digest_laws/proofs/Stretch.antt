-- The tokens that a digest is made of are those that the function takes.
use Rattle.std.proofs.Common.{◌≡◌, ℕ, append_assoc, Bool, true, false, not, ◌&&◌, cond, List, [], ◌∷◌, ◌++◌, Contains, refl, sym, ap, subst, ◌∙◌, arith}
use Rattle.std.specs.List.{list_all}
use Rattle.std.proofs.lemmas.List.{append-nil, append_cancel_right}
use Rattle.std.proofs.lemmas.List.Elements.{Contains-append_right}
use Rattle.sha2.specs.Sha256.{sha256}
use Rattle.pie_lexer.specs.declared.token.Token.{Token}
use Rattle.pie_lexer.specs.declared.token.TokenKind.{TokenKind}
use Rattle.pie_lexer.specs.declared.token.TokenKind.TheVariants as tokens
use Rattle.pie_parser.specs.declared.error.ParseFault.TheVariants.{Expected}
use Rattle.pie_parser.specs.declared.tree.Name.{Name}
use Rattle.pie_parser.specs.FunctionTrees.{FunctionTree}
use Rattle.pie_parser.specs.At.{At}
use Rattle.pie_parser.specs.Places.{Got, Miss, behind, name_in, name_by}
use Rattle.pie_parser.specs.FunctionGrammar as functions
use Rattle.pie_parser.specs.FunctionGrammar.{IsFunction}
use Rattle.pie_digest.specs.Digests.{is_func, before_func, function_tokens, spelled, name_of, digest_here, digests_of}
use Rattle.pie_digest.specs.Digests.{name_in as named}
use Rattle.pie_spelling_laws.specs.Spelling.{spelling, joined, tokens_within, function_spelling}
use Rattle.pie_spelling_laws.specs.Standing.{IsStretch, NoFunc, NextIsFunc}
use Rattle.pie_spelling_laws.specs.Standing.{is_func as is_one_func}
use Rattle.pie_spelling_laws.proofs.Words.{function_word, first_func}
use Rattle.pie_spelling_laws.proofs.Stretches.{each_stands, each_reaches}
use Rattle.pie_spelling_laws.proofs.Equal.{equal_spellings}
use Rattle.pie_digest_laws.specs.Digests.{digest_in, EachHasItsDigest, OneDigestIsOneMeaning}

-- ---- the spellings

joined_is : (text : List ℕ) (t : Token) (ts : List Token) → joined text (t ∷ ts) ≡ spelled text (t ∷ ts)
joined_is text t [] = sym (append-nil (spelling text t))
joined_is text t (u ∷ us) = ap (λ bs. spelling text t ++ 32 ∷ bs) (joined_is text u us)

-- ---- the tokens before the next function

same_func : (k : TokenKind) → is_func k ≡ is_one_func k
same_func tokens.Func = refl
same_func k = refl

and_left : (a b : Bool) → (a && b) ≡ true → a ≡ true
and_left true b e = refl
and_left false b e = e

and_right : (a b : Bool) → (a && b) ≡ true → b ≡ true
and_right true b e = e
and_right false b e = absurd (let f : ⊥ = cc in f)

is_not : (b : Bool) → not b ≡ true → b ≡ false
is_not true e = absurd (let f : ⊥ = cc in f)
is_not false e = refl

before_is : (others rest : List Token) → NoFunc others → NextIsFunc rest → before_func (others ++ rest) ≡ others
before_is [] [] none next = refl
before_is [] (t ∷ ts) none next = ap (λ b. cond b [] (t ∷ before_func ts)) (same_func t.kind ∙ next)
before_is (t ∷ ts) rest none next =
    let here = is_not (is_one_func t.kind) (and_left (not (is_one_func t.kind)) (list_all (λ u. not (is_one_func u.kind)) ts) none) in
    let others = and_right (not (is_one_func t.kind)) (list_all (λ u. not (is_one_func u.kind)) ts) none in
    ap (λ b. cond b [] (t ∷ before_func (ts ++ rest))) (same_func t.kind ∙ here) ∙ ap (λ us. t ∷ us) (before_is ts rest others next)

-- ---- the name

name_by_is : (k : TokenKind) (s m : At) (t : Token) (ts : List Token) (n : Name) → name_by s t ts k ≡ Got n m → named k ≡ n.text
name_by_is (tokens.Name x) s m t ts n h = cc
name_by_is k s m t ts n h = absurd (let f : ⊥ = cc in f)

name_in_is : (b : Bool) (s m : At) (ts : List Token) (n : Name) (g : Token) → cond b (Miss Expected s) (name_in s ts) ≡ Got n m → name_of (g ∷ ts) ≡ n.text
name_in_is true s m ts n g h = absurd (let f : ⊥ = cc in f)
name_in_is false s m [] n g h = absurd (let f : ⊥ = cc in f)
name_in_is false s m (t ∷ ts) n g h = name_by_is t.kind s m t ts n h

name_here : {s m : At} {f : FunctionTree} → IsFunction s m f → name_of s.rest ≡ f.name.text
name_here {s = s} (functions.function {a = a} {b = b} {n = n} q i k p z w) =
    let u = first_func s q.0 in
    let e : a.rest ≡ u.1 = ap (λ (z : At). z.rest) q.1 ∙ ap (λ r. (behind s r).rest) u.2 in
    ap name_of u.2 ∙ ap (λ r. name_of (u.0 ∷ r)) (sym e) ∙ name_in_is a.marked a b a.rest n u.0 i

-- a name stands among the first two tokens of a function
same_name : (f l : Token) (os xs ys : List Token) → name_of ((f ∷ (os ++ l ∷ [])) ++ xs) ≡ name_of ((f ∷ (os ++ l ∷ [])) ++ ys)
same_name f l [] xs ys = refl
same_name f l (o ∷ os) xs ys = refl

name_with : (us rest : List Token) (f : FunctionTree) → IsStretch us f → name_of (us ++ rest) ≡ f.name.text
name_with us rest f x =
    let w = function_word x.grammar in
    let vs : List Token = w.func ∷ (w.others ++ w.last ∷ []) in
    let e : us ++ x.rest ≡ vs ++ x.rest = w.splits ∙ ap (λ r. w.func ∷ (w.others ++ (w.last ∷ r))) x.stops
    ∙ ap (λ r. w.func ∷ r) (sym (append_assoc w.others (w.last ∷ []) x.rest)) in
    let v : us ≡ vs = append_cancel_right us vs x.rest e in
    ap (λ us. name_of (us ++ rest)) v ∙ same_name w.func w.last w.others rest x.rest ∙ ap (λ us. name_of (us ++ x.rest)) (sym v) ∙ name_here x.grammar

-- ---- the digest

abbrev row_of : List ℕ → List Token → List ℕ × List ℕ
row_of text ts = (name_of ts, sha256 (spelled text (function_tokens ts)))

row_here : (text : List ℕ) (t : Token) (ts : List Token) → is_func t.kind ≡ true → digest_here text (t ∷ ts) ≡ row_of text (t ∷ ts) ∷ []
row_here text t ts e = ap (λ b. cond b (row_of text (t ∷ ts) ∷ []) []) e

first_of : (row : List ℕ × List ℕ) (rows : List (List ℕ × List ℕ)) → Contains (row ∷ rows) row
first_of row rows = (0, omega arith, refl)

among_all : (text : List ℕ) (front : List Token) (t : Token) (ts : List Token) → is_func t.kind ≡ true
    → Contains (digests_of text (front ++ t ∷ ts)) (row_of text (t ∷ ts))
among_all text [] t ts e =
    subst (λ rows. Contains (rows ++ digests_of text ts) (row_of text (t ∷ ts))) (sym (row_here text t ts e))
    (first_of (row_of text (t ∷ ts)) (digests_of text ts))
among_all text (u ∷ us) t ts e =
    Contains-append_right (digest_here text (u ∷ (us ++ t ∷ ts))) (digests_of text (us ++ t ∷ ts)) (row_of text (t ∷ ts)) (among_all text us t ts e)

pub each_has_its_digest : EachHasItsDigest
each_has_its_digest text ts f x =
    let us = tokens_within f.at f.end ts in
    let r = each_reaches text ts f x in
    let s = (each_stands text ts f x).stretch in
    let begins : us ++ r.behind ≡ r.func ∷ (r.others ++ r.behind) = ap (λ vs. vs ++ r.behind) r.begins in
    let split : ts ≡ r.before ++ r.func ∷ (r.others ++ r.behind) = r.splits ∙ ap (λ vs. r.before ++ vs) begins in
    let one : is_func r.func.kind ≡ true = same_func r.func.kind ∙ r.is_one in
    let name : name_of (r.func ∷ (r.others ++ r.behind)) ≡ f.name.text = ap name_of (sym begins) ∙ name_with us r.behind f s in
    let taken : function_tokens (r.func ∷ (r.others ++ r.behind)) ≡ r.func ∷ r.others = ap (λ vs. r.func ∷ vs) (before_is r.others r.behind r.none r.next) in
    let words : spelled text (function_tokens (r.func ∷ (r.others ++ r.behind))) ≡ function_spelling text ts f =
    ap (spelled text) taken ∙ sym (joined_is text r.func r.others) ∙ ap (joined text) (sym r.begins) in
    let row : row_of text (r.func ∷ (r.others ++ r.behind)) ≡ (f.name.text, digest_in text ts f) =
    ap (λ n. (n, sha256 (spelled text (function_tokens (r.func ∷ (r.others ++ r.behind)))))) name ∙ ap (λ bs. (f.name.text, sha256 bs)) words in
    let here : Contains (digests_of text (r.before ++ r.func ∷ (r.others ++ r.behind))) (row_of text (r.func ∷ (r.others ++ r.behind))) =
    among_all text r.before r.func (r.others ++ r.behind) one in
    subst (λ vs. Contains (digests_of text vs) (f.name.text, digest_in text ts f)) (sym split)
    (subst (λ w. Contains (digests_of text (r.before ++ r.func ∷ (r.others ++ r.behind))) w) row here)

pub one_meaning : OneDigestIsOneMeaning
one_meaning text other ts us f g x y apart e args answers = equal_spellings text other ts us f g x y (apart e) args answers
