-- Places among tokens without their spans, before so many that are left out at the end.
use Rattle.std.proofs.Common.{◌≡◌, inl, inr, ℕ, ◌<◌, ◌≤◌, suc, Bool, true, false, cond, nat_lt, List, [], ◌∷◌, ◌++◌, length, refl, sym, subst, ap, ◌∙◌, arith}
use Rattle.std.proofs.Common.{length-append}
use Rattle.std.proofs.lemmas.Bool.Decides.{nat_tests}
use Rattle.pie_lexer.specs.declared.token.Token.{Token}
use Rattle.pie_lexer.specs.declared.token.TokenKind.{TokenKind}
use Rattle.pie_lexer.specs.declared.token.TokenKind.TheVariants as tokens
use Rattle.pie_parser.specs.declared.kind.Kind.{Kind}
use Rattle.pie_parser.specs.declared.kind.Kind.TheVariants as kinds
use Rattle.pie_parser.specs.declared.error.ParseFault.TheVariants.{Expected}
use Rattle.pie_parser.specs.declared.tree.Name.{Name}
use Rattle.pie_parser.specs.declared.tree.Index.{Index}
use Rattle.pie_parser.specs.declared.tree.Literal.{Literal}
use Rattle.pie_parser.specs.Kinds.{kind_of_token}
use Rattle.pie_parser.specs.At.{At}
use Rattle.pie_parser.specs.Places.{Got, Miss, first_kind, next, start, start_of, behind, passed, name_in, name_by, index_in, index_by}
use Rattle.pie_parser.specs.ExprReading.{literal_here, literal_in, literal_by}
use Rattle.pie_parser.specs.TypeGrammar.{Eats, IsName}
use Rattle.pie_parser.specs.Grammar.{IsIndex}
use Rattle.pie_parser.proofs.Readings.{chosen, got_same, missed}
use Rattle.pie_parser.proofs.Hits.{Less, eats_less}
use Rattle.pie_parser.proofs.Shorter.{name_less, index_less}
use Rattle.pie_spelling_laws.specs.Spans.{bare_name, bare_index}
use Rattle.pie_spelling_laws.specs.Spelling.{kinds_of}

-- a token without its span
abbrev pub blank : Token → Token
blank t = record { kind = t.kind; at = 0; end = 0 }

-- tokens without their spans, up to the last so many
abbrev pub front : ℕ → List Token → List Token
front n [] = []
front n (t ∷ ts) = cond (nat_lt n (suc (length ts))) (blank t ∷ front n ts) []

-- of tokens with these kinds
abbrev pub blanks : List TokenKind → List Token
blanks [] = []
blanks (k ∷ ks) = record { kind = k; at = 0; end = 0 } ∷ blanks ks

below : (n m : ℕ) → n ≤ m → nat_lt n (suc m) ≡ true
below n m l = grind (arith, nat_tests)

not_below : (n m : ℕ) → m < n → nat_lt n (suc m) ≡ false
not_below n m l = grind (arith, nat_tests)

pub front_is : (n : ℕ) (t : Token) (ts : List Token) → n ≤ length ts → front n (t ∷ ts) ≡ blank t ∷ front n ts
front_is n t ts l = λ i. cond (below n (length ts) l i) (blank t ∷ front n ts) []

none_left : (n : ℕ) (ts : List Token) → length ts ≤ n → front n ts ≡ []
none_left n [] l = refl
none_left n (t ∷ ts) l = λ i. cond (not_below n (length ts) (omega arith) i) (blank t ∷ front n ts) []

-- what is left of a stretch and all behind it, where that is left out
pub front_stretch : (us rest : List Token) → front (length rest) (us ++ rest) ≡ blanks (kinds_of us)
front_stretch [] rest = none_left (length rest) rest (omega arith)
front_stretch (u ∷ us) rest =
    let l = length-append us rest in
    front_is (length rest) u (us ++ rest) (omega arith) ∙ ap (λ ts. blank u ∷ ts) (front_stretch us rest)

module _ (n : ℕ) where
  -- the place without spans, and without the last tokens
  abbrev pub cut : At → At
  cut s = record { past = 0; rest = front n s.rest; marked = s.marked }

  -- the place isn't behind the cut
  abbrev pub In : At → Type 0
  In s = n ≤ length s.rest

  pub start_cut : (s : At) → start (cut s) ≡ 0
  start_cut s = by_rest s.rest
    where
      by_test : (t : Token) (ts : List Token) (b : Bool) → start_of 0 (cond b (blank t ∷ ts) []) ≡ 0
      by_test t ts true = refl
      by_test t ts false = refl

      by_rest : (ts : List Token) → start_of 0 (front n ts) ≡ 0
      by_rest [] = refl
      by_rest (t ∷ ts) = by_test t (front n ts) (nat_lt n (suc (length ts)))

  pub next_cut : (s : At) → n < length s.rest → next (cut s) ≡ next s
  next_cut s l = ap (cond s.marked kinds.Marked) (by_rest s.rest l)
    where
      by_rest : (ts : List Token) → n < length ts → first_kind (front n ts) ≡ first_kind ts
      by_rest [] l = absurd (omega arith)
      by_rest (t ∷ ts) l = ap first_kind (front_is n t ts (omega arith))

  pub passed_cut : (s : At) → n < length s.rest → passed (cut s) ≡ cut (passed s)
  passed_cut s l = by_rest s.rest l
    where
      by_rest : (ts : List Token) → n < length ts → behind (cut s) (front n ts) ≡ cut (behind s ts)
      by_rest [] l = absurd (omega arith)
      by_rest (t ∷ ts) l = ap (behind (cut s)) (front_is n t ts (omega arith))

  -- a kind that is next before the cut is next before it in the whole
  pub next_whole : (s : At) (k : Kind) → (kinds.End ≡ k → ⊥) → next (cut s) ≡ k → next s ≡ k
  next_whole s k d = by_mark s.marked
    where
      by_test : (t : Token) (ts : List Token) (b : Bool) → first_kind (cond b (blank t ∷ ts) []) ≡ k → kind_of_token t.kind ≡ k
      by_test t ts true e = e
      by_test t ts false e = absurd (d e)

      by_rest : (ts : List Token) → first_kind (front n ts) ≡ k → first_kind ts ≡ k
      by_rest [] e = e
      by_rest (t ∷ ts) e = by_test t (front n ts) (nat_lt n (suc (length ts))) e

      by_mark : (b : Bool) → cond b kinds.Marked (first_kind (front n s.rest)) ≡ k → cond b kinds.Marked (first_kind s.rest) ≡ k
      by_mark true e = e
      by_mark false e = by_rest s.rest e

  pub by_less : (s a : At) → Less s a → In a → In s
  by_less s a h l = omega arith

  pub in_eats : (k : Kind) → (kinds.End ≡ k → ⊥) → (kinds.Marked ≡ k → ⊥) → (s a : At) → Eats k s a → In a → In s
  in_eats k d e s a q l = by_less s a (eats_less k s a q d e) l

  pub eats_cut : (k : Kind) → (kinds.End ≡ k → ⊥) → (kinds.Marked ≡ k → ⊥) → (s a : At) → Eats k s a → In a → Eats k (cut s) (cut a)
  eats_cut k d e s a q l =
      let h = eats_less k s a q d e in
      let o : n < length s.rest = omega arith in
      (next_cut s o ∙ q.0, ap cut q.1 ∙ sym (passed_cut s o))

  pub name_cut : (s m : At) (x : Name) → IsName s m x → In m → IsName (cut s) (cut m) (bare_name x)
  name_cut s m x h l = elim (chosen s.marked (Miss Expected s) (name_in s s.rest) (Got x m) h) [
    | inl c ↦ missed c.1
    | inr c ↦ subst (λ b. cond b (Miss Expected (cut s)) (name_in (cut s) (front n s.rest)) ≡ Got (bare_name x) (cut m)) (sym c.0)
        (by_rest s.rest (let z = name_less s m x h in omega arith) c.1)
  ]
    where
      by_kind : (t : Token) (ts : List Token) (k : TokenKind) → name_by s t ts k ≡ Got x m
          → name_by (cut s) (blank t) (front n ts) k ≡ Got (bare_name x) (cut m)
      by_kind t ts (tokens.Name y) h = let g = got_same h in let g0 = g.0 in let g1 = g.1 in λ i. Got (bare_name (g0 i)) (cut (g1 i))
      by_kind t ts k h = missed h

      by_rest : (ts : List Token) → n < length ts → name_in s ts ≡ Got x m → name_in (cut s) (front n ts) ≡ Got (bare_name x) (cut m)
      by_rest [] o h = missed h
      by_rest (t ∷ ts) o h = ap (name_in (cut s)) (front_is n t ts (omega arith)) ∙ by_kind t ts t.kind h

  pub index_cut : (s m : At) (x : Index) → IsIndex s m x → In m → IsIndex (cut s) (cut m) (bare_index x)
  index_cut s m x h l = elim (chosen s.marked (Miss Expected s) (index_in s s.rest) (Got x m) h) [
    | inl c ↦ missed c.1
    | inr c ↦ subst (λ b. cond b (Miss Expected (cut s)) (index_in (cut s) (front n s.rest)) ≡ Got (bare_index x) (cut m)) (sym c.0)
        (by_rest s.rest (let z = index_less s m x h in omega arith) c.1)
  ]
    where
      by_kind : (t : Token) (ts : List Token) (k : TokenKind) → index_by s t ts k ≡ Got x m
          → index_by (cut s) (blank t) (front n ts) k ≡ Got (bare_index x) (cut m)
      by_kind t ts (tokens.Int y) h = let g = got_same h in let g0 = g.0 in let g1 = g.1 in λ i. Got (bare_index (g0 i)) (cut (g1 i))
      by_kind t ts k h = missed h

      by_rest : (ts : List Token) → n < length ts → index_in s ts ≡ Got x m → index_in (cut s) (front n ts) ≡ Got (bare_index x) (cut m)
      by_rest [] o h = missed h
      by_rest (t ∷ ts) o h = ap (index_in (cut s)) (front_is n t ts (omega arith)) ∙ by_kind t ts t.kind h

  pub literal_cut : (s : At) (x : Literal) → literal_here s ≡ Got x s → n < length s.rest → literal_here (cut s) ≡ Got x (cut s)
  literal_cut s x h l = elim (chosen s.marked (Miss Expected s) (literal_in s s.rest) (Got x s) h) [
    | inl c ↦ missed c.1
    | inr c ↦ subst (λ b. cond b (Miss Expected (cut s)) (literal_in (cut s) (front n s.rest)) ≡ Got x (cut s)) (sym c.0) (by_rest s.rest l c.1)
  ]
    where
      by_kind : (k : TokenKind) → literal_by s k ≡ Got x s → literal_by (cut s) k ≡ Got x (cut s)
      by_kind (tokens.Int y) h = let g = (got_same h).0 in λ i. Got (g i) (cut s)
      by_kind (tokens.Text y) h = let g = (got_same h).0 in λ i. Got (g i) (cut s)
      by_kind tokens.True h = let g = (got_same h).0 in λ i. Got (g i) (cut s)
      by_kind tokens.False h = let g = (got_same h).0 in λ i. Got (g i) (cut s)
      by_kind tokens.UnitWord h = let g = (got_same h).0 in λ i. Got (g i) (cut s)
      by_kind k h = missed h

      by_rest : (ts : List Token) → n < length ts → literal_in s ts ≡ Got x s → literal_in (cut s) (front n ts) ≡ Got x (cut s)
      by_rest [] o h = missed h
      by_rest (t ∷ ts) o h = ap (literal_in (cut s)) (front_is n t ts (omega arith)) ∙ by_kind t.kind h
