-- A type of the grammar is read, or a limit is met.
use Rattle.std.proofs.Common.{◌≡◌, ◌⊎◌, inl, inr, ℕ, ◌+◌, ◌<◌, ◌≤◌, zero, suc, Bool, true, false, cond, List, [], ◌∷◌, ◌++◌, length, Option, Some, None, refl}
use Rattle.std.proofs.Common.{sym, subst, ap, ◌∙◌, arith}
use Rattle.pie_lexer.specs.declared.token.Token.{Token}
use Rattle.pie_lexer.specs.declared.token.TokenKind.{TokenKind}
use Rattle.pie_lexer.specs.declared.token.TokenKind.TheVariants as tokens
use Rattle.pie_parser.specs.declared.kind.Kind.{Kind}
use Rattle.pie_parser.specs.declared.kind.Kind.TheVariants as kinds
use Rattle.pie_parser.specs.declared.error.ParseFault.TheVariants.{Expected, OutOfMemory}
use Rattle.pie_parser.specs.declared.type_tree.PlainType.{PlainType}
use Rattle.pie_parser.specs.declared.tree.Name.{Name}
use Rattle.pie_parser.specs.Kinds.{is, kind_of_token}
use Rattle.pie_parser.specs.PlainTypes.{TypeTree, PlainT, NamedT, ListT, TupleT, NullableT}
use Rattle.pie_parser.specs.TypeView.{types_of}
use Rattle.pie_parser.specs.At.{At}
use Rattle.pie_parser.specs.Places.{Parsed, Got, Miss, Parser, then_on, Passed, done, first_kind, next, start, passed, want, open_bracket, name, name_in}
use Rattle.pie_parser.specs.Places.{name_by}
use Rattle.pie_parser.specs.inner.Turns.{Turn, Stop, Part, on_turn, many, onto, all_behind}
use Rattle.pie_parser.specs.TypeReading.{plain_at, keyword_by, keyword_type, named_type, list_type, another_type, tuple_type, plain_by, plain_type}
use Rattle.pie_parser.specs.TypeReading.{written_type, type_at, inner_type}
use Rattle.pie_parser.specs.TypeGrammar as types
use Rattle.pie_parser.specs.TypeGrammar.{Eats, IsName, IsType, IsPlain, MoreTypes}
use Rattle.pie_parser.proofs.Readings.{chosen, got_same, missed}
use Rattle.pie_parser.proofs.Strength.{is_one}
use Rattle.pie_parser.proofs.Hits.{Hits, after, at_true, at_false, wanted, bracket, behind_them}
use Rattle.pie_parser.proofs.Shorter.{more_types_count}

-- this kind isn't next
abbrev pub Off : Kind → At → Type 0
Off k m = is (next m) k ≡ false

pub off_by : (k j : Kind) (m : At) → next m ≡ j → is j k ≡ false → Off k m
off_by k j m e h = subst (λ i. is i k ≡ false) (sym e) h

pub hits_by : {A : Type 0} (p : Parsed A) (x : A) (m : At) → p ≡ Got x m → Hits p x m
hits_by p x m e = subst (λ q. Hits q x m) (sym e) (refl, refl)

pub name_kind : (s m : At) (n : Name) → IsName s m n → next s ≡ kinds.Name
name_kind s m n h = elim (chosen s.marked (Miss Expected s) (name_in s s.rest) (Got n m) h) [
  | inl c ↦ missed c.1
  | inr c ↦ subst (λ b. cond b kinds.Marked (first_kind s.rest) ≡ kinds.Name) (sym c.0) (by_rest s.rest c.1)
]
  where
    by_kind : (t : Token) (ts : List Token) (k : TokenKind) → name_by s t ts k ≡ Got n m → kind_of_token k ≡ kinds.Name
    by_kind t ts (tokens.Name x) h = refl
    by_kind t ts k h = missed h

    by_rest : (ts : List Token) → name_in s ts ≡ Got n m → first_kind ts ≡ kinds.Name
    by_rest [] h = missed h
    by_rest (t ∷ ts) h = by_kind t ts t.kind h

module _ (room : ℕ) (inner : Parser TypeTree) (full : (s m : At) (t : TypeTree) → IsType s m t → Off kinds.Question m → Hits (inner s) t m) where
  more_off : {s m : At} {ts : List TypeTree} → MoreTypes s m ts → Off kinds.Question m → Off kinds.Question s
  more_off types.no_more q = q
  more_off {s = s} (types.one_more e x k) q = off_by kinds.Question kinds.Comma s e.0 refl

  more_hits : (n : ℕ) {s m : At} {ts : List TypeTree} → MoreTypes s m ts → length ts ≤ n → Off kinds.Comma m → Off kinds.Question m
      → Hits (many (another_type room inner) n s) ts m
  more_hits zero types.no_more l c q = (refl, refl)
  more_hits zero (types.one_more e x k) l c q = absurd (omega arith)
  more_hits (suc n) {s = s} types.no_more l c q =
      subst (λ y. Hits (on_turn (cond y (Part (inner (passed s))) Stop) s (many (another_type room inner) n)) [] s) (sym c) (refl, refl)
  more_hits (suc n) {s = s} {m = m} (types.one_more {a = a} {b = b} {t = t} {ts = ts} e x k) l c q =
      subst (λ y. Hits (on_turn (cond y (Part (inner (passed s))) Stop) s (many (another_type room inner) n)) (t ∷ ts) m)
      (sym (is_one (next s) kinds.Comma e.0))
      (after (inner (passed s)) _ t b _ _ (full (passed s) b t (subst (λ z. IsType z b t) e.1 x) (more_off k q))
      (after (many (another_type room inner) n b) _ ts m _ _ (more_hits n k (omega arith) c q) (refl, refl)))

  keyword_is : (s : At) (k : Kind) (p : PlainType) → plain_at k ≡ Some p → plain_by room inner s k ≡ keyword_type s
  keyword_is s kinds.OpenSquare p h = cc
  keyword_is s kinds.OpenRound p h = cc
  keyword_is s kinds.Name p h = cc
  keyword_is s k p h = refl

  at_kind : (s m : At) (t : TypeTree) (k : Kind) → next s ≡ k → Hits (plain_by room inner s k) t m → Hits (plain_type room inner s) t m
  at_kind s m t k e h = subst (λ j. Hits (plain_by room inner s j) t m) (sym e) h

  plain_hits : {s m : At} {t : TypeTree} → IsPlain s m t → Hits (plain_type room inner s) t m
  plain_hits {s = s} {m = m} (types.keyword {p = p} h e) =
      subst (λ (z : At). Hits (plain_type room inner s) (PlainT (start s) z.past p) z) (sym e)
      (subst (λ z. Hits z (PlainT (start s) (passed s).past p) (passed s)) (sym (keyword_is s (next s) p h))
      (subst (λ o. Hits (keyword_by s o) (PlainT (start s) (passed s).past p) (passed s)) (sym h) (refl, refl)))
  plain_hits {s = s} {m = m} (types.named {n = n} h) = at_kind s m _ kinds.Name (name_kind s m n h)
      (after (name s) _ n m _ _ (hits_by (name s) n m h) (refl, refl))
  plain_hits {s = s} {m = m} (types.listed {a = a} {b = b} {t = t} e x z) = at_kind s m _ kinds.OpenSquare e.0
      (after (open_bracket kinds.OpenSquare room s) _ done a _ _ (bracket kinds.OpenSquare room s a e)
      (after (inner a) _ t b _ _ (full a b t x (off_by kinds.Question kinds.CloseSquare b z.0 refl))
      (after (want kinds.CloseSquare b) _ done m _ _ (wanted kinds.CloseSquare b m z) (refl, refl))))
  plain_hits {s = s} {m = m} (types.tuple {a = a} {b = b} {c = c} {d = d} {e = e} {t = t} {u = u} {ts = ts} q x i y k z) = at_kind s m _ kinds.OpenRound q.0
      (after (open_bracket kinds.OpenRound room s) _ done a _ _ (bracket kinds.OpenRound room s a q)
      (after (inner a) _ t b _ _ (full a b t x (off_by kinds.Question kinds.Comma b i.0 refl))
      (after (want kinds.Comma b) _ done c _ _ (wanted kinds.Comma b c i)
      (after (inner c) _ u d _ _ (full c d u y (more_off k (off_by kinds.Question kinds.CloseRound e z.0 refl)))
      (after (all_behind (t ∷ u ∷ []) (another_type room inner) d) _ (t ∷ u ∷ ts) e _ _
      (behind_them (t ∷ u ∷ []) ts _ e (more_hits (length d.rest) k (omega (arith, more_types_count k)) (off_by kinds.Comma kinds.CloseRound e z.0 refl)
      (off_by kinds.Question kinds.CloseRound e z.0 refl)))
      (after (want kinds.CloseRound e) _ done m _ _ (wanted kinds.CloseRound e m z) (refl, refl)))))))

  written_hits : {s m : At} {t : TypeTree} → IsType s m t → Off kinds.Question m → Hits (written_type room inner s) t m
  written_hits {s = s} {m = m} {t = t} (types.plain x) q = after (plain_type room inner s) _ t m _ _ (plain_hits x)
      (at_false (is (next m) kinds.Question) _ _ t m q (refl, refl))
  written_hits {s = s} {m = m} (types.nullable {a = a} {t = t} x e) q = after (plain_type room inner s) _ t a _ _ (plain_hits x)
      (at_true (is (next a) kinds.Question) (Got (NullableT (start s) (passed a).past t) (passed a)) _ _ m (is_one (next a) kinds.Question e.0)
      (ap (λ (z : At). NullableT (start s) z.past t) (sym e.1), sym e.1))

type_hits : (d : ℕ) (s m : At) (t : TypeTree) → IsType s m t → Off kinds.Question m → Hits (type_at d s) t m
type_hits zero s m t x q = written_hits zero (λ s. Miss OutOfMemory s) (λ s m t x q. tt) x q
type_hits (suc d) s m t x q = written_hits (suc d) (type_at d) (type_hits d) x q

inner_hits : (d : ℕ) (s m : At) (t : TypeTree) → IsType s m t → Off kinds.Question m → Hits (inner_type d s) t m
inner_hits zero s m t x q = tt
inner_hits (suc d) s m t x q = type_hits d s m t x q

pub type_is_hit : (d : ℕ) {s m : At} {t : TypeTree} → IsType s m t → Off kinds.Question m → Hits (written_type d (inner_type d) s) t m
type_is_hit d x q = written_hits d (inner_type d) (inner_hits d) x q

pub plain_is_hit : (d : ℕ) {s m : At} {t : TypeTree} → IsPlain s m t → Hits (plain_type d (inner_type d) s) t m
plain_is_hit d x = plain_hits d (inner_type d) (inner_hits d) x
