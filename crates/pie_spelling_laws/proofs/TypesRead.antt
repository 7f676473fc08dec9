-- A type of the grammar is found, where enough brackets may be opened.
use Rattle.std.proofs.Common.{◌≡◌, ℕ, ◌<◌, ◌≤◌, zero, suc, cond, List, [], ◌∷◌, length, Some, refl, sym, subst, ap, arith}
use Rattle.pie_parser.specs.declared.kind.Kind.{Kind}
use Rattle.pie_parser.specs.declared.kind.Kind.TheVariants as kinds
use Rattle.pie_parser.specs.declared.error.ParseFault.TheVariants.{OutOfMemory}
use Rattle.pie_parser.specs.declared.type_tree.PlainType.{PlainType}
use Rattle.pie_parser.specs.Kinds.{is}
use Rattle.pie_parser.specs.PlainTypes.{TypeTree, PlainT, NullableT}
use Rattle.pie_parser.specs.At.{At}
use Rattle.pie_parser.specs.Places.{Got, Miss, Parser, done, next, start, passed, want, open_bracket, name}
use Rattle.pie_parser.specs.inner.Turns.{Stop, Part, on_turn, many, all_behind}
use Rattle.pie_parser.specs.TypeReading.{plain_at, keyword_by, keyword_type, another_type, plain_by, plain_type, written_type, type_at, inner_type}
use Rattle.pie_parser.specs.TypeGrammar as types
use Rattle.pie_parser.specs.TypeGrammar.{Eats, IsName, IsType, IsPlain, MoreTypes}
use Rattle.pie_parser.proofs.Strength.{is_one}
use Rattle.pie_parser.proofs.Hits.{eats_less}
use Rattle.pie_spelling_laws.proofs.Finds.{Finds, after, at_true, at_false, finds_by, wanted, bracket_in, behind_them}
use Rattle.pie_parser.proofs.Shorter.{type_less, more_types_count}
use Rattle.pie_parser.proofs.TypesComplete.{Off, off_by, name_kind}

module _ (room : ℕ) (inner : Parser TypeTree) (full : (s m : At) (t : TypeTree) → length s.rest < room → IsType s m t → Off kinds.Question m
    → Finds (inner s) t m) where
  more_off : {s m : At} {ts : List TypeTree} → MoreTypes s m ts → Off kinds.Question m → Off kinds.Question s
  more_off types.no_more q = q
  more_off {s = s} (types.one_more e x k) q = off_by kinds.Question kinds.Comma s e.0 refl

  more_found : (n : ℕ) {s m : At} {ts : List TypeTree} → MoreTypes s m ts → length s.rest ≤ room → length ts ≤ n → Off kinds.Comma m → Off kinds.Question m
      → Finds (many (another_type room inner) n s) ts m
  more_found zero types.no_more r l c q = (refl, refl)
  more_found zero (types.one_more e x k) r l c q = absurd (omega arith)
  more_found (suc n) {s = s} types.no_more r l c q =
      subst (λ y. Finds (on_turn (cond y (Part (inner (passed s))) Stop) s (many (another_type room inner) n)) [] s) (sym c) (refl, refl)
  more_found (suc n) {s = s} {m = m} (types.one_more {a = a} {b = b} {t = t} {ts = ts} e x k) r l c q =
      subst (λ y. Finds (on_turn (cond y (Part (inner (passed s))) Stop) s (many (another_type room inner) n)) (t ∷ ts) m)
      (sym (is_one (next s) kinds.Comma e.0))
      (after (inner (passed s)) _ t b _ _ (subst (λ z. Finds (inner z) t b) e.1
      (full a b t (omega (arith, r, eats_less kinds.Comma s a e (λ e. cc) (λ e. cc))) x (more_off k q)))
      (after (many (another_type room inner) n b) _ ts m _ _
      (more_found n k (omega (arith, r, eats_less kinds.Comma s a e (λ e. cc) (λ e. cc), type_less x)) (omega arith) c q) (refl, refl)))

  keyword_is : (s : At) (k : Kind) (p : PlainType) → plain_at k ≡ Some p → plain_by room inner s k ≡ keyword_type s
  keyword_is s kinds.OpenSquare p h = cc
  keyword_is s kinds.OpenRound p h = cc
  keyword_is s kinds.Name p h = cc
  keyword_is s k p h = refl

  at_kind : (s m : At) (t : TypeTree) (k : Kind) → next s ≡ k → Finds (plain_by room inner s k) t m → Finds (plain_type room inner s) t m
  at_kind s m t k e h = subst (λ j. Finds (plain_by room inner s j) t m) (sym e) h

  plain_found : {s m : At} {t : TypeTree} → IsPlain s m t → length s.rest ≤ room → Finds (plain_type room inner s) t m
  plain_found {s = s} {m = m} (types.keyword {p = p} h e) r =
      subst (λ (z : At). Finds (plain_type room inner s) (PlainT (start s) z.past p) z) (sym e)
      (subst (λ z. Finds z (PlainT (start s) (passed s).past p) (passed s)) (sym (keyword_is s (next s) p h))
      (subst (λ o. Finds (keyword_by s o) (PlainT (start s) (passed s).past p) (passed s)) (sym h) (refl, refl)))
  plain_found {s = s} {m = m} (types.named {n = n} h) r = at_kind s m _ kinds.Name (name_kind s m n h)
      (after (name s) _ n m _ _ (finds_by (name s) n m h) (refl, refl))
  plain_found {s = s} {m = m} (types.listed {a = a} {b = b} {t = t} e x z) r =
      let la = eats_less kinds.OpenSquare s a e (λ e. cc) (λ e. cc) in
      at_kind s m _ kinds.OpenSquare e.0
      (after (open_bracket kinds.OpenSquare room s) _ done a _ _ (bracket_in kinds.OpenSquare room s a (omega arith) e)
      (after (inner a) _ t b _ _ (full a b t (omega arith) x (off_by kinds.Question kinds.CloseSquare b z.0 refl))
      (after (want kinds.CloseSquare b) _ done m _ _ (wanted kinds.CloseSquare b m z) (refl, refl))))
  plain_found {s = s} {m = m} (types.tuple {a = a} {b = b} {c = c} {d = d} {e = e} {t = t} {u = u} {ts = ts} q x i y k z) r =
      let la = eats_less kinds.OpenRound s a q (λ e. cc) (λ e. cc) in
      let lb = type_less x in
      let lc = eats_less kinds.Comma b c i (λ e. cc) (λ e. cc) in
      let ld = type_less y in
      at_kind s m _ kinds.OpenRound q.0
      (after (open_bracket kinds.OpenRound room s) _ done a _ _ (bracket_in kinds.OpenRound room s a (omega arith) q)
      (after (inner a) _ t b _ _ (full a b t (omega arith) x (off_by kinds.Question kinds.Comma b i.0 refl))
      (after (want kinds.Comma b) _ done c _ _ (wanted kinds.Comma b c i)
      (after (inner c) _ u d _ _ (full c d u (omega arith) y (more_off k (off_by kinds.Question kinds.CloseRound e z.0 refl)))
      (after (all_behind (t ∷ u ∷ []) (another_type room inner) d) _ (t ∷ u ∷ ts) e _ _
      (behind_them (t ∷ u ∷ []) ts _ e (more_found (length d.rest) k (omega arith) (omega (arith, more_types_count k))
      (off_by kinds.Comma kinds.CloseRound e z.0 refl) (off_by kinds.Question kinds.CloseRound e z.0 refl)))
      (after (want kinds.CloseRound e) _ done m _ _ (wanted kinds.CloseRound e m z) (refl, refl)))))))

  written_found : {s m : At} {t : TypeTree} → IsType s m t → length s.rest ≤ room → Off kinds.Question m → Finds (written_type room inner s) t m
  written_found {s = s} {m = m} {t = t} (types.plain x) r q = after (plain_type room inner s) _ t m _ _ (plain_found x r)
      (at_false (is (next m) kinds.Question) _ _ t m q (refl, refl))
  written_found {s = s} {m = m} (types.nullable {a = a} {t = t} x e) r q = after (plain_type room inner s) _ t a _ _ (plain_found x r)
      (at_true (is (next a) kinds.Question) (Got (NullableT (start s) (passed a).past t) (passed a)) _ _ m (is_one (next a) kinds.Question e.0)
      (ap (λ (z : At). NullableT (start s) z.past t) (sym e.1), sym e.1))

type_found : (d : ℕ) (s m : At) (t : TypeTree) → length s.rest ≤ d → IsType s m t → Off kinds.Question m → Finds (type_at d s) t m
type_found zero s m t l x q = written_found zero (λ s. Miss OutOfMemory s) (λ s m t l x q. absurd (omega arith)) x l q
type_found (suc d) s m t l x q = written_found (suc d) (type_at d) (λ s m t l x q. type_found d s m t (omega arith) x q) x l q

inner_found : (d : ℕ) (s m : At) (t : TypeTree) → length s.rest < d → IsType s m t → Off kinds.Question m → Finds (inner_type d s) t m
inner_found zero s m t l x q = absurd (omega arith)
inner_found (suc d) s m t l x q = type_found d s m t (omega arith) x q

pub type_is_found : (d : ℕ) {s m : At} {t : TypeTree} → IsType s m t → length s.rest ≤ d → Off kinds.Question m → Finds (written_type d (inner_type d) s) t m
type_is_found d x l q = written_found d (inner_type d) (inner_found d) x l q

pub plain_is_found : (d : ℕ) {s m : At} {t : TypeTree} → IsPlain s m t → length s.rest ≤ d → Finds (plain_type d (inner_type d) s) t m
plain_is_found d x l = plain_found d (inner_type d) (inner_found d) x l
