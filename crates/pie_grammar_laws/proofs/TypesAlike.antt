-- A type is read alike in two texts.
use Rattle.std.proofs.Common.{◌≡◌, ℕ, zero, suc, [], ◌∷◌, Option, Some, None, refl, subst, ap, ◌∙◌, arith, ◌≤◌}
use Rattle.pie_parser.specs.declared.kind.Kind.{Kind}
use Rattle.pie_parser.specs.declared.kind.Kind.TheVariants as kinds
use Rattle.pie_parser.specs.declared.error.ParseFault.TheVariants.{OutOfMemory}
use Rattle.pie_parser.specs.declared.type_tree.PlainType.{PlainType}
use Rattle.pie_parser.specs.Kinds.{is}
use Rattle.pie_parser.specs.PlainTypes.{TypeTree, PlainT, NullableT}
use Rattle.pie_parser.specs.At.{At}
use Rattle.pie_parser.specs.Places.{Got, Miss, Parser, next, start}
use Rattle.pie_parser.specs.TypeReading.{plain_at, keyword_by, keyword_type, named_type, list_type, another_type, tuple_type, plain_by, plain_type}
use Rattle.pie_parser.specs.TypeReading.{written_type, type_at, inner_type}
use Rattle.pie_parser.proofs.Readings.{is_same}
use Rattle.pie_grammar_laws.proofs.Twins.{Texts, Twin, next_is, start_is, past_is, Alike, then_alike, any_alike, got_alike, wrong_alike, memory_alike, cond_alike}
use Rattle.pie_grammar_laws.proofs.Twins.{by_next}
use Rattle.pie_grammar_laws.proofs.Tokens.{is_plain, passing, plain_alike, close_alike, open_alike, name_alike}
use Rattle.pie_grammar_laws.proofs.Operators.{keyword_plain}
use Rattle.pie_grammar_laws.proofs.Loops.{TurnsAlike, cond_turn, all_alike}

-- the token of a type's keyword is no bracket
-- a type inside a bracket is read alike
abbrev pub TypeAlike : Texts → ℕ → Parser TypeTree → Type 0
TypeAlike z d p = (s t : At) → Twin z s t → Alike TypeTree z 1 d d s.rest (p s) (p t)

module _ (z : Texts) (room : ℕ) (fits : room ≤ z.limit) (inner : Parser TypeTree) (good : (d : ℕ) → room ≡ suc d → TypeAlike z d inner) where
  list_alike : TypeAlike z room (list_type room inner)
  list_alike s t w = open_alike _ _ kinds.OpenSquare room w refl (λ d n a b u.
      then_alike (good d n a b u) (λ x c e v l. then_alike (close_alike kinds.CloseSquare v refl n fits) (λ _ m k i l.
      got_alike i (let e1 = start_is w in let e2 = past_is i in cc))))

  more_alike : (d : ℕ) → room ≡ suc d → (s t : At) → Twin z s t → TurnsAlike TypeTree z d s.rest (another_type room inner s) (another_type room inner t)
  more_alike d n s t w = cond_turn (ap (λ k. is k kinds.Comma) (next_is w)) (λ e.
      passing d inner inner w (ap is_plain (is_same (next s) kinds.Comma e)) (λ a b u. good d n a b u))

  tuple_alike : TypeAlike z room (tuple_type room inner)
  tuple_alike s t w = open_alike _ _ kinds.OpenRound room w refl (λ d n a b u.
      then_alike (good d n a b u) (λ x _ _ u _. then_alike (plain_alike kinds.Comma u refl) (λ _ a b u _.
      then_alike (good d n a b u) (λ y a b u _. then_alike (all_alike z d (another_type room inner) (more_alike d n) (x ∷ y ∷ []) a b u) (λ xs _ _ u _.
      then_alike (close_alike kinds.CloseRound u refl n fits) (λ _ m k i l. got_alike i (let e1 = start_is w in let e2 = past_is i in cc)))))))

  keyword_alike : TypeAlike z room keyword_type
  keyword_alike s t w = by_next (λ k. keyword_by s (plain_at k)) (λ k. keyword_by t (plain_at k)) w (λ k e. by_keyword k e (plain_at k) refl)
    where
      by_keyword : (k : Kind) → next s ≡ k → (o : Option PlainType) → plain_at k ≡ o → Alike TypeTree z 1 room room s.rest (keyword_by s o) (keyword_by t o)
      by_keyword k e None h = wrong_alike w
      by_keyword k e (Some p) h = passing room (λ m. Got (PlainT (start s) m.past p) m) (λ m. Got (PlainT (start t) m.past p) m) w
          (ap is_plain e ∙ keyword_plain k p h) (λ m k i. got_alike i (let e1 = start_is w in let e2 = past_is i in cc))

  named_alike : TypeAlike z room named_type
  named_alike s t w = then_alike (name_alike w) (λ n m k i l. got_alike i refl)

  plain_type_alike : TypeAlike z room (plain_type room inner)
  plain_type_alike s t w = by_next (plain_by room inner s) (plain_by room inner t) w by_kind
    where
      by_kind : (k : Kind) → next s ≡ k → Alike TypeTree z 1 room room s.rest (plain_by room inner s k) (plain_by room inner t k)
      by_kind kinds.OpenSquare e = list_alike s t w
      by_kind kinds.OpenRound e = tuple_alike s t w
      by_kind kinds.Name e = named_alike s t w
      by_kind k e = keyword_alike s t w

  written_alike : TypeAlike z room (written_type room inner)
  written_alike s t w = then_alike (plain_type_alike s t w) (λ x a b u _.
      cond_alike (ap (λ k. is k kinds.Question) (next_is u))
      (λ e. any_alike (passing room (λ m. Got (NullableT (start s) m.past x) m) (λ m. Got (NullableT (start t) m.past x) m) u
      (ap is_plain (is_same (next a) kinds.Question e)) (λ m k i. got_alike i (let e1 = start_is w in let e2 = past_is i in cc))))
      (λ e. got_alike u refl))

type_at_alike : (z : Texts) (d : ℕ) → d ≤ z.limit → TypeAlike z d (type_at d)
type_at_alike z zero f = written_alike z zero f (λ s. Miss OutOfMemory s) (λ d n s t w. memory_alike w)
type_at_alike z (suc d) f = written_alike z (suc d) f (type_at d)
    (λ e n. subst (λ i. TypeAlike z i (type_at d)) (omega arith) (type_at_alike z d (omega arith)))

inner_type_alike : (z : Texts) (d : ℕ) → d ≤ z.limit → (e : ℕ) → d ≡ suc e → TypeAlike z e (inner_type d)
inner_type_alike z zero f e n s t w = memory_alike w
inner_type_alike z (suc d) f e n s t w = subst (λ i. TypeAlike z i (type_at d)) (omega arith) (type_at_alike z d (omega arith)) s t w

pub type_is_alike : (z : Texts) (d : ℕ) → d ≤ z.limit → TypeAlike z d (written_type d (inner_type d))
type_is_alike z d f = written_alike z d f (inner_type d) (inner_type_alike z d f)

pub plain_is_alike : (z : Texts) (d : ℕ) → d ≤ z.limit → TypeAlike z d (plain_type d (inner_type d))
plain_is_alike z d f = plain_type_alike z d f (inner_type d) (inner_type_alike z d f)
