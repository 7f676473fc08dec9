-- A type that was read is a word of the grammar.
use Rattle.std.proofs.Common.{◌≡◌, ◌⊎◌, inl, inr, ℕ, zero, suc, false, List, [], ◌∷◌, Option, Some, None, refl, sym, subst, ap, ◌∙◌}
use Rattle.pie_lexer.specs.declared.token.TokenKind.TheVariants as tokens
use Rattle.pie_parser.specs.declared.kind.Kind.{Kind}
use Rattle.pie_parser.specs.declared.kind.Kind.TheVariants as kinds
use Rattle.pie_parser.specs.declared.error.ParseFault.TheVariants.{OutOfMemory}
use Rattle.pie_parser.specs.declared.type_tree.PlainType.{PlainType}
use Rattle.pie_parser.specs.Kinds.{is}
use Rattle.pie_parser.specs.PlainTypes.{TypeTree, PlainT, NullableT}
use Rattle.pie_parser.specs.At.{At}
use Rattle.pie_parser.specs.Places.{Got, Miss, Parser, next, start}
use Rattle.pie_parser.specs.inner.Turns.{all_behind}
use Rattle.pie_parser.specs.TypeReading as reads
use Rattle.pie_parser.specs.TypeReading.{plain_at, plain_type, written_type, type_at, inner_type}
use Rattle.pie_parser.specs.TypeGrammar as grammar
use Rattle.pie_parser.specs.TypeGrammar.{Eats, IsType, IsPlain, MoreTypes}
use Rattle.pie_parser.proofs.Readings.{is_same}
use Rattle.pie_grammar_laws.proofs.Tokens.{is_token}
use Rattle.pie_grammar_laws.proofs.Operators.{keyword_token}
use Rattle.pie_grammar_laws.proofs.Words.{Then, Word, Fine, fine_then, fine_as, fine_last, fine_cond, fine_wrong, fine_nothing, no_memory, Nothing, word_nothing}
use Rattle.pie_grammar_laws.proofs.Words.{word_then, word_as}
use Rattle.pie_grammar_laws.proofs.Samples.{token_of, word_eats, fine_pass, fine_eat, want_fine, open_fine, name_fine, a_open_square, a_close_square, a_open_round}
use Rattle.pie_grammar_laws.proofs.Samples.{a_close_round, a_comma}
use Rattle.pie_grammar_laws.proofs.Parts.{TurnFine, turn_cond, all_fine}

abbrev pub TypeR : At → At → Type 0
TypeR s m = (t : TypeTree) × IsType s m t

abbrev pub PlainR : At → At → Type 0
PlainR s m = (t : TypeTree) × IsPlain s m t

abbrev MoreR : At → At → Type 0
MoreR s m = (ts : List TypeTree) × MoreTypes s m ts

pub word_plain : Word PlainR
word_plain = record { word = token_of tokens.IntWord ∷ []; off = λ r b h. absurd cc; reads = λ p r b. (0, (_, grammar.keyword refl refl)) }

pub word_type : Word TypeR
word_type = word_as word_plain (λ s m h. (_, grammar.plain h.1))

word_more : Word MoreR
word_more = word_as word_nothing (λ s m h. ([], subst (λ m. MoreTypes s m []) h grammar.no_more))

module _ (room : ℕ) (inner : Parser TypeTree) (good : (s : At) → s.marked ≡ false → Fine TypeTree false TypeR s (inner s)) where
  list_fine : (s : At) → s.marked ≡ false → Fine TypeTree false PlainR s (reads.list_type room inner s)
  list_fine s u =
      let w1 = word_eats a_close_square in
      let w0 = word_then word_type w1 in
      fine_as (fine_then (open_fine room a_open_square refl u) w0
      (λ _ a i. fine_then (good a (i refl)) w1 (λ t b i. fine_last _ (want_fine a_close_square (i refl)))))
      (λ s m h. (_, grammar.listed h.1 h.2.1.1 h.2.2))

  more_fine : (xs : List TypeTree) (s : At) → s.marked ≡ false → Fine (List TypeTree) false MoreR s (all_behind xs (reads.another_type room inner) s)
  more_fine xs s u = all_fine false (Then (Eats kinds.Comma) TypeR) MoreR (λ s m h. ([], subst (λ m. MoreTypes s m []) h grammar.no_more))
      (λ s m h. (_, grammar.one_more h.1.1 h.1.2.1 h.2.1)) word_more (reads.another_type room inner) another xs s (λ _. u)
    where
      another : (s : At) → (false ≡ false → s.marked ≡ false) → TurnFine TypeTree false (Then (Eats kinds.Comma) TypeR) s (reads.another_type room inner s)
      another s u = turn_cond (is (next s) kinds.Comma) (λ h. let n = is_same (next s) kinds.Comma h in
          fine_pass (λ j. j ≡ kinds.Comma) inner (ap is_token n) n word_type good)

  tuple_fine : (s : At) → s.marked ≡ false → Fine TypeTree false PlainR s (reads.tuple_type room inner s)
  tuple_fine s u =
      let w4 = word_eats a_close_round in
      let w3 = word_then word_more w4 in
      let w2 = word_then word_type w3 in
      let w1 = word_then (word_eats a_comma) w2 in
      let w0 = word_then word_type w1 in
      fine_as (fine_then (open_fine room a_open_round refl u) w0
      (λ _ a i. fine_then (good a (i refl)) w1 (λ t b i. fine_then (want_fine a_comma (i refl)) w2 (λ _ c i.
      fine_then (good c (i refl)) w3 (λ x d i. fine_then (more_fine (t ∷ x ∷ []) d (i refl)) w4 (λ xs f i. fine_last _ (want_fine a_close_round (i refl))))))))
      (λ s m h. (_, grammar.tuple h.1 h.2.1.1 h.2.2.1 h.2.2.2.1.1 h.2.2.2.2.1.1 h.2.2.2.2.2))

  keyword_fine : (s : At) → s.marked ≡ false → Fine TypeTree false PlainR s (reads.keyword_type s)
  keyword_fine s u = by_keyword (plain_at (next s)) refl
    where
      by_keyword : (o : Option PlainType) → plain_at (next s) ≡ o → Fine TypeTree false PlainR s (reads.keyword_by s o)
      by_keyword None h = fine_wrong word_plain u
      by_keyword (Some p) h = fine_as (fine_pass (λ k. plain_at k ≡ Some p) (λ m. Got (PlainT (start s) m.past p) m)
          (keyword_token (next s) p h) h word_nothing (λ m v. fine_nothing (PlainT (start s) m.past p) (λ _. v)))
          (λ s m h. (_, grammar.keyword h.1.0 (sym h.2 ∙ h.1.1)))

  named_fine : (s : At) → s.marked ≡ false → Fine TypeTree false PlainR s (reads.named_type s)
  named_fine s u = fine_as (fine_last _ (name_fine u)) (λ s m h. (_, grammar.named h.1))

  plain_type_fine : (s : At) → s.marked ≡ false → Fine TypeTree false PlainR s (plain_type room inner s)
  plain_type_fine s u = by_kind (next s)
    where
      by_kind : (k : Kind) → Fine TypeTree false PlainR s (reads.plain_by room inner s k)
      by_kind kinds.OpenSquare = list_fine s u
      by_kind kinds.OpenRound = tuple_fine s u
      by_kind kinds.Name = named_fine s u
      by_kind k = keyword_fine s u

  -- a mark behind a type, or none
  abbrev Mark : At → At → Type 0
  Mark s m = Eats kinds.Question s m ⊎ Nothing s m

  with_mark : (s m : At) → Then PlainR Mark s m → TypeR s m
  with_mark s m (a, t, inl q) = (_, grammar.nullable t.1 q)
  with_mark s m (a, t, inr e) = (_, grammar.plain (subst (λ z. IsPlain s z t.0) e t.1))

  written_fine : (s : At) → s.marked ≡ false → Fine TypeTree false TypeR s (written_type room inner s)
  written_fine s u = fine_as (fine_then (plain_type_fine s u) (word_as word_nothing (λ s m e. inr e)) (λ t a i.
      fine_cond (is (next a) kinds.Question) (λ h. fine_as (fine_eat kinds.Question (λ m. NullableT (start s) m.past t) refl
      (is_same (next a) kinds.Question h)) (λ s m h. inl h))
      (λ h. fine_as (fine_nothing t i) (λ s m e. inr e)))) with_mark

type_at_fine : (d : ℕ) (s : At) → s.marked ≡ false → Fine TypeTree false TypeR s (type_at d s)
type_at_fine zero s u = written_fine zero (λ s. Miss OutOfMemory s) (λ s u. no_memory s) s u
type_at_fine (suc d) s u = written_fine (suc d) (type_at d) (type_at_fine d) s u

inner_type_fine : (d : ℕ) (s : At) → s.marked ≡ false → Fine TypeTree false TypeR s (inner_type d s)
inner_type_fine zero s u = no_memory s
inner_type_fine (suc d) s u = type_at_fine d s u

pub type_is_fine : (d : ℕ) {s : At} → s.marked ≡ false → Fine TypeTree false TypeR s (written_type d (inner_type d) s)
type_is_fine d {s = s} u = written_fine d (inner_type d) (inner_type_fine d) s u

pub plain_is_fine : (d : ℕ) {s : At} → s.marked ≡ false → Fine TypeTree false PlainR s (plain_type d (inner_type d) s)
plain_is_fine d {s = s} u = plain_type_fine d (inner_type d) (inner_type_fine d) s u
