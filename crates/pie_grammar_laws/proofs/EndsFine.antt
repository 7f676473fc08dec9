-- What may end an expression, projections and `by`, is a word of the grammar where it was read.
use Rattle.std.proofs.Common.{◌≡◌, ◌⊎◌, inr, Bool, true, false, cond, List, [], refl, sym, subst, ap, ◌∙◌}
use Rattle.pie_lexer.specs.declared.token.Token.{Token}
use Rattle.pie_parser.specs.declared.kind.Kind.{Kind}
use Rattle.pie_parser.specs.declared.kind.Kind.TheVariants as kinds
use Rattle.pie_parser.specs.declared.error.ParseFault.TheVariants.{Expected}
use Rattle.pie_parser.specs.declared.tree.Index.{Index}
use Rattle.pie_parser.specs.declared.tree.CallKind.{CallKind}
use Rattle.pie_parser.specs.declared.tree.CallKind.TheVariants as calls
use Rattle.pie_parser.specs.declared.tree.EffectKind.{EffectKind}
use Rattle.pie_parser.specs.declared.tree.EffectKind.TheVariants as effects
use Rattle.pie_parser.specs.Kinds.{is}
use Rattle.pie_parser.specs.At.{At}
use Rattle.pie_parser.specs.Places.{Got, Miss, then_on, done, first_kind, next, passed, want, index}
use Rattle.pie_parser.specs.ExprReading as reads
use Rattle.pie_parser.specs.ExprReading.{Around, around, by_conditions, expr_at, inner_at, test_at, nowhere}
use Rattle.pie_parser.specs.TypeGrammar.{Eats}
use Rattle.pie_parser.specs.Grammar as grammar
use Rattle.pie_parser.specs.Grammar.{Indices, ByOfRequire, ByOfRead, IsExpr, IsChain, IsOperand, Steps, IsComparison, IsPrefixed, IsProjected, IsPrimary}
use Rattle.pie_parser.specs.Grammar.{Arguments, More, IsBlock, Lines}
use Rattle.pie_parser.proofs.Readings.{is_same, is_other}
use Rattle.pie_grammar_laws.proofs.Tokens.{is_token}
use Rattle.pie_grammar_laws.proofs.Twins.{place}
use Rattle.pie_grammar_laws.proofs.Words.{Then, Word, Been, Fine, fine_got, been_then, after_been, fine_as, fine_weaker, fine_cond, fine_wrong, Nothing, fine_nothing}
use Rattle.pie_grammar_laws.proofs.Words.{word_nothing, word_as}
use Rattle.pie_grammar_laws.proofs.Samples.{been_pass, fine_pass, fine_eat, word_eats, IndexR, word_index, index_fine, a_hash}
use Rattle.pie_grammar_laws.proofs.Parts.{TurnFine, turn_cond, all_fine}
use Rattle.pie_grammar_laws.proofs.ExprWords.{IndicesR, ByReadR, ByRequireR, no_indices, word_indices}

-- either of two continuations, the second of which is empty
pub word_or_none : {R : At → At → Type 0} → Word (λ s m. R s m ⊎ Nothing s m)
word_or_none = word_as word_nothing (λ s m e. inr e)

pub indices_fine : (k : Bool) (s : At) → (k ≡ false → s.marked ≡ false) → Fine (List Index) k IndicesR s (reads.indices s)
indices_fine k s u = all_fine k (Then (Eats kinds.Dot) IndexR) IndicesR no_indices
    (λ s m h. (_, grammar.an_index h.1.1 h.1.2.1 h.2.1)) word_indices reads.another_index another [] s u
  where
    another : (s : At) → (k ≡ false → s.marked ≡ false) → TurnFine Index k (Then (Eats kinds.Dot) IndexR) s (reads.another_index s)
    another s u = turn_cond (is (next s) kinds.Dot) (λ h. let n = is_same (next s) kinds.Dot h in
        fine_weaker (fine_pass (λ j. j ≡ kinds.Dot) index (ap is_token n) n word_index (λ m v. index_fine v)))

pub by_of_read_fine : (s : At) → Fine EffectKind false ByReadR s (reads.by_of_read s)
by_of_read_fine s = fine_cond s.marked
    (λ h. fine_got effects.ReadByMark (record s { marked = false })
    (record { word = []; splits = refl; marks = λ e. refl; reads = λ p r f. (p, (effects.ReadByMark, grammar.marked h)) }))
    (λ u. fine_cond (is (next s) kinds.By) (λ h. by (is_same (next s) kinds.By h))
    (λ h. fine_as (fine_nothing effects.Read (λ _. u)) (λ s m e. (effects.Read, subst (λ m. ByOfRead s m effects.Read) e grammar.nothing))))
  where
    by : next s ≡ kinds.By → Fine EffectKind false ByReadR s (reads.read_by (passed s) (next (passed s)))
    by n = by_kind (next (passed s)) refl
      where
        first : Been false (Eats kinds.By) s (passed s)
        first = been_pass (λ j. j ≡ kinds.By) (ap is_token n) n

        by_kind : (j : Kind) → next (passed s) ≡ j → Fine EffectKind false ByReadR s (reads.read_by (passed s) j)
        by_kind kinds.Hash e = fine_as (after_been first (fine_eat kinds.Hash (λ _. effects.ReadByHash) refl e))
            (λ s m h. (effects.ReadByHash, grammar.by_hash h.1 h.2))
        by_kind kinds.Mark e = fine_as (after_been first (fine_eat kinds.Mark (λ _. effects.ReadByMark) refl e))
            (λ s m h. (effects.ReadByMark, grammar.by_mark h.1 h.2))
        by_kind j e = fine_as (after_been first (fine_wrong (word_eats a_hash) (first.marks refl))) (λ s m h. (effects.ReadByHash, grammar.by_hash h.1 h.2))

pub by_of_require_fine : (r : Bool) (s : At) → s.marked ≡ false → Fine CallKind r (ByRequireR r) s (reads.by_of_require r s)
by_of_require_fine r s u = fine_cond (is (next s) kinds.By) (λ h. by (is_same (next s) kinds.By h))
    (λ h. fine_got calls.Require s (record {
      word = [];
      splits = refl;
      marks = λ e. u;
      reads = λ p t f. (
        p,
        (
          calls.Require,
          grammar.nothing (λ i.
              is_other (next s) kinds.By h (unmarked s.marked s.rest u ∙ f (sym (unmarked s.marked t u) ∙ i))),
        ),
      );
    }))
  where
    unmarked : (b : Bool) (ts : List Token) → b ≡ false → next (place 0 ts b) ≡ first_kind ts
    unmarked b ts e = ap (λ c. next (place 0 ts c)) e

    by : next s ≡ kinds.By → Fine CallKind r (ByRequireR r) s (cond (is (next (passed s)) kinds.Hash) (Got calls.RequireByHash (passed (passed s)))
        (cond r (then_on (want kinds.Mark (passed s)) (λ _ m. Got calls.Require (record m { past = s.past; marked = true }))) (Miss Expected (passed s))))
    by n = fine_cond (is (next (passed s)) kinds.Hash)
        (λ h. fine_as (after_been first (fine_eat kinds.Hash (λ _. calls.RequireByHash) refl (is_same (next (passed s)) kinds.Hash h)))
        (λ s m h. (calls.RequireByHash, grammar.by_hash h.1 h.2)))
        (λ h. marks r)
      where
        first : Been false (Eats kinds.By) s (passed s)
        first = been_pass (λ j. j ≡ kinds.By) (ap is_token n) n

        wrong : (r : Bool) → Fine CallKind r (ByRequireR r) s (Miss Expected (passed s))
        wrong r = fine_as (after_been first (fine_wrong (word_eats a_hash) (first.marks refl))) (λ s m h. (calls.RequireByHash, grammar.by_hash h.1 h.2))

        marked : next (passed s) ≡ kinds.Mark → Fine CallKind true (ByRequireR true) s
            (Got calls.Require (record (passed (passed s)) { past = s.past; marked = true }))
        marked e =
            let x = been_then first (been_pass (λ j. j ≡ kinds.Mark) (ap is_token e) e) in
            fine_got calls.Require (record (passed (passed s)) { past = s.past; marked = true }) (record {
              word = x.word;
              splits = x.splits;
              marks = λ i. absurd cc;
              reads = λ p t f. let i = x.reads p t f in (p, (calls.Require, grammar.passes_mark i.1.1 i.1.2));
            })

        at_mark : (b : Bool) → is (next (passed s)) kinds.Mark ≡ b
            → Fine CallKind true (ByRequireR true) s (then_on (cond b (Got done (passed (passed s))) (Miss Expected (passed s)))
            (λ _ m. Got calls.Require (record m { past = s.past; marked = true })))
        at_mark true e = marked (is_same (next (passed s)) kinds.Mark e)
        at_mark false e = wrong true

        marks : (r : Bool) → Fine CallKind r (ByRequireR r) s
            (cond r (then_on (want kinds.Mark (passed s)) (λ _ m. Got calls.Require (record m { past = s.past; marked = true }))) (Miss Expected (passed s)))
        marks true = at_mark (is (next (passed s)) kinds.Mark) refl
        marks false = wrong false
