-- Words of expressions, and the relations that they stand for.
use Rattle.std.proofs.Common.{◌≡◌, inl, inr, Bool, List, [], ◌∷◌, Option, None, refl, sym, subst, ap, ◌∙◌}
use Rattle.pie_lexer.specs.declared.token.Token.{Token}
use Rattle.pie_lexer.specs.declared.token.TokenKind.{TokenKind}
use Rattle.pie_lexer.specs.declared.token.TokenKind.TheVariants as tokens
use Rattle.pie_parser.specs.declared.chain.Level.{Level}
use Rattle.pie_parser.specs.declared.chain.Level.TheVariants as levels
use Rattle.pie_parser.specs.declared.error.ParseFault.TheVariants.{Expected}
use Rattle.pie_parser.specs.declared.tree.Index.{Index}
use Rattle.pie_parser.specs.declared.tree.Step.{Step}
use Rattle.pie_parser.specs.declared.tree.Line.{Line}
use Rattle.pie_parser.specs.declared.tree.Literal.{Literal}
use Rattle.pie_parser.specs.declared.tree.CallKind.{CallKind}
use Rattle.pie_parser.specs.declared.tree.CallKind.TheVariants as calls
use Rattle.pie_parser.specs.declared.tree.EffectKind.{EffectKind}
use Rattle.pie_parser.specs.declared.tree.EffectKind.TheVariants as effects
use Rattle.pie_parser.specs.Plain.{Tree, TLiteral, BlockTree}
use Rattle.pie_parser.specs.At.{At}
use Rattle.pie_parser.specs.Places.{Got, Miss, start, passed}
use Rattle.pie_parser.specs.ExprReading as reads
use Rattle.pie_parser.specs.Grammar as grammar
use Rattle.pie_parser.specs.Grammar.{Indices, ByOfRequire, ByOfRead, IsExpr, IsChain, IsOperand, Steps, IsComparison, IsPrefixed, IsProjected, IsPrimary}
use Rattle.pie_parser.specs.Grammar.{Arguments, More, IsBlock, Lines}
use Rattle.pie_parser.proofs.Readings.{chosen, got_same, missed, bound}
use Rattle.pie_grammar_laws.proofs.Words.{Word, Nothing, word_nothing, word_then, word_as}
use Rattle.pie_grammar_laws.proofs.Samples.{LiteralR, word_name, word_eats, a_open_round, a_close_round, a_open_brace, a_close_brace}

-- a tree of each rule stands between two places
abbrev pub ExprR : Bool → At → At → Type 0
ExprR r s m = (t : Tree) × IsExpr r s m t

abbrev pub ChainR : Level → Bool → At → At → Type 0
ChainR l r s m = (t : Tree) × IsChain l r s m t

abbrev pub OperandR : Level → Bool → At → At → Type 0
OperandR l r s m = (t : Tree) × IsOperand l r s m t

abbrev pub StepsR : Level → Bool → At → At → Type 0
StepsR l r s m = (xs : List Step) × Steps l r s m xs

abbrev pub ComparisonR : Bool → At → At → Type 0
ComparisonR r s m = (t : Tree) × IsComparison r s m t

abbrev pub PrefixedR : Bool → At → At → Type 0
PrefixedR r s m = (t : Tree) × IsPrefixed r s m t

abbrev pub ProjectedR : Bool → At → At → Type 0
ProjectedR r s m = (t : Tree) × IsProjected r s m t

abbrev pub PrimaryR : Bool → At → At → Type 0
PrimaryR r s m = (t : Tree) × IsPrimary r s m t

abbrev pub IndicesR : At → At → Type 0
IndicesR s m = (ns : List Index) × Indices s m ns

abbrev pub ArgumentsR : At → At → Type 0
ArgumentsR s m = (ts : List Tree) × Arguments s m ts

abbrev pub MoreR : At → At → Type 0
MoreR s m = (ts : List Tree) × More s m ts

abbrev pub BlockR : At → At → Type 0
BlockR s m = (t : BlockTree) × IsBlock s m t

abbrev pub LinesR : At → At → Type 0
LinesR s m = (ls : List Line) × (u : Option Tree) × Lines s m ls u

abbrev pub ByReadR : At → At → Type 0
ByReadR s m = (k : EffectKind) × ByOfRead s m k

abbrev pub ByRequireR : Bool → At → At → Type 0
ByRequireR r s m = (k : CallKind) × ByOfRequire r s m k

pub no_indices : (s m : At) → Nothing s m → IndicesR s m
no_indices s m e = ([], subst (λ m. Indices s m []) e grammar.no_index)

pub no_steps : (l : Level) (r : Bool) (s m : At) → Nothing s m → StepsR l r s m
no_steps l r s m e = ([], subst (λ m. Steps l r s m []) e grammar.no_step)

pub no_more : (s m : At) → Nothing s m → MoreR s m
no_more s m e = ([], subst (λ m. More s m []) e grammar.no_more)

pub no_lines : (s m : At) → Nothing s m → LinesR s m
no_lines s m e = ([], None, subst (λ m. Lines s m [] None) e grammar.no_line)

pub word_indices : Word IndicesR
word_indices = word_as word_nothing no_indices

pub word_steps : (l : Level) (r : Bool) → Word (StepsR l r)
word_steps l r = word_as word_nothing (no_steps l r)

pub word_more : Word MoreR
word_more = word_as word_nothing no_more

pub word_lines : Word LinesR
word_lines = word_as word_nothing no_lines

pub word_by_read : Word ByReadR
word_by_read = word_as word_nothing (λ s m e. (effects.Read, subst (λ m. ByOfRead s m effects.Read) e grammar.nothing))

pub word_by_require : (r : Bool) → Word (ByRequireR r)
word_by_require r = record { word = []; off = λ r b. b; reads = λ p us b. (p, (calls.Require, grammar.nothing b)) }

pub word_primary : (r : Bool) → Word (PrimaryR r)
word_primary r = word_as word_name (λ s m h. (_, grammar.a_name h.1))

pub word_projected : (r : Bool) → Word (ProjectedR r)
word_projected r = word_as (word_then (word_primary r) word_indices) (λ s m h. (_, grammar.projected h.1.1 h.2.1 refl))

pub word_prefixed : (r : Bool) → Word (PrefixedR r)
word_prefixed r = word_as (word_projected r) (λ s m h. (_, grammar.plain h.1))

pub word_chain : (l : Level) (r : Bool) → Word (OperandR l r) → Word (ChainR l r)
word_chain l r w = word_as (word_then w (word_steps l r)) (λ s m h. (_, grammar.chained h.1.1 h.2.1 refl))

word_product : (r : Bool) → Word (OperandR levels.Product r)
word_product r = word_as (word_prefixed r) (λ s m h. (_, grammar.of_product h.1))

word_sum : (r : Bool) → Word (OperandR levels.Sum r)
word_sum r = word_as (word_chain levels.Product r (word_product r)) (λ s m h. (_, grammar.of_sum h.1))

pub word_comparison : (r : Bool) → Word (ComparisonR r)
word_comparison r = word_as (word_chain levels.Sum r (word_sum r)) (λ s m h. (_, grammar.alone h.1))

word_and : (r : Bool) → Word (OperandR levels.And r)
word_and r = word_as (word_comparison r) (λ s m h. (_, grammar.of_and h.1))

word_or : (r : Bool) → Word (OperandR levels.Or r)
word_or r = word_as (word_chain levels.And r (word_and r)) (λ s m h. (_, grammar.of_or h.1))

pub word_operand : (l : Level) (r : Bool) → Word (OperandR l r)
word_operand levels.Or r = word_or r
word_operand levels.And r = word_and r
word_operand levels.Sum r = word_sum r
word_operand levels.Product r = word_product r

pub word_expr : (r : Bool) → Word (ExprR r)
word_expr r = word_as (word_chain levels.Or r (word_or r)) (λ s m h. (_, grammar.expr h.1))

pub word_arguments : Word ArgumentsR
word_arguments = word_as (word_then (word_eats a_open_round) (word_eats a_close_round)) (λ s m h. ([], grammar.none h.1 h.2))

pub word_block : Word BlockR
word_block = word_as (word_then (word_eats a_open_brace) (word_then word_lines (word_eats a_close_brace))) (λ s m h. (_, grammar.block h.1 h.2.1.2 h.2.2))

literal_stays : (s a : At) (l : Literal) → reads.literal_here s ≡ Got l a → a ≡ s
literal_stays s a l h = elim (chosen s.marked (Miss Expected s) (reads.literal_in s s.rest) (Got l a) h) [
  | inl c ↦ missed c.1
  | inr c ↦ by_rest s.rest c.1
]
  where
    by_kind : (k : TokenKind) → reads.literal_by s k ≡ Got l a → a ≡ s
    by_kind (tokens.Int n) h = sym (got_same h).1
    by_kind (tokens.Text t) h = sym (got_same h).1
    by_kind tokens.True h = sym (got_same h).1
    by_kind tokens.False h = sym (got_same h).1
    by_kind tokens.UnitWord h = sym (got_same h).1
    by_kind k h = missed h

    by_rest : (ts : List Token) → reads.literal_in s ts ≡ Got l a → a ≡ s
    by_rest [] h = missed h
    by_rest (t ∷ ts) h = by_kind t.kind h

-- a literal that is read is one of the grammar
pub literal_primary : (r : Bool) (s m : At) → LiteralR s m → PrimaryR r s m
literal_primary r s m (t, h) =
    let b = bound (reads.literal_here s) (λ l a. Got (TLiteral (start s) (passed a).past l) (passed a)) t m h in
    let k = literal_stays s b.1 b.0 b.2 in
    let e : passed s ≡ m = ap passed (sym k) ∙ (got_same b.3).1 in (
      TLiteral (start s) (passed s).past b.0,
      subst (λ m. IsPrimary r s m (TLiteral (start s) (passed s).past b.0)) e
          (grammar.literal (subst (λ z. reads.literal_here s ≡ Got b.0 z) k b.2)),
    )
