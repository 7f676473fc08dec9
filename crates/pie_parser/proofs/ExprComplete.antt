-- An expression of the grammar is read, or a limit is met.
use Rattle.std.proofs.Common.{◌≡◌, ◌⊎◌, inl, inr, ℕ, ◌+◌, ◌<◌, ◌≤◌, zero, suc, Bool, true, false, cond, ◌==◌, List, [], ◌∷◌, ◌++◌, length, Option, Some, None}
use Rattle.std.proofs.Common.{refl, sym, subst, ap, ◌∙◌, arith, rules}
use denote.Enum.Bare.{false_same}
use Rattle.pie_parser.specs.contracts.kind.Kind.{the_type}
use Rattle.pie_lexer.specs.declared.token.Token.{Token}
use Rattle.pie_lexer.specs.declared.token.TokenKind.{TokenKind}
use Rattle.pie_lexer.specs.declared.token.TokenKind.TheVariants as tokens
use Rattle.pie_parser.specs.declared.kind.Kind.{Kind}
use Rattle.pie_parser.specs.declared.kind.Kind.TheVariants as kinds
use Rattle.pie_parser.specs.declared.chain.Level.{Level}
use Rattle.pie_parser.specs.declared.chain.Level.TheVariants as levels
use Rattle.pie_parser.specs.declared.error.ParseFault.TheVariants.{Expected, TooDeep, OutOfMemory}
use Rattle.pie_parser.specs.declared.tree.Name.{Name}
use Rattle.pie_parser.specs.declared.tree.Index.{Index}
use Rattle.pie_parser.specs.declared.tree.Step.{Step}
use Rattle.pie_parser.specs.declared.tree.Line.{Line}
use Rattle.pie_parser.specs.declared.tree.Line.TheVariants as line_kinds
use Rattle.pie_parser.specs.declared.tree.Literal.{Literal}
use Rattle.pie_parser.specs.declared.tree.Operator.{Operator}
use Rattle.pie_parser.specs.declared.tree.Comparison.{Comparison}
use Rattle.pie_parser.specs.declared.tree.Prefix.{Prefix}
use Rattle.pie_parser.specs.declared.tree.CallKind.{CallKind}
use Rattle.pie_parser.specs.declared.tree.CallKind.TheVariants as calls
use Rattle.pie_parser.specs.declared.tree.EffectKind.{EffectKind}
use Rattle.pie_parser.specs.declared.tree.EffectKind.TheVariants as effects
use Rattle.pie_parser.specs.declared.reader.Room.{Room}
use Rattle.pie_parser.specs.Kinds.{is, kind_of_token}
use Rattle.pie_parser.specs.Tests.{operator_at, comparison_at, prefix_at, effect_at}
use Rattle.pie_parser.specs.PlainTypes.{TypeTree}
use Rattle.pie_parser.specs.Plain.{Tree, TLiteral, TEffect, TPrefix, TCompare, TIf, BlockTree, NoElse, AnElse}
use Rattle.pie_parser.specs.TreeView.{trees_of}
use Rattle.pie_parser.specs.At.{At}
use Rattle.pie_parser.specs.Places.{Parsed, Got, Miss, Parser, then_on, Passed, done, first_kind, next, start, passed, want, open_bracket, name, index}
use Rattle.pie_parser.specs.inner.Turns.{Turn, Stop, Part, on_turn, many, onto, all_behind}
use Rattle.pie_parser.specs.inner.Pieces.{Piece, ALine, TheLast, on_piece, onto_lines}
use Rattle.pie_parser.specs.TypeReading.{plain_type, written_type, inner_type}
use Rattle.pie_parser.specs.ExprReading as reads
use Rattle.pie_parser.specs.ExprReading.{Around, around, by_conditions, expr_at, inner_at, test_at, nowhere, chain, projection}
use Rattle.pie_parser.specs.TypeGrammar.{Eats, IsName, IsType, IsPlain}
use Rattle.pie_parser.specs.Grammar as grammar
use Rattle.pie_parser.specs.Grammar.{IsIndex, Indices, ByOfRequire, ByOfRead, IsExpr, IsChain, IsOperand, Steps, IsComparison, IsPrefixed, IsProjected}
use Rattle.pie_parser.specs.Grammar.{IsPrimary, Arguments, More, IsBlock, Lines}
use Rattle.pie_parser.proofs.Readings.{chosen, got_same, missed}
use Rattle.pie_parser.proofs.Strength.{strength, level_of, Ends, ends_at, is_one, is_not, no_operator, no_comparison, operator_strength, comparison_strength}
use Rattle.pie_parser.proofs.Hits.{Hits, after, at_true, at_false, wanted, bracket, behind_them}
use Rattle.pie_parser.proofs.Shorter.{last_one, indices_count, steps_count, more_count, lines_count}
use Rattle.pie_parser.proofs.TypesComplete.{Off, off_by, hits_by, name_kind, type_is_hit, plain_is_hit}

-- the kinds that begin an expression
abbrev starts : Kind → Bool
starts kinds.Name = true
starts kinds.Int = true
starts kinds.Text = true
starts kinds.True = true
starts kinds.False = true
starts kinds.UnitWord = true
starts kinds.Null = true
starts kinds.Empty = true
starts kinds.OpenRound = true
starts kinds.OpenSquare = true
starts kinds.If = true
starts kinds.Path = true
starts kinds.Exists = true
starts kinds.Digest = true
starts kinds.List = true
starts kinds.Read = true
starts kinds.Write = true
starts kinds.Fail = true
starts kinds.Require = true
starts kinds.Run = true
starts kinds.Not = true
starts kinds.Minus = true
starts k = false

-- the kinds that begin what operators stand on
abbrev begins : Kind → Bool
begins kinds.Name = true
begins kinds.Int = true
begins kinds.Text = true
begins kinds.True = true
begins kinds.False = true
begins kinds.UnitWord = true
begins kinds.Null = true
begins kinds.Empty = true
begins kinds.OpenRound = true
begins kinds.OpenSquare = true
begins kinds.If = true
begins kinds.Path = true
begins kinds.Exists = true
begins kinds.Digest = true
begins kinds.List = true
begins kinds.Read = true
begins kinds.Write = true
begins kinds.Fail = true
begins kinds.Require = true
begins kinds.Run = true
begins k = false

starts_begins : (k : Kind) → begins k ≡ true → starts k ≡ true
starts_begins kinds.Name h = refl
starts_begins kinds.Int h = refl
starts_begins kinds.Text h = refl
starts_begins kinds.True h = refl
starts_begins kinds.False h = refl
starts_begins kinds.UnitWord h = refl
starts_begins kinds.Null h = refl
starts_begins kinds.Empty h = refl
starts_begins kinds.OpenRound h = refl
starts_begins kinds.OpenSquare h = refl
starts_begins kinds.If h = refl
starts_begins kinds.Path h = refl
starts_begins kinds.Exists h = refl
starts_begins kinds.Digest h = refl
starts_begins kinds.List h = refl
starts_begins kinds.Read h = refl
starts_begins kinds.Write h = refl
starts_begins kinds.Fail h = refl
starts_begins kinds.Require h = refl
starts_begins kinds.Run h = refl
starts_begins k h = cc

off_start : (k : Kind) (s : At) → starts (next s) ≡ true → starts k ≡ false → Off k s
off_start k s h n = false_same the_type (search rules) (next s) k (λ e. let y : true ≡ false = sym h ∙ ap starts e ∙ n in cc)

no_prefix : (k : Kind) → begins k ≡ true → prefix_at k ≡ None
no_prefix kinds.Not h = cc
no_prefix kinds.Minus h = cc
no_prefix k h = refl

prefix_starts : (k : Kind) (p : Prefix) → prefix_at k ≡ Some p → starts k ≡ true
prefix_starts kinds.Not p h = refl
prefix_starts kinds.Minus p h = refl
prefix_starts k p h = cc

effect_begins : (k : Kind) (x : EffectKind) → effect_at k ≡ Some x → begins k ≡ true
effect_begins kinds.Path x h = refl
effect_begins kinds.Exists x h = refl
effect_begins kinds.Digest x h = refl
effect_begins kinds.List x h = refl
effect_begins k x h = cc

-- a literal's kind is one of these
record LiteralAt (k : Kind) : Type 0 where
  begin : begins k ≡ true
  reads_it : (e : Around) (s : At) → reads.primary_by e s k ≡ reads.literal s

literal_at : (s a : At) (l : Literal) → reads.literal_here s ≡ Got l a → LiteralAt (next s)
literal_at s a l h = elim (chosen s.marked (Miss Expected s) (reads.literal_in s s.rest) (Got l a) h) [
  | inl c ↦ missed c.1
  | inr c ↦ subst (λ b. LiteralAt (cond b kinds.Marked (first_kind s.rest))) (sym c.0) (by_rest s.rest c.1)
]
  where
    by_kind : (k : TokenKind) → reads.literal_by s k ≡ Got l a → LiteralAt (kind_of_token k)
    by_kind (tokens.Int n) h = record { begin = refl; reads_it = λ e s. refl }
    by_kind (tokens.Text t) h = record { begin = refl; reads_it = λ e s. refl }
    by_kind tokens.True h = record { begin = refl; reads_it = λ e s. refl }
    by_kind tokens.False h = record { begin = refl; reads_it = λ e s. refl }
    by_kind tokens.UnitWord h = record { begin = refl; reads_it = λ e s. refl }
    by_kind k h = missed h

    by_rest : (ts : List Token) → reads.literal_in s ts ≡ Got l a → LiteralAt (first_kind ts)
    by_rest [] h = missed h
    by_rest (t ∷ ts) h = by_kind t.kind h

begins_by : (k : Kind) (s : At) → next s ≡ k → begins k ≡ true → begins (next s) ≡ true
begins_by k s e h = subst (λ j. begins j ≡ true) (sym e) h

first_primary : {r : Bool} {s m : At} {t : Tree} → IsPrimary r s m t → begins (next s) ≡ true
first_primary {s = s} (grammar.literal {l = l} h) = (literal_at s s l h).begin
first_primary {s = s} {m = m} (grammar.a_name {n = n} h) = begins_by kinds.Name s (name_kind s m n h) refl
first_primary {s = s} (grammar.call {a = a} {n = n} h x) = begins_by kinds.Name s (name_kind s a n h) refl
first_primary {s = s} (grammar.effect {k = k} h q x z) = effect_begins (next s) k h
first_primary {s = s} (grammar.null x0 x1) = begins_by kinds.Null s x0.0 refl
first_primary {s = s} (grammar.empty x0 x1) = begins_by kinds.Empty s x0.0 refl
first_primary {s = s} (grammar.brackets x0 x1 x2) = begins_by kinds.OpenRound s x0.0 refl
first_primary {s = s} (grammar.tuple x0 x1 x2 x3 x4) = begins_by kinds.OpenRound s x0.0 refl
first_primary {s = s} (grammar.list x0 x1 x2 x3) = begins_by kinds.OpenSquare s x0.0 refl
first_primary {s = s} (grammar.each x0 x1 x2 x3 x4 x5 x6) = begins_by kinds.OpenSquare s x0.0 refl
first_primary {s = s} (grammar.if_alone x0 x1 x2) = begins_by kinds.If s x0.0 refl
first_primary {s = s} (grammar.if_else x0 x1 x2 x3 x4) = begins_by kinds.If s x0.0 refl
first_primary {s = s} (grammar.read x0 x1 x2 x3 x4) = begins_by kinds.Read s x0.0 refl
first_primary {s = s} (grammar.write x0 x1 x2 x3 x4 x5) = begins_by kinds.Write s x0.0 refl
first_primary {s = s} (grammar.fail x0 x1 x2 x3 x4) = begins_by kinds.Fail s x0.0 refl
first_primary {s = s} (grammar.require x0 x1 x2 x3) = begins_by kinds.Require s x0.0 refl
first_primary {s = s} (grammar.run x0 x1 x2) = begins_by kinds.Run s x0.0 refl

first_prefixed : {r : Bool} {s m : At} {t : Tree} → IsPrefixed r s m t → starts (next s) ≡ true
first_prefixed {s = s} (grammar.plain (grammar.projected x k u)) = starts_begins (next s) (first_primary x)
first_prefixed {s = s} (grammar.prefixed {p = p} h x) = prefix_starts (next s) p h

mutual
  first_chain : {l : Level} {r : Bool} {s m : At} {t : Tree} → IsChain l r s m t → starts (next s) ≡ true
  first_chain (grammar.chained x k u) = first_operand x

  first_operand : {l : Level} {r : Bool} {s m : At} {t : Tree} → IsOperand l r s m t → starts (next s) ≡ true
  first_operand (grammar.of_or x) = first_chain x
  first_operand (grammar.of_and x) = first_comparison x
  first_operand (grammar.of_sum x) = first_chain x
  first_operand (grammar.of_product x) = first_prefixed x

  first_comparison : {r : Bool} {s m : At} {t : Tree} → IsComparison r s m t → starts (next s) ≡ true
  first_comparison (grammar.alone x) = first_chain x
  first_comparison (grammar.compared x h y) = first_chain x

first_expr : {r : Bool} {s m : At} {t : Tree} → IsExpr r s m t → starts (next s) ≡ true
first_expr (grammar.expr x) = first_chain x

first_projected : {r : Bool} {s m : At} {t : Tree} → IsProjected r s m t → begins (next s) ≡ true
first_projected (grammar.projected x k u) = first_primary x

first_arguments : {s m : At} {ts : List Tree} → Arguments s m ts → next s ≡ kinds.OpenRound
first_arguments (grammar.none q p) = q.0
first_arguments (grammar.some q x k p) = q.0

first_block : {s m : At} {t : BlockTree} → IsBlock s m t → next s ≡ kinds.OpenBrace
first_block (grammar.block q k p) = q.0

marked_next : (s : At) → s.marked ≡ true → next s ≡ kinds.Marked
marked_next s h = ap (λ b. cond b kinds.Marked (first_kind s.rest)) h

-- what may stand behind the argument of a `read`
by_read_follow : {s d m : At} {k : EffectKind} → ByOfRead s d k → Eats kinds.CloseRound d m → Ends 1 s
by_read_follow {s = s} grammar.nothing z = ends_at 1 kinds.CloseRound s (omega arith) z.0
by_read_follow {s = s} (grammar.by_hash q p) z = ends_at 1 kinds.By s (omega arith) q.0
by_read_follow {s = s} (grammar.by_mark q p) z = ends_at 1 kinds.By s (omega arith) q.0
by_read_follow {s = s} (grammar.marked h) z = ends_at 1 kinds.Marked s (omega arith) (marked_next s h)

-- what may stand behind the parts of a list
indices_follow : {s m : At} {ns : List Index} → Indices s m ns → Ends 6 m → Ends 7 s
indices_follow grammar.no_index f = omega arith
indices_follow {s = s} (grammar.an_index q i k) f = ends_at 7 kinds.Dot s (omega arith) q.0

steps_follow : {l : Level} {r : Bool} {s m : At} {xs : List Step} → Steps l r s m xs → Ends (level_of l) m → Ends (level_of l + 1) s
steps_follow grammar.no_step f = omega arith
steps_follow {l = l} {s = s} (grammar.a_step {o = o} h x k) f = let z = operator_strength l (next s) o h in omega arith

more_follow : {s m : At} {ts : List Tree} → More s m ts → Ends 1 m → Ends 1 s
more_follow grammar.no_more f = f
more_follow {s = s} (grammar.one_more q x k) f = ends_at 1 kinds.Comma s (omega arith) q.0

more_off : {s m : At} {ts : List Tree} (k : Kind) → More s m ts → is kinds.Comma k ≡ false → Off k m → Off k s
more_off k grammar.no_more c o = o
more_off {s = s} k (grammar.one_more q x y) c o = off_by k kinds.Comma s q.0 c

indices_hits : (n : ℕ) {s m : At} {ns : List Index} → Indices s m ns → length ns ≤ n → Off kinds.Dot m → Hits (many reads.another_index n s) ns m
indices_hits zero grammar.no_index l c = (refl, refl)
indices_hits zero (grammar.an_index q i k) l c = absurd (omega arith)
indices_hits (suc n) {s = s} grammar.no_index l c = subst (λ y. Hits (on_turn (cond y (Part (index (passed s))) Stop) s (many reads.another_index n)) [] s)
    (sym c) (refl, refl)
indices_hits (suc n) {s = s} {m = m} (grammar.an_index {a = a} {b = b} {n = x} {ns = ns} q i k) l c =
    subst (λ y. Hits (on_turn (cond y (Part (index (passed s))) Stop) s (many reads.another_index n)) (x ∷ ns) m) (sym (is_one (next s) kinds.Dot q.0))
    (after (index (passed s)) _ x b _ _ (hits_by (index (passed s)) x b (subst (λ z. index z ≡ Got x b) q.1 i))
    (after (many reads.another_index n b) _ ns m _ _ (indices_hits n k (omega arith) c) (refl, refl)))

by_require_hits : (r : Bool) {s m : At} {k : CallKind} → ByOfRequire r s m k → Hits (reads.by_of_require r s) k m
by_require_hits r {s = s} (grammar.nothing h) = at_false (is (next s) kinds.By) _ (Got calls.Require s) calls.Require s
    (false_same the_type (search rules) (next s) kinds.By h) (refl, refl)
by_require_hits r {s = s} {m = m} (grammar.by_hash {a = a} q p) = at_true (is (next s) kinds.By) _ _ calls.RequireByHash m (is_one (next s) kinds.By q.0)
    (at_true (is (next (passed s)) kinds.Hash) (Got calls.RequireByHash (passed (passed s))) _ calls.RequireByHash m
    (is_one (next (passed s)) kinds.Hash (subst (λ z. next z ≡ kinds.Hash) q.1 p.0))
    (refl, sym (p.1 ∙ ap passed q.1)))
by_require_hits r {s = s} (grammar.passes_mark {a = a} {b = b} q p) =
    let at_mark : Eats kinds.Mark (passed s) b = (subst (λ z. next z ≡ kinds.Mark) q.1 p.0, p.1 ∙ ap passed q.1) in
    at_true (is (next s) kinds.By) _ _ calls.Require _ (is_one (next s) kinds.By q.0)
    (at_false (is (next (passed s)) kinds.Hash) (Got calls.RequireByHash (passed (passed s))) _ calls.Require _
    (off_by kinds.Hash kinds.Mark (passed s) at_mark.0 refl)
    (after (want kinds.Mark (passed s)) _ done b _ _ (wanted kinds.Mark (passed s) b at_mark) (refl, refl)))

by_keyword : (s d a : At) → Eats kinds.By s a → (k : EffectKind) → (Unit {0} → Hits (reads.read_by (passed s) (next (passed s))) k d)
    → Hits (reads.by_of_read s) k d
by_keyword s d a q k h = by_mark s.marked refl
  where
    by_mark : (b : Bool) → s.marked ≡ b → Hits (cond b (Got effects.ReadByMark (record s { marked = false }))
        (cond (is (next s) kinds.By) (reads.read_by (passed s) (next (passed s))) (Got effects.Read s))) k d
    by_mark true e = (let y : kinds.Marked ≡ kinds.By = sym (ap (λ b. cond b kinds.Marked (first_kind s.rest)) e) ∙ q.0 in cc)
    by_mark false e = at_true (is (next s) kinds.By) _ _ k d (is_one (next s) kinds.By q.0) (h tt)

-- a `read`'s closing bracket stands behind
by_read_hits : {s d m : At} {k : EffectKind} → ByOfRead s d k → Eats kinds.CloseRound d m → Hits (reads.by_of_read s) k d
by_read_hits {s = s} grammar.nothing z = unmarked s.marked refl
  where
    unmarked : (b : Bool) → s.marked ≡ b → Hits (cond b (Got effects.ReadByMark (record s { marked = false }))
        (cond (is (next s) kinds.By) (reads.read_by (passed s) (next (passed s))) (Got effects.Read s))) effects.Read s
    unmarked true e = (let y : kinds.Marked ≡ kinds.CloseRound = sym (ap (λ b. cond b kinds.Marked (first_kind s.rest)) e) ∙ z.0 in cc)
    unmarked false e = at_false (is (next s) kinds.By) _ _ effects.Read s (off_by kinds.By kinds.CloseRound s z.0 refl) (refl, refl)
by_read_hits {s = s} {d = d} (grammar.by_hash {a = a} q p) z = by_keyword s d a q effects.ReadByHash
    (λ k. subst (λ j. Hits (reads.read_by (passed s) j) effects.ReadByHash d) (sym (subst (λ i. next i ≡ kinds.Hash) q.1 p.0))
    (refl, sym (p.1 ∙ ap passed q.1)))
by_read_hits {s = s} {d = d} (grammar.by_mark {a = a} q p) z = by_keyword s d a q effects.ReadByMark
    (λ k. subst (λ j. Hits (reads.read_by (passed s) j) effects.ReadByMark d) (sym (subst (λ i. next i ≡ kinds.Mark) q.1 p.0))
    (refl, sym (p.1 ∙ ap passed q.1)))
by_read_hits {s = s} (grammar.marked h) z = at_true s.marked (Got effects.ReadByMark (record s { marked = false })) _ effects.ReadByMark _ h (refl, refl)

-- the readings inside a bracket and of a condition find what stands there
record Full (e : Around) : Type 0 where
  inner : (r : Bool) (s m : At) (t : Tree) → IsExpr r s m t → Ends 1 m → Hits (e.inner r s) t m
  test : (s m : At) (t : Tree) → IsExpr false s m t → Ends 1 m → Hits (e.test s) t m

module _ (e : Around) (g : Full e) where
  more_hits : (n : ℕ) {s m : At} {ts : List Tree} → More s m ts → length ts ≤ n → Off kinds.Comma m → Ends 1 m → Hits (many (reads.another e) n s) ts m
  more_hits zero grammar.no_more l c f = (refl, refl)
  more_hits zero (grammar.one_more q x k) l c f = absurd (omega arith)
  more_hits (suc n) {s = s} grammar.no_more l c f = subst (λ y.
      Hits (on_turn (cond y (Part (e.inner false (passed s))) Stop) s (many (reads.another e) n)) [] s) (sym c) (refl, refl)
  more_hits (suc n) {s = s} {m = m} (grammar.one_more {a = a} {b = b} {t = t} {ts = ts} q x k) l c f =
      subst (λ y. Hits (on_turn (cond y (Part (e.inner false (passed s))) Stop) s (many (reads.another e) n)) (t ∷ ts) m)
      (sym (is_one (next s) kinds.Comma q.0))
      (after (e.inner false (passed s)) _ t b _ _ (g.inner false (passed s) b t (subst (λ z. IsExpr false z b t) q.1 x) (more_follow k f))
      (after (many (reads.another e) n b) _ ts m _ _ (more_hits n k (omega arith) c f) (refl, refl)))

  listed_hits : {s m : At} {ts : List Tree} (t : Tree) → More s m ts → Off kinds.Comma m → Ends 1 m → Hits (reads.listed e t s) (t ∷ ts) m
  listed_hits {s = s} {m = m} {ts = ts} t k c f = behind_them (t ∷ []) ts _ m (more_hits (length s.rest) k (omega (arith, more_count k)) c f)

  arguments_hits : {s m : At} {ts : List Tree} → Arguments s m ts → Hits (reads.arguments e s) ts m
  arguments_hits {s = s} {m = m} (grammar.none {a = a} q p) = after (open_bracket kinds.OpenRound e.room s) _ done a _ _ (bracket kinds.OpenRound e.room s a q)
      (at_true (is (next a) kinds.CloseRound) (Got [] (passed a)) _ _ _ (is_one (next a) kinds.CloseRound p.0) (refl, sym p.1))
  arguments_hits {s = s} {m = m} (grammar.some {a = a} {b = b} {c = c} {t = t} {ts = ts} q x k p) = after (open_bracket kinds.OpenRound e.room s) _ done a _ _
      (bracket kinds.OpenRound e.room s a q)
      (at_false (is (next a) kinds.CloseRound) (Got [] (passed a)) _ _ _ (off_start kinds.CloseRound a (first_expr x) refl)
      (after (e.inner false a) _ t b _ _ (g.inner false a b t x (more_follow k (ends_at 1 kinds.CloseRound c (omega arith) p.0)))
      (after (reads.listed e t b) _ (t ∷ ts) c _ _ (listed_hits t k (off_by kinds.Comma kinds.CloseRound c p.0 refl)
      (ends_at 1 kinds.CloseRound c (omega arith) p.0))
      (after (want kinds.CloseRound c) _ done m _ _ (wanted kinds.CloseRound c m p) (refl, refl)))))

  piece_starts : (s : At) (k : Kind) → starts k ≡ true → reads.piece_by e s k ≡ Part (reads.expr_piece e s)
  piece_starts s kinds.CloseBrace h = cc
  piece_starts s kinds.Val h = cc
  piece_starts s k h = refl

  val_hits : (s a b c d m : At) (n : Name) (t : Tree) → Eats kinds.Val s a → IsName a b n → Eats kinds.Assign b c → IsExpr false c d t
      → Eats kinds.Semicolon d m
      → Hits (reads.val e s) (line_kinds.Val (start s) m.past n t) m
  val_hits s a b c d m n t q i p x z =
      after (want kinds.Val s) _ done a _ _ (wanted kinds.Val s a q)
      (after (name a) _ n b _ _ (hits_by (name a) n b i)
      (after (want kinds.Assign b) _ done c _ _ (wanted kinds.Assign b c p)
      (after (e.inner false c) _ t d _ _ (g.inner false c d t x (ends_at 1 kinds.Semicolon d (omega arith) z.0))
      (after (want kinds.Semicolon d) _ done m _ _ (wanted kinds.Semicolon d m z) (refl, refl)))))

  -- a piece that is found, before what is found behind it
  piece_line : (n : ℕ) (s b m : At) (l : Line) (ls : List Line) (u : Option Tree) (p : Parsed Piece) → reads.piece e s ≡ Part p → Hits p (ALine l) b
      → Hits (reads.pieces e n b) (ls, u) m → Hits (reads.pieces e (suc n) s) (l ∷ ls, u) m
  piece_line n s b m l ls u p k h again = subst (λ t. Hits (on_piece t s (reads.pieces e n)) (l ∷ ls, u) m) (sym k) (by_piece p h)
    where
      by_piece : (p : Parsed Piece) → Hits p (ALine l) b → Hits (on_piece (Part p) s (reads.pieces e n)) (l ∷ ls, u) m
      by_piece (Got (TheLast t) z) h = (let y = h.0 in cc)
      by_piece (Got (ALine x) z) h =
          let same : x ≡ l = (let y = h.0 in cc) in
          after (reads.pieces e n z) (λ y k. Got (x ∷ y.0, y.1) k) (ls, u) m _ _ (subst (λ i. Hits (reads.pieces e n i) (ls, u) m) (sym h.1) again)
          (ap (λ (i : Line). (i ∷ ls, u)) same, refl)
      by_piece (Miss Expected z) h = absurd h
      by_piece (Miss TooDeep z) h = tt
      by_piece (Miss OutOfMemory z) h = tt

  piece_last : (n : ℕ) (s m : At) (t : Tree) (p : Parsed Piece) → reads.piece e s ≡ Part p → Hits p (TheLast t) m
      → Hits (reads.pieces e (suc n) s) ([], Some t) m
  piece_last n s m t p k h = subst (λ i. Hits (on_piece i s (reads.pieces e n)) ([], Some t) m) (sym k) (by_piece p h)
    where
      by_piece : (p : Parsed Piece) → Hits p (TheLast t) m → Hits (on_piece (Part p) s (reads.pieces e n)) ([], Some t) m
      by_piece (Got (ALine x) z) h = (let y = h.0 in cc)
      by_piece (Got (TheLast x) z) h = (let same : x ≡ t = (let y = h.0 in cc) in (ap (λ (i : Tree). ([], Some i)) same, h.1))
      by_piece (Miss Expected z) h = absurd h
      by_piece (Miss TooDeep z) h = tt
      by_piece (Miss OutOfMemory z) h = tt

  pieces_hits : (n : ℕ) {s m : At} {ls : List Line} {u : Option Tree} → Lines s m ls u → length ls + last_one u ≤ n → next m ≡ kinds.CloseBrace
      → Hits (reads.pieces e n s) (ls, u) m
  pieces_hits zero grammar.no_line l f = (refl, refl)
  pieces_hits zero (grammar.the_last x) l f = absurd (omega arith)
  pieces_hits zero (grammar.an_expr x q k) l f = absurd (omega arith)
  pieces_hits zero (grammar.a_val q i p x z k) l f = absurd (omega arith)
  pieces_hits (suc n) {s = s} grammar.no_line l f = subst (λ j. Hits (on_piece (reads.piece_by e s j) s (reads.pieces e n)) ([], None) s) (sym f) (refl, refl)
  pieces_hits (suc n) {s = s} {m = m} (grammar.the_last {t = t} x) l f =
      piece_last n s m t (reads.expr_piece e s) (piece_starts s (next s) (first_expr x))
      (after (e.inner false s) _ t m _ _ (g.inner false s m t x (ends_at 1 kinds.CloseBrace m (omega arith) f))
      (at_false (is (next m) kinds.Semicolon) _ _ _ m (off_by kinds.Semicolon kinds.CloseBrace m f refl) (refl, refl)))
  pieces_hits (suc n) {s = s} {m = m} (grammar.an_expr {a = a} {b = b} {t = t} {ls = ls} {u = u} x q k) l f =
      piece_line n s b m (line_kinds.Expr t) ls u (reads.expr_piece e s) (piece_starts s (next s) (first_expr x))
      (after (e.inner false s) _ t a _ _ (g.inner false s a t x (ends_at 1 kinds.Semicolon a (omega arith) q.0))
      (at_true (is (next a) kinds.Semicolon) _ _ _ b (is_one (next a) kinds.Semicolon q.0) (refl, sym q.1)))
      (pieces_hits n k (omega arith) f)
  pieces_hits (suc n) {s = s} {m = m} (grammar.a_val {a = a} {b = b} {c = c} {d = d} {e = j} {n = x0} {t = t} {ls = ls} {u = u} q i p x z k) l f =
      piece_line n s j m (line_kinds.Val (start s) j.past x0 t) ls u (then_on (reads.val e s) (λ y w. Got (ALine y) w)) (ap (reads.piece_by e s) q.0)
      (after (reads.val e s) _ (line_kinds.Val (start s) j.past x0 t) j _ _ (val_hits s a b c d j x0 t q i p x z) (refl, refl))
      (pieces_hits n k (omega arith) f)

  onto_no_lines : (p : Parsed (List Line × Option Tree)) (x : List Line × Option Tree) (m : At) → Hits p x m → Hits (onto_lines [] p) x m
  onto_no_lines (Got y k) x m h = h
  onto_no_lines (Miss Expected k) x m h = h
  onto_no_lines (Miss TooDeep k) x m h = tt
  onto_no_lines (Miss OutOfMemory k) x m h = tt

  block_hits : {s m : At} {t : BlockTree} → IsBlock s m t → Hits (reads.block e s) t m
  block_hits {s = s} {m = m} (grammar.block {a = a} {b = b} {ls = ls} {u = u} q k p) =
      after (open_bracket kinds.OpenBrace e.room s) _ done a _ _ (bracket kinds.OpenBrace e.room s a q)
      (after (reads.all_pieces e a) _ (ls, u) b _ _ (onto_no_lines (reads.pieces e (length a.rest) a) (ls, u) b
      (pieces_hits (length a.rest) k (omega (arith, lines_count k)) p.0))
      (after (want kinds.CloseBrace b) _ done m _ _ (wanted kinds.CloseBrace b m p) (refl, refl)))

  at_kind : (s m : At) (t : Tree) (k : Kind) → next s ≡ k → Hits (reads.primary_by e s k) t m → Hits (reads.primary e s) t m
  at_kind s m t k q h = subst (λ j. Hits (reads.primary_by e s j) t m) (sym q) h

  effect_is : (s : At) (k : Kind) (x : EffectKind) → effect_at k ≡ Some x → reads.primary_by e s k ≡ reads.effect e s
  effect_is s kinds.Path x h = refl
  effect_is s kinds.Exists x h = refl
  effect_is s kinds.Digest x h = refl
  effect_is s kinds.List x h = refl
  effect_is s k x h = cc

  tested : (s m : At) (t : Tree) → next s ≡ kinds.If → Hits (then_on (want kinds.If s)
      (λ _ a. then_on (e.test a) (λ u b. reads.branches e (start s) u b))) t m → Hits (reads.primary e s) t m
  tested s m t q h = at_kind s m t kinds.If q (by_room (e.conditions == 0))
    where
      by_room : (b : Bool) → Hits (cond b (Miss OutOfMemory s)
          (then_on (want kinds.If s) (λ _ a. then_on (e.test a) (λ u b. reads.branches e (start s) u b)))) t m
      by_room true = tt
      by_room false = h

  primary_hits : {s m : At} {t : Tree} → IsPrimary e.in_read s m t → Ends 7 m → Hits (reads.primary e s) t m
  primary_hits {s = s} (grammar.literal {l = l} h) f =
      subst (λ p. Hits p (TLiteral (start s) (passed s).past l) (passed s)) (sym ((literal_at s s l h).reads_it e s))
      (after (reads.literal_here s) _ l s _ _ (hits_by (reads.literal_here s) l s h) (refl, refl))
  primary_hits {s = s} {m = m} (grammar.a_name {n = n} h) f = at_kind s m _ kinds.Name (name_kind s m n h)
      (after (name s) _ n m _ _ (hits_by (name s) n m h) (at_false (is (next m) kinds.OpenRound) _ _ _ m (is_not 7 (next m) kinds.OpenRound f (omega arith))
      (refl, refl)))
  primary_hits {s = s} {m = m} (grammar.call {a = a} {n = n} {ts = ts} h x) f = at_kind s m _ kinds.Name (name_kind s a n h)
      (after (name s) _ n a _ _ (hits_by (name s) n a h) (at_true (is (next a) kinds.OpenRound) _ _ _ m (is_one (next a) kinds.OpenRound (first_arguments x))
      (after (reads.arguments e a) _ ts m _ _ (arguments_hits x) (refl, refl))))
  primary_hits {s = s} {m = m} (grammar.null {a = a} {t = t} x0 x1) f = at_kind s m _ kinds.Null (x0.0)
      (after (want kinds.Null s) _ done a _ _ (wanted kinds.Null s a x0)
      (after (plain_type e.room (inner_type e.room) a) _ t m _ _ (plain_is_hit e.room x1) (refl, refl)))
  primary_hits {s = s} {m = m} (grammar.empty {a = a} {t = t} x0 x1) f = at_kind s m _ kinds.Empty (x0.0)
      (after (want kinds.Empty s) _ done a _ _ (wanted kinds.Empty s a x0)
      (after (written_type e.room (inner_type e.room) a) _ t m _ _ (type_is_hit e.room x1 (is_not 7 (next m) kinds.Question f (omega arith))) (refl, refl)))
  primary_hits {s = s} {m = m} (grammar.brackets {a = a} {b = b} {t = t} x0 x1 x2) f = at_kind s m _ kinds.OpenRound (x0.0)
      (after (open_bracket kinds.OpenRound e.room s) _ done a _ _ (bracket kinds.OpenRound e.room s a x0)
      (after (e.inner false a) _ t b _ _ (g.inner false a b t x1 (ends_at 1 kinds.CloseRound b (omega arith) x2.0))
      (at_false (is (next b) kinds.Comma) _ _ _ m (off_by kinds.Comma kinds.CloseRound b x2.0 refl)
      (after (want kinds.CloseRound b) _ done m _ _ (wanted kinds.CloseRound b m x2) (refl, refl)))))
  primary_hits {s = s} {m = m} (grammar.tuple {a = a} {b = b} {c = c} {t = t} {ts = ts} x0 x1 x2 x3 x4) f = at_kind s m _ kinds.OpenRound (x0.0)
      (after (open_bracket kinds.OpenRound e.room s) _ done a _ _ (bracket kinds.OpenRound e.room s a x0)
      (after (e.inner false a) _ t b _ _ (g.inner false a b t x1 (ends_at 1 kinds.Comma b (omega arith) x2))
      (at_true (is (next b) kinds.Comma) _ _ _ m (is_one (next b) kinds.Comma x2)
      (after (reads.listed e t b) _ (t ∷ ts) c _ _ (listed_hits t x3 (off_by kinds.Comma kinds.CloseRound c x4.0 refl)
      (ends_at 1 kinds.CloseRound c (omega arith) x4.0)) (after (want kinds.CloseRound c) _ done m _ _ (wanted kinds.CloseRound c m x4) (refl, refl))))))
  primary_hits {s = s} {m = m} (grammar.list {a = a} {b = b} {c = c} {t = t} {ts = ts} x0 x1 x2 x3) f = at_kind s m _ kinds.OpenSquare (x0.0)
      (after (open_bracket kinds.OpenSquare e.room s) _ done a _ _ (bracket kinds.OpenSquare e.room s a x0)
      (after (e.inner false a) _ t b _ _ (g.inner false a b t x1 (more_follow x2 (ends_at 1 kinds.CloseSquare c (omega arith) x3.0)))
      (at_false (is (next b) kinds.For) _ _ _ m (more_off kinds.For x2 refl (off_by kinds.For kinds.CloseSquare c x3.0 refl))
      (after (reads.listed e t b) _ (t ∷ ts) c _ _ (listed_hits t x2 (off_by kinds.Comma kinds.CloseSquare c x3.0 refl)
      (ends_at 1 kinds.CloseSquare c (omega arith) x3.0)) (after (want kinds.CloseSquare c) _ done m _ _ (wanted kinds.CloseSquare c m x3) (refl, refl))))))
  primary_hits {s = s} {m = m}
      (grammar.each {a = a} {b = b} {c = c} {d = d} {e = j} {f = i} {t = t} {u = u} {n = n} x0 x1 x2 x3 x4 x5 x6) f = at_kind s m _ kinds.OpenSquare (x0.0)
      (after (open_bracket kinds.OpenSquare e.room s) _ done a _ _ (bracket kinds.OpenSquare e.room s a x0)
      (after (e.inner false a) _ t b _ _ (g.inner false a b t x1 (ends_at 1 kinds.For b (omega arith) x2.0))
      (at_true (is (next b) kinds.For) _ _ _ m (is_one (next b) kinds.For x2.0)
      (after (want kinds.For b) _ done c _ _ (wanted kinds.For b c x2)
      (after (name c) _ n d _ _ (hits_by (name c) n d x3)
      (after (want kinds.In d) _ done j _ _ (wanted kinds.In d j x4)
      (after (e.inner false j) _ u i _ _ (g.inner false j i u x5 (ends_at 1 kinds.CloseSquare i (omega arith) x6.0))
      (after (want kinds.CloseSquare i) _ done m _ _ (wanted kinds.CloseSquare i m x6) (refl, refl)))))))))
  primary_hits {s = s} {m = m} (grammar.if_alone {a = a} {b = b} {t = t} {x = x} q y z) f = tested s m _ q.0
      (after (want kinds.If s) _ done a _ _ (wanted kinds.If s a q)
      (after (e.test a) _ t b _ _ (g.test a b t y (ends_at 1 kinds.OpenBrace b (omega arith) (first_block z)))
      (after (reads.block e b) _ x m _ _ (block_hits z) (at_false (is (next m) kinds.Else) _ _ _ m (is_not 7 (next m) kinds.Else f (omega arith))
      (refl, refl)))))
  primary_hits {s = s} {m = m} (grammar.if_else {a = a} {b = b} {c = c} {d = d} {t = t} {x = x} {y = y} q u z w v) f = tested s m _ q.0
      (after (want kinds.If s) _ done a _ _ (wanted kinds.If s a q)
      (after (e.test a) _ t b _ _ (g.test a b t u (ends_at 1 kinds.OpenBrace b (omega arith) (first_block z)))
      (after (reads.block e b) _ x c _ _ (block_hits z) (at_true (is (next c) kinds.Else) _ _ _ m (is_one (next c) kinds.Else w.0)
      (after (reads.block e (passed c)) _ y m _ _ (subst (λ i. Hits (reads.block e i) y m) w.1 (block_hits v)) (refl, refl))))))
  primary_hits {s = s} {m = m} (grammar.effect {a = a} {b = b} {k = k} {t = t} h x0 x1 x2) f =
      subst (λ p. Hits p (TEffect (start s) m.past k t) m) (sym (effect_is s (next s) k h))
      (subst (λ o. Hits (reads.effect_by e s o) (TEffect (start s) m.past k t) m) (sym h)
      (after (open_bracket kinds.OpenRound e.room (passed s)) _ done a _ _ (bracket kinds.OpenRound e.room (passed s) a x0)
      (after (e.inner false a) _ t b _ _ (g.inner false a b t x1 (ends_at 1 kinds.CloseRound b (omega arith) x2.0))
      (after (want kinds.CloseRound b) _ done m _ _ (wanted kinds.CloseRound b m x2) (refl, refl)))))
  primary_hits {s = s} {m = m} (grammar.read {a = a} {b = b} {c = c} {d = d} {k = k} {t = t} x0 x1 x2 x3 x4) f = at_kind s m _ kinds.Read (x0.0)
      (after (want kinds.Read s) _ done a _ _ (wanted kinds.Read s a x0)
      (after (open_bracket kinds.OpenRound e.room a) _ done b _ _ (bracket kinds.OpenRound e.room a b x1)
      (after (e.inner true b) _ t c _ _ (g.inner true b c t x2 (by_read_follow x3 x4))
      (after (reads.by_of_read c) _ k d _ _ (by_read_hits x3 x4)
      (after (want kinds.CloseRound d) _ done m _ _ (wanted kinds.CloseRound d m x4) (refl, refl))))))
  primary_hits {s = s} {m = m} (grammar.write {a = a} {b = b} {c = c} {d = d} {e = j} {t = t} {u = u} x0 x1 x2 x3 x4 x5) f = at_kind s m _ kinds.Write (x0.0)
      (after (want kinds.Write s) _ done a _ _ (wanted kinds.Write s a x0)
      (after (open_bracket kinds.OpenRound e.room a) _ done b _ _ (bracket kinds.OpenRound e.room a b x1)
      (after (e.inner false b) _ t c _ _ (g.inner false b c t x2 (ends_at 1 kinds.Comma c (omega arith) x3.0))
      (after (want kinds.Comma c) _ done d _ _ (wanted kinds.Comma c d x3)
      (after (e.inner false d) _ u j _ _ (g.inner false d j u x4 (ends_at 1 kinds.CloseRound j (omega arith) x5.0))
      (after (want kinds.CloseRound j) _ done m _ _ (wanted kinds.CloseRound j m x5) (refl, refl)))))))
  primary_hits {s = s} {m = m} (grammar.fail {a = a} {b = b} {c = c} {d = d} {t = t} {u = u} x0 x1 x2 x3 x4) f = at_kind s m _ kinds.Fail (x0.0)
      (after (want kinds.Fail s) _ done a _ _ (wanted kinds.Fail s a x0)
      (after (written_type e.room (inner_type e.room) a) _ t b _ _ (type_is_hit e.room x1 (off_by kinds.Question kinds.OpenRound b x2.0 refl))
      (after (open_bracket kinds.OpenRound e.room b) _ done c _ _ (bracket kinds.OpenRound e.room b c x2)
      (after (e.inner false c) _ u d _ _ (g.inner false c d u x3 (ends_at 1 kinds.CloseRound d (omega arith) x4.0))
      (after (want kinds.CloseRound d) _ done m _ _ (wanted kinds.CloseRound d m x4) (refl, refl))))))
  primary_hits {s = s} {m = m} (grammar.require {a = a} {b = b} {c = c} {n = n} {ts = ts} {k = k} x0 x1 x2 x3) f = at_kind s m _ kinds.Require (x0.0)
      (after (want kinds.Require s) _ done a _ _ (wanted kinds.Require s a x0)
      (after (name a) _ n b _ _ (hits_by (name a) n b x1)
      (after (reads.arguments e b) _ ts c _ _ (arguments_hits x2)
      (after (reads.by_of_require e.in_read c) _ k m _ _ (by_require_hits e.in_read x3) (refl, refl)))))
  primary_hits {s = s} {m = m} (grammar.run {a = a} {b = b} {n = n} {ts = ts} x0 x1 x2) f = at_kind s m _ kinds.Run (x0.0)
      (after (want kinds.Run s) _ done a _ _ (wanted kinds.Run s a x0)
      (after (name a) _ n b _ _ (hits_by (name a) n b x1) (after (reads.arguments e b) _ ts m _ _ (arguments_hits x2) (refl, refl))))

  projected_hits : {s m : At} {t : Tree} → IsProjected e.in_read s m t → Ends 6 m → Hits (reads.projected e s) t m
  projected_hits {s = s} {m = m} (grammar.projected {a = a} {t = t} {ns = ns} x k u) f =
      after (reads.primary e s) _ t a _ _ (primary_hits x (indices_follow k f))
      (after (reads.indices a) _ ns m _ _ (behind_them [] ns _ m
      (indices_hits (length a.rest) k (omega (arith, indices_count k)) (is_not 6 (next m) kinds.Dot f (omega arith)))) (sym u, refl))

  prefixed_hits : {s m : At} {t : Tree} → IsPrefixed e.in_read s m t → Ends 6 m → Hits (reads.prefixed e s) t m
  prefixed_hits {s = s} {m = m} {t = t} (grammar.plain x) f =
      subst (λ o. Hits (reads.prefixed_by e s o) t m) (sym (no_prefix (next s) (first_projected x))) (projected_hits x f)
  prefixed_hits {s = s} {m = m} (grammar.prefixed {p = p} {t = t} h x) f =
      subst (λ o. Hits (reads.prefixed_by e s o) (TPrefix (start s) m.past p t) m) (sym h)
      (after (reads.projected e (passed s)) _ t m _ _ (projected_hits x f) (refl, refl))

  steps_hits : (l : Level) (part : Parser Tree) → ((s m : At) (t : Tree) → IsOperand l e.in_read s m t → Ends (level_of l + 1) m → Hits (part s) t m)
      → (n : ℕ) {s m : At} {xs : List Step} → Steps l e.in_read s m xs → length xs ≤ n → Ends (level_of l) m → Hits (many (reads.another_step part l) n s) xs m
  steps_hits l part good zero grammar.no_step j f = (refl, refl)
  steps_hits l part good zero (grammar.a_step h x k) j f = absurd (omega arith)
  steps_hits l part good (suc n) {s = s} grammar.no_step j f =
      subst (λ o. Hits (on_turn (reads.step_by part s o) s (many (reads.another_step part l) n)) [] s) (sym (no_operator l (next s) f)) (refl, refl)
  steps_hits l part good (suc n) {s = s} {m = m} (grammar.a_step {a = a} {o = o} {t = t} {xs = xs} h x k) j f =
      subst (λ i. Hits (on_turn (reads.step_by part s i) s (many (reads.another_step part l) n)) (record { operator = o; operand = t } ∷ xs) m) (sym h)
      (after (then_on (part (passed s)) (λ u i. Got (record { operator = o; operand = u }) i)) _ (record { operator = o; operand = t }) a _ _
      (after (part (passed s)) _ t a _ _ (good (passed s) a t x (steps_follow k f)) (refl, refl))
      (after (many (reads.another_step part l) n a) _ xs m _ _ (steps_hits l part good n k (omega arith) f) (refl, refl)))

  chain_hits : (l : Level) (part : Parser Tree) → ((s m : At) (t : Tree) → IsOperand l e.in_read s m t → Ends (level_of l + 1) m → Hits (part s) t m)
      → {s m : At} {t : Tree} → IsChain l e.in_read s m t → Ends (level_of l) m → Hits (reads.chain_of part l s) t m
  chain_hits l part good {s = s} {m = m} (grammar.chained {a = a} {t = t} {xs = xs} x k u) f =
      after (part s) _ t a _ _ (good s a t x (steps_follow k f))
      (after (all_behind [] (reads.another_step part l) a) _ xs m _ _
      (behind_them [] xs _ m (steps_hits l part good (length a.rest) k (omega (arith, steps_count k)) f)) (sym u, refl))

  product_hits : (s m : At) (t : Tree) → IsChain levels.Product e.in_read s m t → Ends 5 m → Hits (reads.chain_of (reads.prefixed e) levels.Product s) t m
  product_hits s m t x f = chain_hits levels.Product (reads.prefixed e) good x f
    where
      good : (s m : At) (t : Tree) → IsOperand levels.Product e.in_read s m t → Ends (level_of levels.Product + 1) m → Hits (reads.prefixed e s) t m
      good s m t (grammar.of_product x) f = prefixed_hits x (omega arith)

  sum_hits : (s m : At) (t : Tree) → IsChain levels.Sum e.in_read s m t → Ends 4 m → Hits (reads.sum e s) t m
  sum_hits s m t x f = chain_hits levels.Sum (reads.chain_of (reads.prefixed e) levels.Product) good x f
    where
      good : (s m : At) (t : Tree) → IsOperand levels.Sum e.in_read s m t → Ends (level_of levels.Sum + 1) m
          → Hits (reads.chain_of (reads.prefixed e) levels.Product s) t m
      good s m t (grammar.of_sum x) f = product_hits s m t x (omega arith)

  comparison_hits : (s m : At) (t : Tree) → IsComparison e.in_read s m t → Ends 3 m → Hits (reads.comparison e s) t m
  comparison_hits s m t (grammar.alone x) f = after (reads.sum e s) _ t m _ _ (sum_hits s m t x (omega arith))
      (subst (λ o. Hits (reads.compared e (start s) t m o) t m) (sym (no_comparison (next m) f)) (refl, refl))
  comparison_hits s m _ (grammar.compared {a = a} {c = c} {t = t} {u = u} x h y) f =
      after (reads.sum e s) _ t a _ _ (sum_hits s a t x (let z = comparison_strength (next a) c h in omega arith))
      (subst (λ o. Hits (reads.compared e (start s) t a o) (TCompare (start s) m.past c t u) m) (sym h)
      (after (reads.sum e (passed a)) _ u m _ _ (sum_hits (passed a) m u y (omega arith)) (refl, refl)))

  and_hits : (s m : At) (t : Tree) → IsChain levels.And e.in_read s m t → Ends 2 m → Hits (reads.chain_of (reads.comparison e) levels.And s) t m
  and_hits s m t x f = chain_hits levels.And (reads.comparison e) good x f
    where
      good : (s m : At) (t : Tree) → IsOperand levels.And e.in_read s m t → Ends (level_of levels.And + 1) m → Hits (reads.comparison e s) t m
      good s m t (grammar.of_and x) f = comparison_hits s m t x (omega arith)

  expr_hits : (s m : At) (t : Tree) → IsExpr e.in_read s m t → Ends 1 m → Hits (reads.expr e s) t m
  expr_hits s m t (grammar.expr x) f = chain_hits levels.Or (reads.operand e levels.Or) good x f
    where
      good : (s m : At) (t : Tree) → IsOperand levels.Or e.in_read s m t → Ends (level_of levels.Or + 1) m → Hits (reads.operand e levels.Or s) t m
      good s m t (grammar.of_or x) f = and_hits s m t x (omega arith)

by_conditions_hits : (d : ℕ) (inner : ℕ → Bool → Parser Tree) → ((c : ℕ) (r : Bool) (s m : At) (t : Tree) → IsExpr r s m t → Ends 1 m → Hits (inner c r s) t m)
    → (c : ℕ) (r : Bool) (s m : At) (t : Tree) → IsExpr r s m t → Ends 1 m → Hits (by_conditions d inner c r s) t m
by_conditions_hits d inner good zero r s m t x f =
    expr_hits (record { room = d; in_read = r; conditions = zero; inner = inner zero; test = nowhere })
    (record { inner = good zero; test = λ s m t x f. tt }) s m t x f
by_conditions_hits d inner good (suc c) r s m t x f =
    expr_hits (record { room = d; in_read = r; conditions = suc c; inner = inner (suc c); test = by_conditions d inner c false })
    (record { inner = good (suc c); test = by_conditions_hits d inner good c false }) s m t x f

expr_at_hits : (d c : ℕ) (r : Bool) (s m : At) (t : Tree) → IsExpr r s m t → Ends 1 m → Hits (expr_at d c r s) t m
expr_at_hits zero c r s m t x f = by_conditions_hits zero (λ c r. nowhere) (λ c r s m t x f. tt) c r s m t x f
expr_at_hits (suc d) c r s m t x f = by_conditions_hits (suc d) (expr_at d) (expr_at_hits d) c r s m t x f

inner_at_hits : (d c : ℕ) (r : Bool) (s m : At) (t : Tree) → IsExpr r s m t → Ends 1 m → Hits (inner_at d c r s) t m
inner_at_hits zero c r s m t x f = tt
inner_at_hits (suc d) c r s m t x f = expr_at_hits d c r s m t x f

test_at_hits : (d c : ℕ) (s m : At) (t : Tree) → IsExpr false s m t → Ends 1 m → Hits (test_at d c s) t m
test_at_hits d zero s m t x f = tt
test_at_hits d (suc c) s m t x f = expr_at_hits d c false s m t x f

-- a block of the grammar is read, or a limit is met
pub block_is_hit : (r : Room) {s m : At} {t : BlockTree} → IsBlock s m t → Hits (reads.block (around r) s) t m
block_is_hit r x = block_hits (around r) (record { inner = inner_at_hits r.brackets r.conditions; test = test_at_hits r.brackets r.conditions }) x
