-- What begins and what may follow the parts of an expression, and what is read of parts that hold no expression.
use Rattle.std.proofs.Common.{◌≡◌, inl, inr, ℕ, ◌+◌, ◌≤◌, zero, suc, Bool, true, false, cond, List, [], ◌∷◌, length, Some, None, refl, sym, subst, ap, ◌∙◌}
use Rattle.std.proofs.Common.{arith, rules}
use denote.Enum.Bare.{false_same}
use Rattle.pie_parser.specs.contracts.kind.Kind.{the_type}
use Rattle.pie_lexer.specs.declared.token.Token.{Token}
use Rattle.pie_lexer.specs.declared.token.TokenKind.{TokenKind}
use Rattle.pie_lexer.specs.declared.token.TokenKind.TheVariants as tokens
use Rattle.pie_parser.specs.declared.kind.Kind.{Kind}
use Rattle.pie_parser.specs.declared.kind.Kind.TheVariants as kinds
use Rattle.pie_parser.specs.declared.chain.Level.{Level}
use Rattle.pie_parser.specs.declared.error.ParseFault.TheVariants.{Expected}
use Rattle.pie_parser.specs.declared.tree.Index.{Index}
use Rattle.pie_parser.specs.declared.tree.Step.{Step}
use Rattle.pie_parser.specs.declared.tree.Literal.{Literal}
use Rattle.pie_parser.specs.declared.tree.Prefix.{Prefix}
use Rattle.pie_parser.specs.declared.tree.CallKind.{CallKind}
use Rattle.pie_parser.specs.declared.tree.CallKind.TheVariants as calls
use Rattle.pie_parser.specs.declared.tree.EffectKind.{EffectKind}
use Rattle.pie_parser.specs.declared.tree.EffectKind.TheVariants as effects
use Rattle.pie_parser.specs.Kinds.{is, kind_of_token}
use Rattle.pie_parser.specs.Tests.{prefix_at, effect_at}
use Rattle.pie_parser.specs.Plain.{Tree, BlockTree}
use Rattle.pie_parser.specs.At.{At}
use Rattle.pie_parser.specs.Places.{Got, Miss, done, first_kind, next, passed, want, index}
use Rattle.pie_parser.specs.inner.Turns.{Stop, Part, on_turn, many}
use Rattle.pie_parser.specs.ExprReading as reads
use Rattle.pie_parser.specs.ExprReading.{Around, nowhere, chain, projection}
use Rattle.pie_parser.specs.TypeGrammar.{Eats}
use Rattle.pie_parser.specs.Grammar as grammar
use Rattle.pie_parser.specs.Grammar.{IsIndex, Indices, ByOfRequire, ByOfRead, IsExpr, IsChain, IsOperand, Steps, IsComparison, IsPrefixed, IsProjected}
use Rattle.pie_parser.specs.Grammar.{IsPrimary, Arguments, More, IsBlock, Lines}
use Rattle.pie_parser.proofs.Readings.{chosen, missed}
use Rattle.pie_parser.proofs.Strength.{level_of, Ends, ends_at, is_one, operator_strength}
use Rattle.pie_spelling_laws.proofs.Finds.{Finds, after, at_true, at_false, finds_by, wanted}
use Rattle.pie_parser.proofs.TypesComplete.{Off, off_by, name_kind}

-- the kinds that begin an expression
abbrev pub starts : Kind → Bool
starts kinds.Name = true
starts kinds.Int = true
starts kinds.Text = true
starts kinds.True = true
starts kinds.False = true
starts kinds.UnitWord = true
starts kinds.Null = true
starts kinds.Empty = true
starts kinds.OpenRound = true
starts kinds.OpenSquare = true
starts kinds.If = true
starts kinds.Path = true
starts kinds.Exists = true
starts kinds.Digest = true
starts kinds.List = true
starts kinds.Read = true
starts kinds.Write = true
starts kinds.Fail = true
starts kinds.Require = true
starts kinds.Run = true
starts kinds.Not = true
starts kinds.Minus = true
starts k = false

-- the kinds that begin what operators stand on
abbrev pub begins : Kind → Bool
begins kinds.Name = true
begins kinds.Int = true
begins kinds.Text = true
begins kinds.True = true
begins kinds.False = true
begins kinds.UnitWord = true
begins kinds.Null = true
begins kinds.Empty = true
begins kinds.OpenRound = true
begins kinds.OpenSquare = true
begins kinds.If = true
begins kinds.Path = true
begins kinds.Exists = true
begins kinds.Digest = true
begins kinds.List = true
begins kinds.Read = true
begins kinds.Write = true
begins kinds.Fail = true
begins kinds.Require = true
begins kinds.Run = true
begins k = false

pub starts_begins : (k : Kind) → begins k ≡ true → starts k ≡ true
starts_begins kinds.Name h = refl
starts_begins kinds.Int h = refl
starts_begins kinds.Text h = refl
starts_begins kinds.True h = refl
starts_begins kinds.False h = refl
starts_begins kinds.UnitWord h = refl
starts_begins kinds.Null h = refl
starts_begins kinds.Empty h = refl
starts_begins kinds.OpenRound h = refl
starts_begins kinds.OpenSquare h = refl
starts_begins kinds.If h = refl
starts_begins kinds.Path h = refl
starts_begins kinds.Exists h = refl
starts_begins kinds.Digest h = refl
starts_begins kinds.List h = refl
starts_begins kinds.Read h = refl
starts_begins kinds.Write h = refl
starts_begins kinds.Fail h = refl
starts_begins kinds.Require h = refl
starts_begins kinds.Run h = refl
starts_begins k h = cc

pub off_start : (k : Kind) (s : At) → starts (next s) ≡ true → starts k ≡ false → Off k s
off_start k s h n = false_same the_type (search rules) (next s) k (λ e. let y : true ≡ false = sym h ∙ ap starts e ∙ n in cc)

pub no_prefix : (k : Kind) → begins k ≡ true → prefix_at k ≡ None
no_prefix kinds.Not h = cc
no_prefix kinds.Minus h = cc
no_prefix k h = refl

pub prefix_starts : (k : Kind) (p : Prefix) → prefix_at k ≡ Some p → starts k ≡ true
prefix_starts kinds.Not p h = refl
prefix_starts kinds.Minus p h = refl
prefix_starts k p h = cc

pub effect_begins : (k : Kind) (x : EffectKind) → effect_at k ≡ Some x → begins k ≡ true
effect_begins kinds.Path x h = refl
effect_begins kinds.Exists x h = refl
effect_begins kinds.Digest x h = refl
effect_begins kinds.List x h = refl
effect_begins k x h = cc

-- a literal's kind is one of these
pub record LiteralAt (k : Kind) : Type 0 where
  pub begin : begins k ≡ true
  pub reads_it : (e : Around) (s : At) → reads.primary_by e s k ≡ reads.literal s

pub literal_at : (s a : At) (l : Literal) → reads.literal_here s ≡ Got l a → LiteralAt (next s)
literal_at s a l h = elim (chosen s.marked (Miss Expected s) (reads.literal_in s s.rest) (Got l a) h) [
  | inl c ↦ missed c.1
  | inr c ↦ subst (λ b. LiteralAt (cond b kinds.Marked (first_kind s.rest))) (sym c.0) (by_rest s.rest c.1)
]
  where
    by_kind : (k : TokenKind) → reads.literal_by s k ≡ Got l a → LiteralAt (kind_of_token k)
    by_kind (tokens.Int n) h = record { begin = refl; reads_it = λ e s. refl }
    by_kind (tokens.Text t) h = record { begin = refl; reads_it = λ e s. refl }
    by_kind tokens.True h = record { begin = refl; reads_it = λ e s. refl }
    by_kind tokens.False h = record { begin = refl; reads_it = λ e s. refl }
    by_kind tokens.UnitWord h = record { begin = refl; reads_it = λ e s. refl }
    by_kind k h = missed h

    by_rest : (ts : List Token) → reads.literal_in s ts ≡ Got l a → LiteralAt (first_kind ts)
    by_rest [] h = missed h
    by_rest (t ∷ ts) h = by_kind t.kind h

pub begins_by : (k : Kind) (s : At) → next s ≡ k → begins k ≡ true → begins (next s) ≡ true
begins_by k s e h = subst (λ j. begins j ≡ true) (sym e) h

pub first_primary : {r : Bool} {s m : At} {t : Tree} → IsPrimary r s m t → begins (next s) ≡ true
first_primary {s = s} (grammar.literal {l = l} h) = (literal_at s s l h).begin
first_primary {s = s} {m = m} (grammar.a_name {n = n} h) = begins_by kinds.Name s (name_kind s m n h) refl
first_primary {s = s} (grammar.call {a = a} {n = n} h x) = begins_by kinds.Name s (name_kind s a n h) refl
first_primary {s = s} (grammar.effect {k = k} h q x z) = effect_begins (next s) k h
first_primary {s = s} (grammar.null x0 x1) = begins_by kinds.Null s x0.0 refl
first_primary {s = s} (grammar.empty x0 x1) = begins_by kinds.Empty s x0.0 refl
first_primary {s = s} (grammar.brackets x0 x1 x2) = begins_by kinds.OpenRound s x0.0 refl
first_primary {s = s} (grammar.tuple x0 x1 x2 x3 x4) = begins_by kinds.OpenRound s x0.0 refl
first_primary {s = s} (grammar.list x0 x1 x2 x3) = begins_by kinds.OpenSquare s x0.0 refl
first_primary {s = s} (grammar.each x0 x1 x2 x3 x4 x5 x6) = begins_by kinds.OpenSquare s x0.0 refl
first_primary {s = s} (grammar.if_alone x0 x1 x2) = begins_by kinds.If s x0.0 refl
first_primary {s = s} (grammar.if_else x0 x1 x2 x3 x4) = begins_by kinds.If s x0.0 refl
first_primary {s = s} (grammar.read x0 x1 x2 x3 x4) = begins_by kinds.Read s x0.0 refl
first_primary {s = s} (grammar.write x0 x1 x2 x3 x4 x5) = begins_by kinds.Write s x0.0 refl
first_primary {s = s} (grammar.fail x0 x1 x2 x3 x4) = begins_by kinds.Fail s x0.0 refl
first_primary {s = s} (grammar.require x0 x1 x2 x3) = begins_by kinds.Require s x0.0 refl
first_primary {s = s} (grammar.run x0 x1 x2) = begins_by kinds.Run s x0.0 refl

pub first_prefixed : {r : Bool} {s m : At} {t : Tree} → IsPrefixed r s m t → starts (next s) ≡ true
first_prefixed {s = s} (grammar.plain (grammar.projected x k u)) = starts_begins (next s) (first_primary x)
first_prefixed {s = s} (grammar.prefixed {p = p} h x) = prefix_starts (next s) p h

mutual
  pub first_chain : {l : Level} {r : Bool} {s m : At} {t : Tree} → IsChain l r s m t → starts (next s) ≡ true
  first_chain (grammar.chained x k u) = first_operand x

  pub first_operand : {l : Level} {r : Bool} {s m : At} {t : Tree} → IsOperand l r s m t → starts (next s) ≡ true
  first_operand (grammar.of_or x) = first_chain x
  first_operand (grammar.of_and x) = first_comparison x
  first_operand (grammar.of_sum x) = first_chain x
  first_operand (grammar.of_product x) = first_prefixed x

  pub first_comparison : {r : Bool} {s m : At} {t : Tree} → IsComparison r s m t → starts (next s) ≡ true
  first_comparison (grammar.alone x) = first_chain x
  first_comparison (grammar.compared x h y) = first_chain x

pub first_expr : {r : Bool} {s m : At} {t : Tree} → IsExpr r s m t → starts (next s) ≡ true
first_expr (grammar.expr x) = first_chain x

pub first_projected : {r : Bool} {s m : At} {t : Tree} → IsProjected r s m t → begins (next s) ≡ true
first_projected (grammar.projected x k u) = first_primary x

pub first_arguments : {s m : At} {ts : List Tree} → Arguments s m ts → next s ≡ kinds.OpenRound
first_arguments (grammar.none q p) = q.0
first_arguments (grammar.some q x k p) = q.0

pub first_block : {s m : At} {t : BlockTree} → IsBlock s m t → next s ≡ kinds.OpenBrace
first_block (grammar.block q k p) = q.0

pub marked_next : (s : At) → s.marked ≡ true → next s ≡ kinds.Marked
marked_next s h = ap (λ b. cond b kinds.Marked (first_kind s.rest)) h

-- what may stand behind the argument of a `read`
pub by_read_follow : {s d m : At} {k : EffectKind} → ByOfRead s d k → Eats kinds.CloseRound d m → Ends 1 s
by_read_follow {s = s} grammar.nothing z = ends_at 1 kinds.CloseRound s (omega arith) z.0
by_read_follow {s = s} (grammar.by_hash q p) z = ends_at 1 kinds.By s (omega arith) q.0
by_read_follow {s = s} (grammar.by_mark q p) z = ends_at 1 kinds.By s (omega arith) q.0
by_read_follow {s = s} (grammar.marked h) z = ends_at 1 kinds.Marked s (omega arith) (marked_next s h)

-- what may stand behind the parts of a list
pub indices_follow : {s m : At} {ns : List Index} → Indices s m ns → Ends 6 m → Ends 7 s
indices_follow grammar.no_index f = omega arith
indices_follow {s = s} (grammar.an_index q i k) f = ends_at 7 kinds.Dot s (omega arith) q.0

pub steps_follow : {l : Level} {r : Bool} {s m : At} {xs : List Step} → Steps l r s m xs → Ends (level_of l) m → Ends (level_of l + 1) s
steps_follow grammar.no_step f = omega arith
steps_follow {l = l} {s = s} (grammar.a_step {o = o} h x k) f = let z = operator_strength l (next s) o h in omega arith

pub more_follow : {s m : At} {ts : List Tree} → More s m ts → Ends 1 m → Ends 1 s
more_follow grammar.no_more f = f
more_follow {s = s} (grammar.one_more q x k) f = ends_at 1 kinds.Comma s (omega arith) q.0

pub more_off : {s m : At} {ts : List Tree} (k : Kind) → More s m ts → is kinds.Comma k ≡ false → Off k m → Off k s
more_off k grammar.no_more c o = o
more_off {s = s} k (grammar.one_more q x y) c o = off_by k kinds.Comma s q.0 c

pub indices_found : (n : ℕ) {s m : At} {ns : List Index} → Indices s m ns → length ns ≤ n → Off kinds.Dot m → Finds (many reads.another_index n s) ns m
indices_found zero grammar.no_index l c = (refl, refl)
indices_found zero (grammar.an_index q i k) l c = absurd (omega arith)
indices_found (suc n) {s = s} grammar.no_index l c = subst (λ y. Finds (on_turn (cond y (Part (index (passed s))) Stop) s (many reads.another_index n)) [] s)
    (sym c) (refl, refl)
indices_found (suc n) {s = s} {m = m} (grammar.an_index {a = a} {b = b} {n = x} {ns = ns} q i k) l c =
    subst (λ y. Finds (on_turn (cond y (Part (index (passed s))) Stop) s (many reads.another_index n)) (x ∷ ns) m) (sym (is_one (next s) kinds.Dot q.0))
    (after (index (passed s)) _ x b _ _ (finds_by (index (passed s)) x b (subst (λ z. index z ≡ Got x b) q.1 i))
    (after (many reads.another_index n b) _ ns m _ _ (indices_found n k (omega arith) c) (refl, refl)))

pub by_require_found : (r : Bool) {s m : At} {k : CallKind} → ByOfRequire r s m k → Finds (reads.by_of_require r s) k m
by_require_found r {s = s} (grammar.nothing h) = at_false (is (next s) kinds.By) _ (Got calls.Require s) calls.Require s
    (false_same the_type (search rules) (next s) kinds.By h) (refl, refl)
by_require_found r {s = s} {m = m} (grammar.by_hash {a = a} q p) = at_true (is (next s) kinds.By) _ _ calls.RequireByHash m (is_one (next s) kinds.By q.0)
    (at_true (is (next (passed s)) kinds.Hash) (Got calls.RequireByHash (passed (passed s))) _ calls.RequireByHash m
    (is_one (next (passed s)) kinds.Hash (subst (λ z. next z ≡ kinds.Hash) q.1 p.0))
    (refl, sym (p.1 ∙ ap passed q.1)))
by_require_found r {s = s} (grammar.passes_mark {a = a} {b = b} q p) =
    let at_mark : Eats kinds.Mark (passed s) b = (subst (λ z. next z ≡ kinds.Mark) q.1 p.0, p.1 ∙ ap passed q.1) in
    at_true (is (next s) kinds.By) _ _ calls.Require _ (is_one (next s) kinds.By q.0)
    (at_false (is (next (passed s)) kinds.Hash) (Got calls.RequireByHash (passed (passed s))) _ calls.Require _
    (off_by kinds.Hash kinds.Mark (passed s) at_mark.0 refl)
    (after (want kinds.Mark (passed s)) _ done b _ _ (wanted kinds.Mark (passed s) b at_mark) (refl, refl)))

pub by_keyword : (s d a : At) → Eats kinds.By s a → (k : EffectKind) → (Unit {0} → Finds (reads.read_by (passed s) (next (passed s))) k d)
    → Finds (reads.by_of_read s) k d
by_keyword s d a q k h = by_mark s.marked refl
  where
    by_mark : (b : Bool) → s.marked ≡ b → Finds (cond b (Got effects.ReadByMark (record s { marked = false }))
        (cond (is (next s) kinds.By) (reads.read_by (passed s) (next (passed s))) (Got effects.Read s))) k d
    by_mark true e = (let y : kinds.Marked ≡ kinds.By = sym (ap (λ b. cond b kinds.Marked (first_kind s.rest)) e) ∙ q.0 in cc)
    by_mark false e = at_true (is (next s) kinds.By) _ _ k d (is_one (next s) kinds.By q.0) (h tt)

-- a `read`'s closing bracket stands behind
pub by_read_found : {s d m : At} {k : EffectKind} → ByOfRead s d k → Eats kinds.CloseRound d m → Finds (reads.by_of_read s) k d
by_read_found {s = s} grammar.nothing z = unmarked s.marked refl
  where
    unmarked : (b : Bool) → s.marked ≡ b → Finds (cond b (Got effects.ReadByMark (record s { marked = false }))
        (cond (is (next s) kinds.By) (reads.read_by (passed s) (next (passed s))) (Got effects.Read s))) effects.Read s
    unmarked true e = (let y : kinds.Marked ≡ kinds.CloseRound = sym (ap (λ b. cond b kinds.Marked (first_kind s.rest)) e) ∙ z.0 in cc)
    unmarked false e = at_false (is (next s) kinds.By) _ _ effects.Read s (off_by kinds.By kinds.CloseRound s z.0 refl) (refl, refl)
by_read_found {s = s} {d = d} (grammar.by_hash {a = a} q p) z = by_keyword s d a q effects.ReadByHash
    (λ k. subst (λ j. Finds (reads.read_by (passed s) j) effects.ReadByHash d) (sym (subst (λ i. next i ≡ kinds.Hash) q.1 p.0))
    (refl, sym (p.1 ∙ ap passed q.1)))
by_read_found {s = s} {d = d} (grammar.by_mark {a = a} q p) z = by_keyword s d a q effects.ReadByMark
    (λ k. subst (λ j. Finds (reads.read_by (passed s) j) effects.ReadByMark d) (sym (subst (λ i. next i ≡ kinds.Mark) q.1 p.0))
    (refl, sym (p.1 ∙ ap passed q.1)))
by_read_found {s = s} (grammar.marked h) z = at_true s.marked (Got effects.ReadByMark (record s { marked = false })) _ effects.ReadByMark _ h (refl, refl)
