-- What stands between two places of the grammar is a word in front of what is left.
use Rattle.std.proofs.Common.{◌≡◌, inl, inr, Bool, true, false, cond, List, [], ◌∷◌, ◌++◌, Option, Some, None, not, ◌&&◌, refl, sym, subst, ap, ◌∙◌}
use Rattle.std.proofs.Common.{append_assoc}
use Rattle.std.specs.List.{list_all}
use Rattle.pie_lexer.specs.declared.token.Token.{Token}
use Rattle.pie_lexer.specs.declared.token.TokenKind.{TokenKind}
use Rattle.pie_lexer.specs.declared.token.TokenKind.TheVariants as tokens
use Rattle.pie_parser.specs.declared.kind.Kind.{Kind}
use Rattle.pie_parser.specs.declared.kind.Kind.TheVariants as kinds
use Rattle.pie_parser.specs.declared.chain.Level.{Level}
use Rattle.pie_parser.specs.declared.error.ParseFault.TheVariants.{Expected}
use Rattle.pie_parser.specs.declared.tree.Name.{Name}
use Rattle.pie_parser.specs.declared.tree.Index.{Index}
use Rattle.pie_parser.specs.declared.tree.Step.{Step}
use Rattle.pie_parser.specs.declared.tree.Line.{Line}
use Rattle.pie_parser.specs.declared.tree.CallKind.{CallKind}
use Rattle.pie_parser.specs.declared.tree.EffectKind.{EffectKind}
use Rattle.pie_parser.specs.declared.tree.Param.{Param}
use Rattle.pie_parser.specs.PlainTypes.{TypeTree}
use Rattle.pie_parser.specs.Plain.{Tree, BlockTree}
use Rattle.pie_parser.specs.FunctionTrees.{FunctionTree}
use Rattle.pie_parser.specs.At.{At}
use Rattle.pie_parser.specs.Places.{Got, Miss, first_kind, next, behind, passed, name_in, name_by, index_in, index_by}
use Rattle.pie_parser.specs.TypeGrammar as types
use Rattle.pie_parser.specs.TypeGrammar.{Eats, IsName, IsType, IsPlain, MoreTypes}
use Rattle.pie_parser.specs.Grammar as grammar
use Rattle.pie_parser.specs.Grammar.{IsIndex, Indices, ByOfRequire, ByOfRead, IsExpr, IsChain, IsOperand, Steps, IsComparison, IsPrefixed, IsProjected}
use Rattle.pie_parser.specs.Grammar.{IsPrimary, Arguments, More, IsBlock, Lines}
use Rattle.pie_parser.specs.FunctionGrammar as functions
use Rattle.pie_parser.specs.FunctionGrammar.{IsParam, MoreParams, IsParams, IsFunction}
use Rattle.pie_parser.proofs.Readings.{chosen, got_same, missed}
use Rattle.pie_lexer.proofs.Prefixes.{both_true}
use Rattle.pie_parser.specs.Kinds.{kind_of_token}
use Rattle.pie_parser.specs.declared.chain.Level.TheVariants as levels
use Rattle.pie_parser.specs.declared.tree.Literal.{Literal}
use Rattle.pie_parser.specs.Tests.{operator_at, comparison_at, prefix_at, effect_at}
use Rattle.pie_parser.specs.TypeReading.{plain_at}
use Rattle.pie_parser.specs.ExprReading.{literal_here, literal_in, literal_by}
use Rattle.pie_spelling_laws.specs.Standing.{is_func, NoFunc}

none_on : (us vs : List Token) → NoFunc us → NoFunc vs → NoFunc (us ++ vs)
none_on [] vs h k = k
none_on (t ∷ us) vs h k =
    let q = both_true (not (is_func t.kind)) (list_all (λ (t : Token). not (is_func t.kind)) us) h in
    ap (λ b. b && list_all (λ (t : Token). not (is_func t.kind)) (us ++ vs)) q.0 ∙ none_on us vs q.1 k

one_none : (t : Token) → is_func t.kind ≡ false → NoFunc (t ∷ [])
one_none t h = ap (λ b. not b && true) h

not_func : (k : TokenKind) → (kind_of_token k ≡ kinds.Func → ⊥) → is_func k ≡ false
not_func tokens.Func n = absurd (n refl)
not_func k n = refl

-- the second place is left behind a word from the first, which has no `func`
pub record Rest (s m : At) : Type 0 where
  pub word : List Token
  pub splits : s.rest ≡ word ++ m.rest
  pub none : NoFunc word

pub rest_same : {s : At} → Rest s s
rest_same = record { word = []; splits = refl; none = refl }

pub rest_on : {s a m : At} → Rest s a → Rest a m → Rest s m
rest_on {m = m} x y =
    record {
      word = x.word ++ y.word;
      splits = x.splits ∙ ap (λ i. x.word ++ i) y.splits
          ∙ sym (append_assoc x.word y.word m.rest);
      none = none_on x.word y.word x.none y.none;
    }

passed_rest : (s : At) → (next s ≡ kinds.Func → ⊥) → (next s ≡ kinds.Marked → ⊥) → Rest s (passed s)
passed_rest s f g = by_mark s.marked refl
  where
    by_rest : (ts : List Token) → s.rest ≡ ts → (first_kind ts ≡ kinds.Func → ⊥) → Rest s (behind s ts)
    by_rest [] e n = rest_same
    by_rest (t ∷ ts) e n = record { word = t ∷ []; splits = e; none = one_none t (not_func t.kind n) }

    by_mark : (b : Bool) → s.marked ≡ b → Rest s (passed s)
    by_mark true u = absurd (g (ap (λ b. cond b kinds.Marked (first_kind s.rest)) u))
    by_mark false u = by_rest s.rest refl (λ e. f (ap (λ b. cond b kinds.Marked (first_kind s.rest)) u ∙ e))

some_rest : {A : Type 0} (s : At) (F : Kind → Option A) (x : A) → F kinds.Func ≡ None → F kinds.Marked ≡ None → F (next s) ≡ Some x → Rest s (passed s)
some_rest s F x n o h = passed_rest s (λ e. let y : None ≡ Some x = sym n ∙ sym (ap F e) ∙ h in cc)
    (λ e. let y : None ≡ Some x = sym o ∙ sym (ap F e) ∙ h in cc)

no_operator : (l : Level) → (operator_at l kinds.Func ≡ None) × (operator_at l kinds.Marked ≡ None)
no_operator levels.Or = (refl, refl)
no_operator levels.And = (refl, refl)
no_operator levels.Sum = (refl, refl)
no_operator levels.Product = (refl, refl)

eats_rest : (k : Kind) → (kinds.Func ≡ k → ⊥) → (kinds.Marked ≡ k → ⊥) → (s m : At) → Eats k s m → Rest s m
eats_rest k f g s m q = subst (λ z. Rest s z) (sym q.1) (passed_rest s (λ e. f (sym e ∙ q.0)) (λ e. g (sym e ∙ q.0)))

name_rest : (s m : At) (n : Name) → IsName s m n → Rest s m
name_rest s m n h = elim (chosen s.marked (Miss Expected s) (name_in s s.rest) (Got n m) h) [ inl c ↦ missed c.1 | inr c ↦ by_rest s.rest refl c.1 ]
  where
    by_kind : (t : Token) (ts : List Token) (k : TokenKind) → name_by s t ts k ≡ Got n m → (ts ≡ m.rest) × (is_func k ≡ false)
    by_kind t ts (tokens.Name x) h = (ap (λ (z : At). z.rest) (got_same h).1, refl)
    by_kind t ts k h = missed h

    by_rest : (ts : List Token) → s.rest ≡ ts → name_in s ts ≡ Got n m → Rest s m
    by_rest [] e h = missed h
    by_rest (t ∷ ts) e h = let z = by_kind t ts t.kind h in record { word = t ∷ []; splits = e ∙ ap (λ r. t ∷ r) z.0; none = one_none t z.1 }

index_rest : (s m : At) (n : Index) → IsIndex s m n → Rest s m
index_rest s m n h = elim (chosen s.marked (Miss Expected s) (index_in s s.rest) (Got n m) h) [ inl c ↦ missed c.1 | inr c ↦ by_rest s.rest refl c.1 ]
  where
    by_kind : (t : Token) (ts : List Token) (k : TokenKind) → index_by s t ts k ≡ Got n m → (ts ≡ m.rest) × (is_func k ≡ false)
    by_kind t ts (tokens.Int x) h = (ap (λ (z : At). z.rest) (got_same h).1, refl)
    by_kind t ts k h = missed h

    by_rest : (ts : List Token) → s.rest ≡ ts → index_in s ts ≡ Got n m → Rest s m
    by_rest [] e h = missed h
    by_rest (t ∷ ts) e h = let z = by_kind t ts t.kind h in record { word = t ∷ []; splits = e ∙ ap (λ r. t ∷ r) z.0; none = one_none t z.1 }

literal_rest : (s : At) (x : Literal) → literal_here s ≡ Got x s → Rest s (passed s)
literal_rest s x h = elim (chosen s.marked (Miss Expected s) (literal_in s s.rest) (Got x s) h) [ inl c ↦ missed c.1 | inr c ↦ by_rest s.rest refl c.1 ]
  where
    by_kind : (k : TokenKind) → literal_by s k ≡ Got x s → is_func k ≡ false
    by_kind tokens.Func h = missed h
    by_kind k h = refl

    by_rest : (ts : List Token) → s.rest ≡ ts → literal_in s ts ≡ Got x s → Rest s (behind s ts)
    by_rest [] e h = missed h
    by_rest (t ∷ ts) e h = record { word = t ∷ []; splits = e; none = one_none t (by_kind t.kind h) }

mutual
  type_rest : {s m : At} {t : TypeTree} → IsType s m t → Rest s m
  type_rest (types.plain x) = plain_rest x
  type_rest {m = m} (types.nullable {a = a} x q) = rest_on (plain_rest x) (eats_rest kinds.Question (λ e. cc) (λ e. cc) a m q)

  plain_rest : {s m : At} {t : TypeTree} → IsPlain s m t → Rest s m
  plain_rest {s = s} (types.keyword {p = p} h e) = subst (λ z. Rest s z) (sym e) (some_rest s plain_at p refl refl h)
  plain_rest {s = s} {m = m} (types.named {n = n} h) = name_rest s m n h
  plain_rest {s = s} {m = m} (types.listed {a = a} {b = b} q x p) = rest_on (eats_rest kinds.OpenSquare (λ e. cc) (λ e. cc) s a q)
      (rest_on (type_rest x) (eats_rest kinds.CloseSquare (λ e. cc) (λ e. cc) b m p))
  plain_rest {s = s} {m = m} (types.tuple {a = a} {b = b} {c = c} {e = e} q x p y k z) = rest_on (eats_rest kinds.OpenRound (λ e. cc) (λ e. cc) s a q)
      (rest_on (type_rest x) (rest_on (eats_rest kinds.Comma (λ e. cc) (λ e. cc) b c p)
      (rest_on (type_rest y) (rest_on (more_types_rest k) (eats_rest kinds.CloseRound (λ e. cc) (λ e. cc) e m z)))))

  more_types_rest : {s m : At} {ts : List TypeTree} → MoreTypes s m ts → Rest s m
  more_types_rest types.no_more = rest_same
  more_types_rest {s = s} (types.one_more {a = a} q x k) = rest_on (eats_rest kinds.Comma (λ e. cc) (λ e. cc) s a q) (rest_on (type_rest x) (more_types_rest k))

indices_rest : {s m : At} {ns : List Index} → Indices s m ns → Rest s m
indices_rest grammar.no_index = rest_same
indices_rest {s = s} (grammar.an_index {a = a} {b = b} {n = n} q i k) = rest_on (eats_rest kinds.Dot (λ e. cc) (λ e. cc) s a q)
    (rest_on (index_rest a b n i) (indices_rest k))

by_require_rest : {r : Bool} {s m : At} {k : CallKind} → ByOfRequire r s m k → Rest s m
by_require_rest (grammar.nothing h) = rest_same
by_require_rest {s = s} {m = m} (grammar.by_hash {a = a} q p) = rest_on (eats_rest kinds.By (λ e. cc) (λ e. cc) s a q)
    (eats_rest kinds.Hash (λ e. cc) (λ e. cc) a m p)
by_require_rest {s = s} (grammar.passes_mark {a = a} {b = b} q p) =
    (let z : Rest s b = rest_on (eats_rest kinds.By (λ e. cc) (λ e. cc) s a q) (eats_rest kinds.Mark (λ e. cc) (λ e. cc) a b p) in
    record { word = z.word; splits = z.splits; none = z.none })

by_read_rest : {s m : At} {k : EffectKind} → ByOfRead s m k → Rest s m
by_read_rest grammar.nothing = rest_same
by_read_rest {s = s} {m = m} (grammar.by_hash {a = a} q p) = rest_on (eats_rest kinds.By (λ e. cc) (λ e. cc) s a q)
    (eats_rest kinds.Hash (λ e. cc) (λ e. cc) a m p)
by_read_rest {s = s} {m = m} (grammar.by_mark {a = a} q p) = rest_on (eats_rest kinds.By (λ e. cc) (λ e. cc) s a q)
    (eats_rest kinds.Mark (λ e. cc) (λ e. cc) a m p)
by_read_rest (grammar.marked h) = record { word = []; splits = refl; none = refl }

mutual
  expr_rest : {r : Bool} {s m : At} {t : Tree} → IsExpr r s m t → Rest s m
  expr_rest (grammar.expr x) = chain_rest x

  chain_rest : {l : Level} {r : Bool} {s m : At} {t : Tree} → IsChain l r s m t → Rest s m
  chain_rest (grammar.chained x k u) = rest_on (operand_rest x) (steps_rest k)

  operand_rest : {l : Level} {r : Bool} {s m : At} {t : Tree} → IsOperand l r s m t → Rest s m
  operand_rest (grammar.of_or x) = chain_rest x
  operand_rest (grammar.of_and x) = comparison_rest x
  operand_rest (grammar.of_sum x) = chain_rest x
  operand_rest (grammar.of_product x) = prefixed_rest x

  steps_rest : {l : Level} {r : Bool} {s m : At} {xs : List Step} → Steps l r s m xs → Rest s m
  steps_rest grammar.no_step = rest_same
  steps_rest {l = l} {s = s} (grammar.a_step {o = o} h x k) = rest_on (some_rest s (operator_at l) o (no_operator l).0 (no_operator l).1 h)
      (rest_on (operand_rest x) (steps_rest k))

  comparison_rest : {r : Bool} {s m : At} {t : Tree} → IsComparison r s m t → Rest s m
  comparison_rest (grammar.alone x) = chain_rest x
  comparison_rest (grammar.compared {a = a} {c = c} x h y) = rest_on (chain_rest x) (rest_on (some_rest a comparison_at c refl refl h) (chain_rest y))

  prefixed_rest : {r : Bool} {s m : At} {t : Tree} → IsPrefixed r s m t → Rest s m
  prefixed_rest (grammar.plain x) = projected_rest x
  prefixed_rest {s = s} (grammar.prefixed {p = p} h x) = rest_on (some_rest s prefix_at p refl refl h) (projected_rest x)

  projected_rest : {r : Bool} {s m : At} {t : Tree} → IsProjected r s m t → Rest s m
  projected_rest (grammar.projected x k u) = rest_on (primary_rest x) (indices_rest k)

  primary_rest : {r : Bool} {s m : At} {t : Tree} → IsPrimary r s m t → Rest s m
  primary_rest {s = s} (grammar.literal {l = x} h) = literal_rest s x h
  primary_rest {s = s} {m = m} (grammar.a_name {n = n} h) = name_rest s m n h
  primary_rest {s = s} (grammar.call {a = a} {n = n} h x) = rest_on (name_rest s a n h) (arguments_rest x)
  primary_rest {s = s} (grammar.null {a = a} x0 x1) = rest_on (eats_rest kinds.Null (λ e. cc) (λ e. cc) s a x0) (plain_rest x1)
  primary_rest {s = s} (grammar.empty {a = a} x0 x1) = rest_on (eats_rest kinds.Empty (λ e. cc) (λ e. cc) s a x0) (type_rest x1)
  primary_rest {s = s} {m = m} (grammar.brackets {a = a} {b = b} x0 x1 x2) = rest_on (eats_rest kinds.OpenRound (λ e. cc) (λ e. cc) s a x0)
      (rest_on (expr_rest x1) (eats_rest kinds.CloseRound (λ e. cc) (λ e. cc) b m x2))
  primary_rest {s = s} {m = m} (grammar.tuple {a = a} {c = c} x0 x1 x2 x3 x4) = rest_on (eats_rest kinds.OpenRound (λ e. cc) (λ e. cc) s a x0)
      (rest_on (expr_rest x1) (rest_on (more_rest x3) (eats_rest kinds.CloseRound (λ e. cc) (λ e. cc) c m x4)))
  primary_rest {s = s} {m = m} (grammar.list {a = a} {c = c} x0 x1 x2 x3) = rest_on (eats_rest kinds.OpenSquare (λ e. cc) (λ e. cc) s a x0)
      (rest_on (expr_rest x1) (rest_on (more_rest x2) (eats_rest kinds.CloseSquare (λ e. cc) (λ e. cc) c m x3)))
  primary_rest {s = s} {m = m} (grammar.each {a = a} {b = b} {c = c} {d = d} {e = e} {f = f} {n = n} x0 x1 x2 x3 x4 x5 x6) = rest_on
      (eats_rest kinds.OpenSquare (λ e. cc) (λ e. cc) s a x0)
      (rest_on (expr_rest x1) (rest_on (eats_rest kinds.For (λ e. cc) (λ e. cc) b c x2)
      (rest_on (name_rest c d n x3) (rest_on (eats_rest kinds.In (λ e. cc) (λ e. cc) d e x4)
      (rest_on (expr_rest x5) (eats_rest kinds.CloseSquare (λ e. cc) (λ e. cc) f m x6))))))
  primary_rest {s = s} (grammar.if_alone {a = a} x0 x1 x2) = rest_on (eats_rest kinds.If (λ e. cc) (λ e. cc) s a x0) (rest_on (expr_rest x1) (block_rest x2))
  primary_rest {s = s} (grammar.if_else {a = a} {c = c} {d = d} x0 x1 x2 x3 x4) = rest_on (eats_rest kinds.If (λ e. cc) (λ e. cc) s a x0)
      (rest_on (expr_rest x1) (rest_on (block_rest x2) (rest_on (eats_rest kinds.Else (λ e. cc) (λ e. cc) c d x3) (block_rest x4))))
  primary_rest {s = s} {m = m} (grammar.effect {a = a} {b = b} {k = k} h x1 x2 x3) = rest_on (some_rest s effect_at k refl refl h)
      (rest_on (eats_rest kinds.OpenRound (λ e. cc) (λ e. cc) (passed s) a x1) (rest_on (expr_rest x2) (eats_rest kinds.CloseRound (λ e. cc) (λ e. cc) b m x3)))
  primary_rest {s = s} {m = m} (grammar.read {a = a} {b = b} {d = d} x0 x1 x2 x3 x4) = rest_on (eats_rest kinds.Read (λ e. cc) (λ e. cc) s a x0)
      (rest_on (eats_rest kinds.OpenRound (λ e. cc) (λ e. cc) a b x1)
      (rest_on (expr_rest x2) (rest_on (by_read_rest x3) (eats_rest kinds.CloseRound (λ e. cc) (λ e. cc) d m x4))))
  primary_rest {s = s} {m = m} (grammar.write {a = a} {b = b} {c = c} {d = d} {e = e} x0 x1 x2 x3 x4 x5) = rest_on
      (eats_rest kinds.Write (λ e. cc) (λ e. cc) s a x0) (rest_on (eats_rest kinds.OpenRound (λ e. cc) (λ e. cc) a b x1)
      (rest_on (expr_rest x2) (rest_on (eats_rest kinds.Comma (λ e. cc) (λ e. cc) c d x3)
      (rest_on (expr_rest x4) (eats_rest kinds.CloseRound (λ e. cc) (λ e. cc) e m x5)))))
  primary_rest {s = s} {m = m} (grammar.fail {a = a} {b = b} {c = c} {d = d} x0 x1 x2 x3 x4) = rest_on (eats_rest kinds.Fail (λ e. cc) (λ e. cc) s a x0)
      (rest_on (type_rest x1) (rest_on (eats_rest kinds.OpenRound (λ e. cc) (λ e. cc) b c x2)
      (rest_on (expr_rest x3) (eats_rest kinds.CloseRound (λ e. cc) (λ e. cc) d m x4))))
  primary_rest {s = s} (grammar.require {a = a} {b = b} {n = n} x0 x1 x2 x3) = rest_on (eats_rest kinds.Require (λ e. cc) (λ e. cc) s a x0)
      (rest_on (name_rest a b n x1) (rest_on (arguments_rest x2) (by_require_rest x3)))
  primary_rest {s = s} (grammar.run {a = a} {b = b} {n = n} x0 x1 x2) = rest_on (eats_rest kinds.Run (λ e. cc) (λ e. cc) s a x0)
      (rest_on (name_rest a b n x1) (arguments_rest x2))

  arguments_rest : {s m : At} {ts : List Tree} → Arguments s m ts → Rest s m
  arguments_rest {s = s} {m = m} (grammar.none {a = a} q p) = rest_on (eats_rest kinds.OpenRound (λ e. cc) (λ e. cc) s a q)
      (eats_rest kinds.CloseRound (λ e. cc) (λ e. cc) a m p)
  arguments_rest {s = s} {m = m} (grammar.some {a = a} {c = c} q x k p) = rest_on (eats_rest kinds.OpenRound (λ e. cc) (λ e. cc) s a q)
      (rest_on (expr_rest x) (rest_on (more_rest k) (eats_rest kinds.CloseRound (λ e. cc) (λ e. cc) c m p)))

  more_rest : {s m : At} {ts : List Tree} → More s m ts → Rest s m
  more_rest grammar.no_more = rest_same
  more_rest {s = s} (grammar.one_more {a = a} q x k) = rest_on (eats_rest kinds.Comma (λ e. cc) (λ e. cc) s a q) (rest_on (expr_rest x) (more_rest k))

  block_rest : {s m : At} {t : BlockTree} → IsBlock s m t → Rest s m
  block_rest {s = s} {m = m} (grammar.block {a = a} {b = b} q k p) = rest_on (eats_rest kinds.OpenBrace (λ e. cc) (λ e. cc) s a q)
      (rest_on (lines_rest k) (eats_rest kinds.CloseBrace (λ e. cc) (λ e. cc) b m p))

  lines_rest : {s m : At} {ls : List Line} {u : Option Tree} → Lines s m ls u → Rest s m
  lines_rest grammar.no_line = rest_same
  lines_rest (grammar.the_last x) = expr_rest x
  lines_rest (grammar.an_expr {a = a} {b = b} x q k) = rest_on (expr_rest x) (rest_on (eats_rest kinds.Semicolon (λ e. cc) (λ e. cc) a b q) (lines_rest k))
  lines_rest {s = s} (grammar.a_val {a = a} {b = b} {c = c} {d = d} {e = e} {n = n} q i p x z k) = rest_on (eats_rest kinds.Val (λ e. cc) (λ e. cc) s a q)
      (rest_on (name_rest a b n i) (rest_on (eats_rest kinds.Assign (λ e. cc) (λ e. cc) b c p)
      (rest_on (expr_rest x) (rest_on (eats_rest kinds.Semicolon (λ e. cc) (λ e. cc) d e z) (lines_rest k)))))

param_rest : {s m : At} {p : Param} → IsParam s m p → Rest s m
param_rest {s = s} (functions.param {a = a} {b = b} {n = n} i q t) = rest_on (name_rest s a n i)
    (rest_on (eats_rest kinds.Colon (λ e. cc) (λ e. cc) a b q) (type_rest t))

more_params_rest : {s m : At} {ps : List Param} → MoreParams s m ps → Rest s m
more_params_rest functions.no_more = rest_same
more_params_rest {s = s} (functions.one_more {a = a} q x k) = rest_on (eats_rest kinds.Comma (λ e. cc) (λ e. cc) s a q)
    (rest_on (param_rest x) (more_params_rest k))

params_rest : {s m : At} {ps : List Param} → IsParams s m ps → Rest s m
params_rest {s = s} {m = m} (functions.none {a = a} q p) = rest_on (eats_rest kinds.OpenRound (λ e. cc) (λ e. cc) s a q)
    (eats_rest kinds.CloseRound (λ e. cc) (λ e. cc) a m p)
params_rest {s = s} {m = m} (functions.some {a = a} {c = c} q x k p) = rest_on (eats_rest kinds.OpenRound (λ e. cc) (λ e. cc) s a q)
    (rest_on (param_rest x) (rest_on (more_params_rest k) (eats_rest kinds.CloseRound (λ e. cc) (λ e. cc) c m p)))

-- a word of one `func` and others, the last of which ends with the place
pub record FunctionWord (s m : At) : Type 0 where
  pub func : Token
  pub others : List Token
  pub last : Token
  pub begins : is_func func.kind ≡ true
  pub none : NoFunc (others ++ last ∷ [])
  pub splits : s.rest ≡ func ∷ (others ++ (last ∷ m.rest))
  pub ends : m.past ≡ last.end

func_kind : (k : TokenKind) → kind_of_token k ≡ kinds.Func → is_func k ≡ true
func_kind tokens.Func h = refl
func_kind k h = cc

pub first_func : (s : At) → next s ≡ kinds.Func → (t : Token) × (ts : List Token) × (s.rest ≡ t ∷ ts) × (is_func t.kind ≡ true)
first_func s h = by_mark s.marked h
  where
    by_rest : (ts : List Token) → s.rest ≡ ts → first_kind ts ≡ kinds.Func → (t : Token) × (ts : List Token) × (s.rest ≡ t ∷ ts) × (is_func t.kind ≡ true)
    by_rest [] e h = cc
    by_rest (t ∷ ts) e h = (t, ts, e, func_kind t.kind h)

    by_mark : (b : Bool) → cond b kinds.Marked (first_kind s.rest) ≡ kinds.Func → (t : Token) × (ts : List Token) × (s.rest ≡ t ∷ ts) × (is_func t.kind ≡ true)
    by_mark true h = cc
    by_mark false h = by_rest s.rest refl h

last_token : (k : Kind) (s m : At) → (kinds.End ≡ k → ⊥) → (kinds.Marked ≡ k → ⊥) → (kinds.Func ≡ k → ⊥) → Eats k s m → (t : Token) × (s.rest ≡ t ∷ m.rest)
    × (m.past ≡ t.end) × (is_func t.kind ≡ false)
last_token k s m d g f q = subst (λ z. (t : Token) × (s.rest ≡ t ∷ z.rest) × (z.past ≡ t.end) × (is_func t.kind ≡ false)) (sym q.1) (by_mark s.marked q.0)
  where
    by_rest : (ts : List Token) → s.rest ≡ ts → first_kind ts ≡ k → (t : Token) × (s.rest ≡ t ∷ (behind s ts).rest) × ((behind s ts).past ≡ t.end)
        × (is_func t.kind ≡ false)
    by_rest [] e h = absurd (d h)
    by_rest (t ∷ ts) e h = (t, e, refl, not_func t.kind (λ j. f (sym j ∙ h)))

    by_mark : (b : Bool) → cond b kinds.Marked (first_kind s.rest) ≡ k → (t : Token) × (s.rest ≡ t ∷ (passed s).rest) × ((passed s).past ≡ t.end)
        × (is_func t.kind ≡ false)
    by_mark true h = absurd (g h)
    by_mark false h = by_rest s.rest refl h

behind_first : (s a : At) (t : Token) (ts : List Token) → s.rest ≡ t ∷ ts → a ≡ passed s → a.rest ≡ ts
behind_first s a t ts e h = ap (λ (z : At). z.rest) h ∙ ap (λ r. (behind s r).rest) e

-- a function is a word that begins with its `func`, has no other, and ends in its last brace
pub function_word : {s m : At} {f : FunctionTree} → IsFunction s m f → FunctionWord s m
function_word {s = s} {m = m} (functions.function {a = a} {b = b} {c = c} {d = d} {n = n} q i k p z (grammar.block {a = g} {b = h} o ls v)) =
    let u = first_func s q.0 in
    let w : Rest a h = rest_on (name_rest a b n i) (rest_on (params_rest k)
    (rest_on (eats_rest kinds.Arrow (λ e. cc) (λ e. cc) c d p)
    (rest_on (type_rest z) (rest_on (eats_rest kinds.OpenBrace (λ e. cc) (λ e. cc) _ g o) (lines_rest ls))))) in
    let l = last_token kinds.CloseBrace h m (λ e. cc) (λ e. cc) (λ e. cc) v in
    record {
      func = u.0;
      others = w.word;
      last = l.0;
      begins = u.3;
      none = none_on w.word (l.0 ∷ []) w.none (one_none l.0 l.3);
      splits = u.2 ∙ ap (λ r. u.0 ∷ r) (sym (behind_first s a u.0 u.1 u.2 q.1) ∙ w.splits ∙ ap (λ r. w.word ++ r) l.1);
      ends = l.2;
    }
