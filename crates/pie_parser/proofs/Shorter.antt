-- What stands between two places takes tokens.
use Rattle.std.proofs.Common.{◌≡◌, ◌⊎◌, inl, inr, ℕ, ◌+◌, ◌<◌, ◌≤◌, suc, Bool, true, false, cond, List, [], ◌∷◌, length, Option, Some, None, refl, sym, subst}
use Rattle.std.proofs.Common.{ap, ◌∙◌, arith}
use Rattle.pie_lexer.specs.declared.token.Token.{Token}
use Rattle.pie_lexer.specs.declared.token.TokenKind.{TokenKind}
use Rattle.pie_lexer.specs.declared.token.TokenKind.TheVariants as tokens
use Rattle.pie_parser.specs.declared.kind.Kind.{Kind}
use Rattle.pie_parser.specs.declared.kind.Kind.TheVariants as kinds
use Rattle.pie_parser.specs.declared.chain.Level.{Level}
use Rattle.pie_parser.specs.declared.chain.Level.TheVariants as levels
use Rattle.pie_parser.specs.declared.error.ParseFault.TheVariants.{Expected}
use Rattle.pie_parser.specs.declared.type_tree.PlainType.{PlainType}
use Rattle.pie_parser.specs.declared.tree.Name.{Name}
use Rattle.pie_parser.specs.declared.tree.Index.{Index}
use Rattle.pie_parser.specs.declared.tree.Step.{Step}
use Rattle.pie_parser.specs.declared.tree.Line.{Line}
use Rattle.pie_parser.specs.declared.tree.Literal.{Literal}
use Rattle.pie_parser.specs.declared.tree.Operator.{Operator}
use Rattle.pie_parser.specs.declared.tree.CallKind.{CallKind}
use Rattle.pie_parser.specs.declared.tree.EffectKind.{EffectKind}
use Rattle.pie_parser.specs.declared.tree.Param.{Param}
use Rattle.pie_parser.specs.Tests.{operator_at, effect_at}
use Rattle.pie_parser.specs.PlainTypes.{TypeTree}
use Rattle.pie_parser.specs.Plain.{Tree, BlockTree}
use Rattle.pie_parser.specs.FunctionTrees.{FunctionTree}
use Rattle.pie_parser.specs.At.{At}
use Rattle.pie_parser.specs.Places.{Parsed, Got, Miss, first_kind, next, behind, passed, name, name_in, name_by, index, index_in, index_by}
use Rattle.pie_parser.specs.ExprReading.{literal_here, literal_in}
use Rattle.pie_parser.specs.TypeReading.{plain_at}
use Rattle.pie_parser.specs.TypeGrammar as types
use Rattle.pie_parser.specs.TypeGrammar.{Eats, IsName, IsType, IsPlain, MoreTypes}
use Rattle.pie_parser.specs.Grammar as grammar
use Rattle.pie_parser.specs.Grammar.{IsIndex, Indices, ByOfRequire, ByOfRead, IsExpr, IsChain, IsOperand, Steps, IsComparison, IsPrefixed, IsProjected}
use Rattle.pie_parser.specs.Grammar.{IsPrimary, Arguments, More, IsBlock, Lines}
use Rattle.pie_parser.specs.FunctionGrammar as functions
use Rattle.pie_parser.specs.FunctionGrammar.{IsParam, MoreParams, IsParams, IsFunction, Functions}
use Rattle.pie_parser.proofs.Readings.{chosen, got_same, missed}
use Rattle.pie_parser.proofs.Strength.{level_of, operator_strength, strength}
use Rattle.pie_parser.proofs.Hits.{Short, Less, less_by, eats_less}

passes : (s : At) → Short s (passed s)
passes s = by_rest s.rest refl
  where
    by_rest : (ts : List Token) → s.rest ≡ ts → length (behind s ts).rest ≤ length s.rest
    by_rest [] e = omega arith
    by_rest (t ∷ ts) e = let l = ap length e in omega arith

-- how many turns the expression that ends a block takes
abbrev pub last_one : Option Tree → ℕ
last_one (Some t) = 1
last_one None = 0

level_small : (l : Level) → (1 ≤ level_of l) × (level_of l ≤ 5)
level_small levels.Or = (omega arith, omega arith)
level_small levels.And = (omega arith, omega arith)
level_small levels.Sum = (omega arith, omega arith)
level_small levels.Product = (omega arith, omega arith)

pub operator_less : (l : Level) (s : At) (x : Operator) → operator_at l (next s) ≡ Some x → Less s (passed s)
operator_less l s x h =
    let z = operator_strength l (next s) x h in
    let b = level_small l in
    less_by s (next s) refl (λ e. let y = ap strength e in absurd (omega arith)) (λ e. let y = ap strength e in absurd (omega arith))

pub name_less : (s m : At) (n : Name) → IsName s m n → Less s m
name_less s m n h = elim (chosen s.marked (Miss Expected s) (name_in s s.rest) (Got n m) h) [ inl c ↦ missed c.1 | inr c ↦ by_rest s.rest c.1 ]
  where
    by_kind : (t : Token) (ts : List Token) (k : TokenKind) → name_by s t ts k ≡ Got n m → length m.rest < length (t ∷ ts)
    by_kind t ts (tokens.Name x) h = let g = ap (λ (z : At). length z.rest) (got_same h).1 in omega arith
    by_kind t ts k h = missed h

    by_rest : (ts : List Token) → name_in s ts ≡ Got n m → length m.rest < length ts
    by_rest [] h = missed h
    by_rest (t ∷ ts) h = by_kind t ts t.kind h

pub index_less : (s m : At) (n : Index) → IsIndex s m n → Less s m
index_less s m n h = elim (chosen s.marked (Miss Expected s) (index_in s s.rest) (Got n m) h) [ inl c ↦ missed c.1 | inr c ↦ by_rest s.rest c.1 ]
  where
    by_kind : (t : Token) (ts : List Token) (k : TokenKind) → index_by s t ts k ≡ Got n m → length m.rest < length (t ∷ ts)
    by_kind t ts (tokens.Int x) h = let g = ap (λ (z : At). length z.rest) (got_same h).1 in omega arith
    by_kind t ts k h = missed h

    by_rest : (ts : List Token) → index_in s ts ≡ Got n m → length m.rest < length ts
    by_rest [] h = missed h
    by_rest (t ∷ ts) h = by_kind t ts t.kind h

pub literal_less : (s a : At) (l : Literal) → literal_here s ≡ Got l a → Less s (passed s)
literal_less s a l h = elim (chosen s.marked (Miss Expected s) (literal_in s s.rest) (Got l a) h) [ inl c ↦ missed c.1 | inr c ↦ by_rest s.rest c.1 ]
  where
    by_rest : (ts : List Token) → literal_in s ts ≡ Got l a → length (behind s ts).rest < length ts
    by_rest [] h = missed h
    by_rest (t ∷ ts) h = omega arith

plain_less : (s : At) (p : PlainType) → plain_at (next s) ≡ Some p → Less s (passed s)
plain_less s p h = less_by s (next s) refl (λ e. let y : None ≡ Some p = ap plain_at e ∙ h in cc) (λ e. let y : None ≡ Some p = ap plain_at e ∙ h in cc)

pub effect_less : (s : At) (k : EffectKind) → effect_at (next s) ≡ Some k → Less s (passed s)
effect_less s k h = less_by s (next s) refl (λ e. let y : None ≡ Some k = ap effect_at e ∙ h in cc) (λ e. let y : None ≡ Some k = ap effect_at e ∙ h in cc)

mutual
  pub type_less : {s m : At} {t : TypeTree} → IsType s m t → Less s m
  type_less (types.plain p) = plain_type_less p
  type_less {s = s} {m = m} (types.nullable {a = a} p q) = omega (arith, plain_type_less p, eats_less kinds.Question a m q (λ e. cc) (λ e. cc))

  plain_type_less : {s m : At} {t : TypeTree} → IsPlain s m t → Less s m
  plain_type_less {s = s} {m = m} (types.keyword {p = p} h e) = subst (λ z. Less s z) (sym e) (plain_less s p h)
  plain_type_less {s = s} {m = m} (types.named {n = n} h) = name_less s m n h
  plain_type_less {s = s} {m = m} (types.listed {a = a} {b = b} q t p) = omega
      (arith, eats_less kinds.OpenSquare s a q (λ e. cc) (λ e. cc), type_less t, eats_less kinds.CloseSquare b m p (λ e. cc) (λ e. cc))
  plain_type_less {s = s} {m = m} (types.tuple {a = a} {b = b} {c = c} {d = d} {e = e} q t p u ts z) = omega (
    arith,
    eats_less kinds.OpenRound s a q (λ e. cc) (λ e. cc),
    type_less t,
    eats_less kinds.Comma b c p (λ e. cc) (λ e. cc),
    type_less u,
    more_types_count ts,
    eats_less kinds.CloseRound e m z (λ e. cc) (λ e. cc),
  )

  pub more_types_count : {s m : At} {ts : List TypeTree} → MoreTypes s m ts → length ts + length m.rest ≤ length s.rest
  more_types_count types.no_more = omega arith
  more_types_count {s = s} {m = m} (types.one_more {a = a} {b = b} q t ts) = omega
      (arith, eats_less kinds.Comma s a q (λ e. cc) (λ e. cc), type_less t, more_types_count ts)

pub indices_count : {s m : At} {ns : List Index} → Indices s m ns → length ns + length m.rest ≤ length s.rest
indices_count grammar.no_index = omega arith
indices_count {s = s} {m = m} (grammar.an_index {a = a} {b = b} {n = n} q i k) = omega
    (arith, eats_less kinds.Dot s a q (λ e. cc) (λ e. cc), index_less a b n i, indices_count k)

by_require_short : {r : Bool} {s m : At} {k : CallKind} → ByOfRequire r s m k → Short s m
by_require_short (grammar.nothing h) = omega arith
by_require_short {s = s} {m = m} (grammar.by_hash {a = a} q p) = omega
    (arith, eats_less kinds.By s a q (λ e. cc) (λ e. cc), eats_less kinds.Hash a m p (λ e. cc) (λ e. cc))
by_require_short {s = s} (grammar.passes_mark {a = a} {b = b} q p) = omega
    (arith, eats_less kinds.By s a q (λ e. cc) (λ e. cc), eats_less kinds.Mark a b p (λ e. cc) (λ e. cc))

by_read_short : {s m : At} {k : EffectKind} → ByOfRead s m k → Short s m
by_read_short grammar.nothing = omega arith
by_read_short {s = s} {m = m} (grammar.by_hash {a = a} q p) = omega
    (arith, eats_less kinds.By s a q (λ e. cc) (λ e. cc), eats_less kinds.Hash a m p (λ e. cc) (λ e. cc))
by_read_short {s = s} {m = m} (grammar.by_mark {a = a} q p) = omega
    (arith, eats_less kinds.By s a q (λ e. cc) (λ e. cc), eats_less kinds.Mark a m p (λ e. cc) (λ e. cc))
by_read_short (grammar.marked h) = omega arith

mutual
  pub expr_less : {r : Bool} {s m : At} {t : Tree} → IsExpr r s m t → Less s m
  expr_less (grammar.expr x) = chain_less x

  chain_less : {l : Level} {r : Bool} {s m : At} {t : Tree} → IsChain l r s m t → Less s m
  chain_less (grammar.chained x k u) = omega (arith, operand_less x, steps_count k)

  operand_less : {l : Level} {r : Bool} {s m : At} {t : Tree} → IsOperand l r s m t → Less s m
  operand_less (grammar.of_or x) = chain_less x
  operand_less (grammar.of_and x) = comparison_less x
  operand_less (grammar.of_sum x) = chain_less x
  operand_less (grammar.of_product x) = prefixed_less x

  pub steps_count : {l : Level} {r : Bool} {s m : At} {xs : List Step} → Steps l r s m xs → length xs + length m.rest ≤ length s.rest
  steps_count grammar.no_step = omega arith
  steps_count {l = l} {s = s} (grammar.a_step {o = o} h x k) = omega (arith, operator_less l s o h, operand_less x, steps_count k)

  comparison_less : {r : Bool} {s m : At} {t : Tree} → IsComparison r s m t → Less s m
  comparison_less (grammar.alone x) = chain_less x
  comparison_less (grammar.compared {a = a} x h y) = omega (arith, chain_less x, passes a, chain_less y)

  prefixed_less : {r : Bool} {s m : At} {t : Tree} → IsPrefixed r s m t → Less s m
  prefixed_less (grammar.plain x) = projected_less x
  prefixed_less {s = s} (grammar.prefixed h x) = omega (arith, passes s, projected_less x)

  projected_less : {r : Bool} {s m : At} {t : Tree} → IsProjected r s m t → Less s m
  projected_less (grammar.projected x k u) = omega (arith, primary_less x, indices_count k)

  primary_less : {r : Bool} {s m : At} {t : Tree} → IsPrimary r s m t → Less s m
  primary_less {s = s} (grammar.literal {l = l} h) = literal_less s s l h
  primary_less {s = s} {m = m} (grammar.a_name {n = n} h) = name_less s m n h
  primary_less {s = s} (grammar.call {a = a} {n = n} h x) = omega (arith, name_less s a n h, arguments_less x)
  primary_less {s = s} {m = m} (grammar.null {a = a} x0 x1) = omega (arith, eats_less kinds.Null s a x0 (λ e. cc) (λ e. cc), plain_type_less x1)
  primary_less {s = s} {m = m} (grammar.empty {a = a} x0 x1) = omega (arith, eats_less kinds.Empty s a x0 (λ e. cc) (λ e. cc), type_less x1)
  primary_less {s = s} {m = m} (grammar.brackets {a = a} {b = b} x0 x1 x2) = omega
      (arith, eats_less kinds.OpenRound s a x0 (λ e. cc) (λ e. cc), expr_less x1, eats_less kinds.CloseRound b m x2 (λ e. cc) (λ e. cc))
  primary_less {s = s} {m = m} (grammar.tuple {a = a} {b = b} {c = c} x0 x1 x2 x3 x4) = omega
      (arith, eats_less kinds.OpenRound s a x0 (λ e. cc) (λ e. cc), expr_less x1, more_count x3, eats_less kinds.CloseRound c m x4 (λ e. cc) (λ e. cc))
  primary_less {s = s} {m = m} (grammar.list {a = a} {b = b} {c = c} x0 x1 x2 x3) = omega
      (arith, eats_less kinds.OpenSquare s a x0 (λ e. cc) (λ e. cc), expr_less x1, more_count x2, eats_less kinds.CloseSquare c m x3 (λ e. cc) (λ e. cc))
  primary_less {s = s} {m = m} (grammar.each {a = a} {b = b} {c = c} {d = d} {e = e} {f = f} {n = n} x0 x1 x2 x3 x4 x5 x6) = omega (
    arith,
    eats_less kinds.OpenSquare s a x0 (λ e. cc) (λ e. cc),
    expr_less x1,
    eats_less kinds.For b c x2 (λ e. cc) (λ e. cc),
    name_less c d n x3,
    eats_less kinds.In d e x4 (λ e. cc) (λ e. cc),
    expr_less x5,
    eats_less kinds.CloseSquare f m x6 (λ e. cc) (λ e. cc),
  )
  primary_less {s = s} {m = m} (grammar.if_alone {a = a} {b = b} x0 x1 x2) = omega
      (arith, eats_less kinds.If s a x0 (λ e. cc) (λ e. cc), expr_less x1, block_less x2)
  primary_less {s = s} {m = m} (grammar.if_else {a = a} {b = b} {c = c} {d = d} x0 x1 x2 x3 x4) = omega
      (arith, eats_less kinds.If s a x0 (λ e. cc) (λ e. cc), expr_less x1, block_less x2, eats_less kinds.Else c d x3 (λ e. cc) (λ e. cc), block_less x4)
  primary_less {s = s} {m = m} (grammar.effect {a = a} {b = b} {k = k} x0 x1 x2 x3) = omega (
    arith,
    effect_less s k x0,
    eats_less kinds.OpenRound (passed s) a x1 (λ e. cc) (λ e. cc),
    expr_less x2,
    eats_less kinds.CloseRound b m x3 (λ e. cc) (λ e. cc),
  )
  primary_less {s = s} {m = m} (grammar.read {a = a} {b = b} {c = c} {d = d} x0 x1 x2 x3 x4) = omega (
    arith,
    eats_less kinds.Read s a x0 (λ e. cc) (λ e. cc),
    eats_less kinds.OpenRound a b x1 (λ e. cc) (λ e. cc),
    expr_less x2,
    by_read_short x3,
    eats_less kinds.CloseRound d m x4 (λ e. cc) (λ e. cc),
  )
  primary_less {s = s} {m = m} (grammar.write {a = a} {b = b} {c = c} {d = d} {e = e} x0 x1 x2 x3 x4 x5) = omega (
    arith,
    eats_less kinds.Write s a x0 (λ e. cc) (λ e. cc),
    eats_less kinds.OpenRound a b x1 (λ e. cc) (λ e. cc),
    expr_less x2,
    eats_less kinds.Comma c d x3 (λ e. cc) (λ e. cc),
    expr_less x4,
    eats_less kinds.CloseRound e m x5 (λ e. cc) (λ e. cc),
  )
  primary_less {s = s} {m = m} (grammar.fail {a = a} {b = b} {c = c} {d = d} x0 x1 x2 x3 x4) = omega (
    arith,
    eats_less kinds.Fail s a x0 (λ e. cc) (λ e. cc),
    type_less x1,
    eats_less kinds.OpenRound b c x2 (λ e. cc) (λ e. cc),
    expr_less x3,
    eats_less kinds.CloseRound d m x4 (λ e. cc) (λ e. cc),
  )
  primary_less {s = s} {m = m} (grammar.require {a = a} {b = b} {c = c} {n = n} x0 x1 x2 x3) = omega
      (arith, eats_less kinds.Require s a x0 (λ e. cc) (λ e. cc), name_less a b n x1, arguments_less x2, by_require_short x3)
  primary_less {s = s} {m = m} (grammar.run {a = a} {b = b} {n = n} x0 x1 x2) = omega
      (arith, eats_less kinds.Run s a x0 (λ e. cc) (λ e. cc), name_less a b n x1, arguments_less x2)

  pub arguments_less : {s m : At} {ts : List Tree} → Arguments s m ts → Less s m
  arguments_less {s = s} {m = m} (grammar.none {a = a} q p) = omega
      (arith, eats_less kinds.OpenRound s a q (λ e. cc) (λ e. cc), eats_less kinds.CloseRound a m p (λ e. cc) (λ e. cc))
  arguments_less {s = s} {m = m} (grammar.some {a = a} {b = b} {c = c} q x k p) = omega
      (arith, eats_less kinds.OpenRound s a q (λ e. cc) (λ e. cc), expr_less x, more_count k, eats_less kinds.CloseRound c m p (λ e. cc) (λ e. cc))

  pub more_count : {s m : At} {ts : List Tree} → More s m ts → length ts + length m.rest ≤ length s.rest
  more_count grammar.no_more = omega arith
  more_count {s = s} {m = m} (grammar.one_more {a = a} {b = b} q x k) = omega
      (arith, eats_less kinds.Comma s a q (λ e. cc) (λ e. cc), expr_less x, more_count k)

  pub block_less : {s m : At} {t : BlockTree} → IsBlock s m t → Less s m
  block_less {s = s} {m = m} (grammar.block {a = a} {b = b} q k p) = omega
      (arith, eats_less kinds.OpenBrace s a q (λ e. cc) (λ e. cc), lines_count k, eats_less kinds.CloseBrace b m p (λ e. cc) (λ e. cc))

  pub lines_count : {s m : At} {ls : List Line} {u : Option Tree} → Lines s m ls u → length ls + last_one u + length m.rest ≤ length s.rest
  lines_count grammar.no_line = omega arith
  lines_count (grammar.the_last x) = omega (arith, expr_less x)
  lines_count {s = s} {m = m} (grammar.an_expr {a = a} {b = b} x q k) = omega
      (arith, expr_less x, eats_less kinds.Semicolon a b q (λ e. cc) (λ e. cc), lines_count k)
  lines_count {s = s} {m = m} (grammar.a_val {a = a} {b = b} {c = c} {d = d} {e = e} {n = n} q i p x z k) =
      omega (
        arith,
        eats_less kinds.Val s a q (λ e. cc) (λ e. cc),
        name_less a b n i,
        eats_less kinds.Assign b c p (λ e. cc) (λ e. cc),
        expr_less x,
        eats_less kinds.Semicolon d e z (λ e. cc) (λ e. cc),
        lines_count k,
      )
