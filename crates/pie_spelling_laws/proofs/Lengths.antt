-- What stands between two places takes tokens, rule by rule.
use Rattle.std.proofs.Common.{◌≡◌, ◌+◌, ◌≤◌, Bool, List, [], ◌∷◌, length, refl, arith}
use Rattle.pie_lexer.specs.declared.token.Token.{Token}
use Rattle.pie_parser.specs.declared.kind.Kind.TheVariants as kinds
use Rattle.pie_parser.specs.declared.chain.Level.{Level}
use Rattle.pie_parser.specs.declared.chain.Level.TheVariants as levels
use Rattle.pie_parser.specs.declared.tree.CallKind.{CallKind}
use Rattle.pie_parser.specs.declared.tree.EffectKind.{EffectKind}
use Rattle.pie_parser.specs.declared.tree.Param.{Param}
use Rattle.pie_parser.specs.PlainTypes.{TypeTree}
use Rattle.pie_parser.specs.Plain.{Tree}
use Rattle.pie_parser.specs.At.{At}
use Rattle.pie_parser.specs.Places.{behind, passed}
use Rattle.pie_parser.specs.TypeGrammar as types
use Rattle.pie_parser.specs.TypeGrammar.{IsPlain}
use Rattle.pie_parser.specs.Grammar as grammar
use Rattle.pie_parser.specs.Grammar.{ByOfRequire, ByOfRead, IsChain, IsOperand, IsComparison, IsPrefixed, IsProjected, IsPrimary}
use Rattle.pie_parser.specs.FunctionGrammar as functions
use Rattle.pie_parser.specs.FunctionGrammar.{IsParam, MoreParams, IsParams}
use Rattle.pie_parser.proofs.Hits.{Short, Less, eats_less}
use Rattle.pie_parser.proofs.Shorter.{name_less, type_less, expr_less}

pub passes : (s : At) → Short s (passed s)
passes s = by_rest s.rest refl
  where
    by_rest : (ts : List Token) → s.rest ≡ ts → length (behind s ts).rest ≤ length s.rest
    by_rest [] e = omega arith
    by_rest (t ∷ ts) e = let l : length s.rest ≡ length (t ∷ ts) = (λ i. length (e i)) in omega arith

pub plain_less : {s m : At} {t : TypeTree} → IsPlain s m t → Less s m
plain_less x = type_less (types.plain x)

and_less : {r : Bool} {s m : At} {t : Tree} → IsChain levels.And r s m t → Less s m
and_less x = expr_less (grammar.expr (grammar.chained (grammar.of_or x) grammar.no_step refl))

pub comparison_less : {r : Bool} {s m : At} {t : Tree} → IsComparison r s m t → Less s m
comparison_less x = and_less (grammar.chained (grammar.of_and x) grammar.no_step refl)

pub sum_less : {r : Bool} {s m : At} {t : Tree} → IsChain levels.Sum r s m t → Less s m
sum_less x = comparison_less (grammar.alone x)

product_less : {r : Bool} {s m : At} {t : Tree} → IsChain levels.Product r s m t → Less s m
product_less x = sum_less (grammar.chained (grammar.of_sum x) grammar.no_step refl)

pub prefixed_less : {r : Bool} {s m : At} {t : Tree} → IsPrefixed r s m t → Less s m
prefixed_less x = product_less (grammar.chained (grammar.of_product x) grammar.no_step refl)

pub projected_less : {r : Bool} {s m : At} {t : Tree} → IsProjected r s m t → Less s m
projected_less x = prefixed_less (grammar.plain x)

pub primary_less : {r : Bool} {s m : At} {t : Tree} → IsPrimary r s m t → Less s m
primary_less x = projected_less (grammar.projected x grammar.no_index refl)

pub operand_less : {l : Level} {r : Bool} {s m : At} {t : Tree} → IsOperand l r s m t → Less s m
operand_less (grammar.of_or x) = and_less x
operand_less (grammar.of_and x) = comparison_less x
operand_less (grammar.of_sum x) = product_less x
operand_less (grammar.of_product x) = prefixed_less x

pub by_require_short : {r : Bool} {s m : At} {k : CallKind} → ByOfRequire r s m k → Short s m
by_require_short (grammar.nothing h) = omega arith
by_require_short {s = s} {m = m} (grammar.by_hash {a = a} q p) = omega
    (arith, eats_less kinds.By s a q (λ e. cc) (λ e. cc), eats_less kinds.Hash a m p (λ e. cc) (λ e. cc))
by_require_short {s = s} (grammar.passes_mark {a = a} {b = b} q p) = omega
    (arith, eats_less kinds.By s a q (λ e. cc) (λ e. cc), eats_less kinds.Mark a b p (λ e. cc) (λ e. cc))

pub by_read_short : {s m : At} {k : EffectKind} → ByOfRead s m k → Short s m
by_read_short grammar.nothing = omega arith
by_read_short {s = s} {m = m} (grammar.by_hash {a = a} q p) = omega
    (arith, eats_less kinds.By s a q (λ e. cc) (λ e. cc), eats_less kinds.Hash a m p (λ e. cc) (λ e. cc))
by_read_short {s = s} {m = m} (grammar.by_mark {a = a} q p) = omega
    (arith, eats_less kinds.By s a q (λ e. cc) (λ e. cc), eats_less kinds.Mark a m p (λ e. cc) (λ e. cc))
by_read_short (grammar.marked h) = omega arith

pub param_less : {s m : At} {p : Param} → IsParam s m p → Less s m
param_less {s = s} {m = m} (functions.param {a = a} {b = b} {n = n} i q t) = omega
    (arith, name_less s a n i, eats_less kinds.Colon a b q (λ e. cc) (λ e. cc), type_less t)

pub params_count : {s m : At} {ps : List Param} → MoreParams s m ps → length ps + length m.rest ≤ length s.rest
params_count functions.no_more = omega arith
params_count {s = s} {m = m} (functions.one_more {a = a} q x k) = omega (arith, eats_less kinds.Comma s a q (λ e. cc) (λ e. cc), param_less x, params_count k)

pub params_less : {s m : At} {ps : List Param} → IsParams s m ps → Less s m
params_less {s = s} {m = m} (functions.none {a = a} q p) = omega
    (arith, eats_less kinds.OpenRound s a q (λ e. cc) (λ e. cc), eats_less kinds.CloseRound a m p (λ e. cc) (λ e. cc))
params_less {s = s} {m = m} (functions.some {a = a} {c = c} q x k p) = omega
    (arith, eats_less kinds.OpenRound s a q (λ e. cc) (λ e. cc), param_less x, params_count k, eats_less kinds.CloseRound c m p (λ e. cc) (λ e. cc))
