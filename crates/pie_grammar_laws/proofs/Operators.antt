-- The tokens of keywords and operators are tokens and no brackets.
use Rattle.std.proofs.Common.{◌≡◌, true, Some, refl}
use Rattle.pie_parser.specs.declared.kind.Kind.{Kind}
use Rattle.pie_parser.specs.declared.kind.Kind.TheVariants as kinds
use Rattle.pie_parser.specs.declared.chain.Level.{Level}
use Rattle.pie_parser.specs.declared.chain.Level.TheVariants as levels
use Rattle.pie_parser.specs.declared.type_tree.PlainType.{PlainType}
use Rattle.pie_parser.specs.declared.tree.Operator.{Operator}
use Rattle.pie_parser.specs.declared.tree.Comparison.{Comparison}
use Rattle.pie_parser.specs.declared.tree.Prefix.{Prefix}
use Rattle.pie_parser.specs.declared.tree.EffectKind.{EffectKind}
use Rattle.pie_parser.specs.Tests.{operator_at, comparison_at, prefix_at, effect_at}
use Rattle.pie_parser.specs.TypeReading.{plain_at}
use Rattle.pie_grammar_laws.proofs.Tokens.{is_plain, is_token, plain_token}

pub keyword_plain : (k : Kind) (p : PlainType) → plain_at k ≡ Some p → is_plain k ≡ true
keyword_plain kinds.UnitWord p h = refl
keyword_plain kinds.BoolWord p h = refl
keyword_plain kinds.IntWord p h = refl
keyword_plain kinds.TextWord p h = refl
keyword_plain kinds.Path p h = refl
keyword_plain k p h = cc

pub effect_plain : (k : Kind) (x : EffectKind) → effect_at k ≡ Some x → is_plain k ≡ true
effect_plain kinds.Path x h = refl
effect_plain kinds.Exists x h = refl
effect_plain kinds.Digest x h = refl
effect_plain kinds.List x h = refl
effect_plain k x h = cc

pub prefix_plain : (k : Kind) (x : Prefix) → prefix_at k ≡ Some x → is_plain k ≡ true
prefix_plain kinds.Not x h = refl
prefix_plain kinds.Minus x h = refl
prefix_plain k x h = cc

pub comparison_plain : (k : Kind) (x : Comparison) → comparison_at k ≡ Some x → is_plain k ≡ true
comparison_plain kinds.Equal x h = refl
comparison_plain kinds.NotEqual x h = refl
comparison_plain kinds.Less x h = refl
comparison_plain kinds.LessEqual x h = refl
comparison_plain kinds.Greater x h = refl
comparison_plain kinds.GreaterEqual x h = refl
comparison_plain k x h = cc

or_plain : (k : Kind) (x : Operator) → operator_at levels.Or k ≡ Some x → is_plain k ≡ true
or_plain kinds.Or x h = refl
or_plain k x h = cc

and_plain : (k : Kind) (x : Operator) → operator_at levels.And k ≡ Some x → is_plain k ≡ true
and_plain kinds.And x h = refl
and_plain k x h = cc

sum_plain : (k : Kind) (x : Operator) → operator_at levels.Sum k ≡ Some x → is_plain k ≡ true
sum_plain kinds.Plus x h = refl
sum_plain kinds.Minus x h = refl
sum_plain k x h = cc

product_plain : (k : Kind) (x : Operator) → operator_at levels.Product k ≡ Some x → is_plain k ≡ true
product_plain kinds.Star x h = refl
product_plain kinds.Slash x h = refl
product_plain kinds.Percent x h = refl
product_plain k x h = cc

pub operator_plain : (l : Level) (k : Kind) (x : Operator) → operator_at l k ≡ Some x → is_plain k ≡ true
operator_plain levels.Or k x h = or_plain k x h
operator_plain levels.And k x h = and_plain k x h
operator_plain levels.Sum k x h = sum_plain k x h
operator_plain levels.Product k x h = product_plain k x h

pub keyword_token : (k : Kind) (p : PlainType) → plain_at k ≡ Some p → is_token k ≡ true
keyword_token k p h = plain_token k (keyword_plain k p h)

pub effect_token : (k : Kind) (x : EffectKind) → effect_at k ≡ Some x → is_token k ≡ true
effect_token k x h = plain_token k (effect_plain k x h)

pub prefix_token : (k : Kind) (x : Prefix) → prefix_at k ≡ Some x → is_token k ≡ true
prefix_token k x h = plain_token k (prefix_plain k x h)

pub comparison_token : (k : Kind) (x : Comparison) → comparison_at k ≡ Some x → is_token k ≡ true
comparison_token k x h = plain_token k (comparison_plain k x h)

pub operator_token : (l : Level) (k : Kind) (x : Operator) → operator_at l k ≡ Some x → is_token k ≡ true
operator_token l k x h = plain_token k (operator_plain l k x h)
