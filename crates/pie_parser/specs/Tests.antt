-- Which operator or keyword a token is.
use Rattle.std.specs.Prelude.{Option, Some, None}
use Rattle.pie_parser.specs.declared.kind.Kind.{Kind}
use Rattle.pie_parser.specs.declared.kind.Kind.TheVariants as kinds
use Rattle.pie_parser.specs.declared.chain.Level.{Level}
use Rattle.pie_parser.specs.declared.chain.Level.TheVariants as levels
use Rattle.pie_parser.specs.declared.tree.Operator.{Operator}
use Rattle.pie_parser.specs.declared.tree.Operator.TheVariants as operators
use Rattle.pie_parser.specs.declared.tree.Comparison.{Comparison}
use Rattle.pie_parser.specs.declared.tree.Comparison.TheVariants as comparisons
use Rattle.pie_parser.specs.declared.tree.Prefix.{Prefix}
use Rattle.pie_parser.specs.declared.tree.Prefix.TheVariants as prefixes
use Rattle.pie_parser.specs.declared.tree.EffectKind.{EffectKind}
use Rattle.pie_parser.specs.declared.tree.EffectKind.TheVariants as effects

-- the operator of a level that is this token
abbrev pub operator_at : Level → Kind → Option Operator
operator_at levels.Or kinds.Or = Some operators.Or
operator_at levels.And kinds.And = Some operators.And
operator_at levels.Sum kinds.Plus = Some operators.Plus
operator_at levels.Sum kinds.Minus = Some operators.Minus
operator_at levels.Product kinds.Star = Some operators.Times
operator_at levels.Product kinds.Slash = Some operators.Divide
operator_at levels.Product kinds.Percent = Some operators.Remainder
operator_at l k = None

-- the comparison that is this token
abbrev pub comparison_at : Kind → Option Comparison
comparison_at kinds.Equal = Some comparisons.Equal
comparison_at kinds.NotEqual = Some comparisons.NotEqual
comparison_at kinds.Less = Some comparisons.Less
comparison_at kinds.LessEqual = Some comparisons.LessEqual
comparison_at kinds.Greater = Some comparisons.Greater
comparison_at kinds.GreaterEqual = Some comparisons.GreaterEqual
comparison_at k = None

-- the prefix operator that is this token
abbrev pub prefix_at : Kind → Option Prefix
prefix_at kinds.Not = Some prefixes.Not
prefix_at kinds.Minus = Some prefixes.Minus
prefix_at k = None

-- the keyword before one expression that is this token
abbrev pub effect_at : Kind → Option EffectKind
effect_at kinds.Path = Some effects.Path
effect_at kinds.Exists = Some effects.Exists
effect_at kinds.Digest = Some effects.Digest
effect_at kinds.List = Some effects.List
effect_at k = None
