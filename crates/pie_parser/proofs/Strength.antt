-- What may stand behind a part of an expression: the weaker a token, the more it leaves whole before it.
use Rattle.std.proofs.Common.{◌≡◌, ℕ, ◌<◌, ◌≤◌, Bool, true, false, Option, Some, None, refl, sym, subst, ap, ◌∙◌, arith, rules}
use denote.Enum.Bare.{same_true, true_same, false_same}
use Rattle.pie_parser.specs.contracts.kind.Kind.{the_type}
use Rattle.pie_parser.specs.declared.kind.Kind.{Kind}
use Rattle.pie_parser.specs.declared.kind.Kind.TheVariants as kinds
use Rattle.pie_parser.specs.declared.chain.Level.{Level}
use Rattle.pie_parser.specs.declared.chain.Level.TheVariants as levels
use Rattle.pie_parser.specs.declared.tree.Operator.{Operator}
use Rattle.pie_parser.specs.declared.tree.Comparison.{Comparison}
use Rattle.pie_parser.specs.declared.tree.Prefix.{Prefix}
use Rattle.pie_parser.specs.Kinds.{is}
use Rattle.pie_parser.specs.Tests.{operator_at, comparison_at}
use Rattle.pie_parser.specs.At.{At}
use Rattle.pie_parser.specs.Places.{next}

abbrev pub strength : Kind → ℕ
strength kinds.CloseRound = 0
strength kinds.CloseSquare = 0
strength kinds.CloseBrace = 0
strength kinds.Comma = 0
strength kinds.Semicolon = 0
strength kinds.OpenBrace = 0
strength kinds.For = 0
strength kinds.By = 0
strength kinds.Marked = 0
strength kinds.Or = 1
strength kinds.And = 2
strength kinds.Equal = 3
strength kinds.NotEqual = 3
strength kinds.Less = 3
strength kinds.LessEqual = 3
strength kinds.Greater = 3
strength kinds.GreaterEqual = 3
strength kinds.Plus = 4
strength kinds.Minus = 4
strength kinds.Star = 5
strength kinds.Slash = 5
strength kinds.Percent = 5
strength kinds.Dot = 6
strength k = 7

-- a part that is read up to tokens of this strength ends here
abbrev pub Ends : ℕ → At → Type 0
Ends n m = strength (next m) < n

-- the strength of a level's operators
abbrev pub level_of : Level → ℕ
level_of levels.Or = 1
level_of levels.And = 2
level_of levels.Sum = 4
level_of levels.Product = 5

pub ends_at : (n : ℕ) (k : Kind) (m : At) → strength k < n → next m ≡ k → Ends n m
ends_at n k m h e = subst (λ j. strength j < n) (sym e) h

pub is_one : (k j : Kind) → k ≡ j → is k j ≡ true
is_one k j e = true_same the_type k j e

pub is_not : (n : ℕ) (k j : Kind) → strength k < n → n ≤ strength j → is k j ≡ false
is_not n k j h l = false_same the_type (search rules) k j (λ e. let z = ap strength e in absurd (omega arith))

or_strength : (k : Kind) (x : Operator) → operator_at levels.Or k ≡ Some x → strength k ≡ 1
or_strength kinds.Or x h = refl
or_strength k x h = cc

and_strength : (k : Kind) (x : Operator) → operator_at levels.And k ≡ Some x → strength k ≡ 2
and_strength kinds.And x h = refl
and_strength k x h = cc

sum_strength : (k : Kind) (x : Operator) → operator_at levels.Sum k ≡ Some x → strength k ≡ 4
sum_strength kinds.Plus x h = refl
sum_strength kinds.Minus x h = refl
sum_strength k x h = cc

product_strength : (k : Kind) (x : Operator) → operator_at levels.Product k ≡ Some x → strength k ≡ 5
product_strength kinds.Star x h = refl
product_strength kinds.Slash x h = refl
product_strength kinds.Percent x h = refl
product_strength k x h = cc

pub operator_strength : (l : Level) (k : Kind) (x : Operator) → operator_at l k ≡ Some x → strength k ≡ level_of l
operator_strength levels.Or k x h = or_strength k x h
operator_strength levels.And k x h = and_strength k x h
operator_strength levels.Sum k x h = sum_strength k x h
operator_strength levels.Product k x h = product_strength k x h

pub comparison_strength : (k : Kind) (x : Comparison) → comparison_at k ≡ Some x → strength k ≡ 3
comparison_strength kinds.Equal x h = refl
comparison_strength kinds.NotEqual x h = refl
comparison_strength kinds.Less x h = refl
comparison_strength kinds.LessEqual x h = refl
comparison_strength kinds.Greater x h = refl
comparison_strength kinds.GreaterEqual x h = refl
comparison_strength k x h = cc

pub no_operator : (l : Level) (k : Kind) → strength k < level_of l → operator_at l k ≡ None
no_operator l k h = by_option (operator_at l k) refl
  where
    by_option : (o : Option Operator) → operator_at l k ≡ o → operator_at l k ≡ None
    by_option None e = e
    by_option (Some x) e = let z = operator_strength l k x e in absurd (omega arith)

pub no_comparison : (k : Kind) → strength k < 3 → comparison_at k ≡ None
no_comparison k h = by_option (comparison_at k) refl
  where
    by_option : (o : Option Comparison) → comparison_at k ≡ o → comparison_at k ≡ None
    by_option None e = e
    by_option (Some x) e = let z = comparison_strength k x e in absurd (omega arith)
