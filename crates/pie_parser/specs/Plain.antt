-- Expressions as plain trees.
use Rattle.std.specs.Prelude.{ℕ, List}
use Rattle.pie_parser.specs.PlainTypes.{TypeTree}
use Rattle.pie_parser.specs.declared.tree.Name.{Name}
use Rattle.pie_parser.specs.declared.tree.Index.{Index}
use Rattle.pie_parser.specs.declared.tree.Literal.{Literal}
use Rattle.pie_parser.specs.declared.tree.Operator.{Operator}
use Rattle.pie_parser.specs.declared.tree.Comparison.{Comparison}
use Rattle.pie_parser.specs.declared.tree.Prefix.{Prefix}
use Rattle.pie_parser.specs.declared.tree.CallKind.{CallKind}
use Rattle.pie_parser.specs.declared.tree.EffectKind.{EffectKind}

mutual
  -- an expression and the bytes that it takes
  pub data Tree : Type 0 where
    TLiteral : ℕ → ℕ → Literal → Tree
    TName : ℕ → ℕ → List ℕ → Tree
    TNull : ℕ → ℕ → TypeTree → Tree
    TEmpty : ℕ → ℕ → TypeTree → Tree
    TChain : ℕ → ℕ → Tree → Steps → Tree
    TCompare : ℕ → ℕ → Comparison → Tree → Tree → Tree
    TPrefix : ℕ → ℕ → Prefix → Tree → Tree
    TProject : ℕ → ℕ → Tree → List Index → Tree
    TTuple : ℕ → ℕ → Trees → Tree
    TList : ℕ → ℕ → Trees → Tree
    TEach : ℕ → ℕ → Tree → Name → Tree → Tree
    TIf : ℕ → ℕ → Tree → BlockTree → ElseTree → Tree
    TCall : ℕ → ℕ → CallKind → Name → Trees → Tree
    TEffect : ℕ → ℕ → EffectKind → Tree → Tree
    TWrite : ℕ → ℕ → Tree → Tree → Tree
    TFail : ℕ → ℕ → TypeTree → Tree → Tree

  -- some expressions
  pub data Trees : Type 0 where
    Nil : Trees
    Cons : Tree → Trees → Trees

  -- the steps of a chain
  pub data Steps : Type 0 where
    NoStep : Steps
    AStep : Operator → Tree → Steps → Steps

  -- a block and the bytes that it takes
  pub data BlockTree : Type 0 where
    TBlock : ℕ → ℕ → LineTrees → LastTree → BlockTree

  -- the lines of a block
  pub data LineTrees : Type 0 where
    NoLine : LineTrees
    ValLine : ℕ → ℕ → Name → Tree → LineTrees → LineTrees
    ExprLine : Tree → LineTrees → LineTrees

  -- the expression that ends a block
  pub data LastTree : Type 0 where
    NoLast : LastTree
    ALast : Tree → LastTree

  -- what comes after `else`
  pub data ElseTree : Type 0 where
    NoElse : ElseTree
    AnElse : BlockTree → ElseTree
