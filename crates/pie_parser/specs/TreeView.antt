-- The plain tree of an expression.
use Rattle.std.specs.Prelude.{ℕ, ◌+◌, List, [], ◌∷◌, Option, Some, None}
use Rattle.pie_parser.specs.Plain.{Tree, TLiteral, TName, TNull, TEmpty, TChain, TCompare, TPrefix, TProject, TTuple, TList, TEach, TIf, TCall, TEffect, TWrite}
use Rattle.pie_parser.specs.Plain.{TFail, Trees, Nil, Cons, Steps, NoStep, AStep, BlockTree, TBlock, LineTrees, NoLine, ValLine, ExprLine, LastTree, NoLast}
use Rattle.pie_parser.specs.Plain.{ALast, ElseTree, NoElse, AnElse}
use Rattle.pie_parser.specs.declared.tree.Block.{Block}
use Rattle.pie_parser.specs.declared.tree.Line.{Line}
use Rattle.pie_parser.specs.declared.tree.Line.TheVariants as lines
use Rattle.pie_parser.specs.declared.tree.Step.{Step}
use Rattle.pie_parser.specs.declared.tree.Form.{Form}
use Rattle.pie_parser.specs.declared.tree.Form.TheVariants as forms

-- a list of expressions as one tree
abbrev pub trees_of : List Tree → Trees
trees_of [] = Nil
trees_of (t ∷ ts) = Cons t (trees_of ts)

-- the steps of a chain as one tree
abbrev pub steps_of : List Step → Steps
steps_of [] = NoStep
steps_of (s ∷ ss) = AStep s.operator s.operand (steps_of ss)

-- a line before others
abbrev pub line_before : Line → LineTrees → LineTrees
line_before (lines.Val i j name t) ls = ValLine i j name t ls
line_before (lines.Expr t) ls = ExprLine t ls

-- the lines of a block as one tree
abbrev pub lines_of : List Line → LineTrees
lines_of [] = NoLine
lines_of (l ∷ ls) = line_before l (lines_of ls)

-- the expression that ends a block
abbrev pub last_of : Option Tree → LastTree
last_of (Some t) = ALast t
last_of None = NoLast

-- the tree of a block
abbrev pub block_of : Block → BlockTree
block_of b = TBlock b.at b.end (lines_of b.lines.items) (last_of b.last)

-- the tree of an expression at these places
abbrev pub tree_of : ℕ → ℕ → Form → Tree
tree_of i j (forms.Literal l) = TLiteral i j l
tree_of i j (forms.Name n) = TName i j n
tree_of i j (forms.Null t) = TNull i j t
tree_of i j (forms.Empty t) = TEmpty i j t
tree_of i j (forms.Chain a ss) = TChain i j a.value (steps_of ss.items)
tree_of i j (forms.Compare c a b) = TCompare i j c a.value b.value
tree_of i j (forms.Prefix p a) = TPrefix i j p a.value
tree_of i j (forms.Project a is) = TProject i j a.value is.items
tree_of i j (forms.Tuple ts) = TTuple i j (trees_of ts.items)
tree_of i j (forms.List ts) = TList i j (trees_of ts.items)
tree_of i j (forms.Each a n b) = TEach i j a.value n b.value
tree_of i j (forms.If a b None) = TIf i j a.value (block_of b.value) NoElse
tree_of i j (forms.If a b (Some o)) = TIf i j a.value (block_of b.value) (AnElse (block_of o.value))
tree_of i j (forms.Call k n ts) = TCall i j k n (trees_of ts.items)
tree_of i j (forms.Effect k a) = TEffect i j k a.value
tree_of i j (forms.Write a b) = TWrite i j a.value b.value
tree_of i j (forms.Fail t a) = TFail i j t a.value

-- how many nodes a tree has
abbrev mutual
  pub mass : Tree → ℕ
  mass (TLiteral i j l) = 1
  mass (TName i j n) = 1
  mass (TNull i j t) = 1
  mass (TEmpty i j t) = 1
  mass (TChain i j a ss) = mass a + steps_mass ss + 2
  mass (TCompare i j c a b) = mass a + mass b + 2
  mass (TPrefix i j p a) = mass a + 2
  mass (TProject i j a is) = mass a + 2
  mass (TTuple i j ts) = trees_mass ts + 2
  mass (TList i j ts) = trees_mass ts + 2
  mass (TEach i j a n b) = mass a + mass b + 2
  mass (TIf i j a b o) = mass a + block_mass b + else_mass o + 2
  mass (TCall i j k n ts) = trees_mass ts + 2
  mass (TEffect i j k a) = mass a + 2
  mass (TWrite i j a b) = mass a + mass b + 2
  mass (TFail i j t a) = mass a + 2

  pub trees_mass : Trees → ℕ
  trees_mass Nil = 0
  trees_mass (Cons t ts) = mass t + trees_mass ts + 1

  pub steps_mass : Steps → ℕ
  steps_mass NoStep = 0
  steps_mass (AStep o t ss) = mass t + steps_mass ss + 1

  pub block_mass : BlockTree → ℕ
  block_mass (TBlock i j ls l) = lines_mass ls + last_mass l + 1

  pub lines_mass : LineTrees → ℕ
  lines_mass NoLine = 0
  lines_mass (ValLine i j n t ls) = mass t + lines_mass ls + 1
  lines_mass (ExprLine t ls) = mass t + lines_mass ls + 1

  pub last_mass : LastTree → ℕ
  last_mass NoLast = 0
  last_mass (ALast t) = mass t + 1

  pub else_mass : ElseTree → ℕ
  else_mass NoElse = 0
  else_mass (AnElse b) = block_mass b + 1
