-- Each part of an expression is smaller than the expression.
use Rattle.std.specs.Prelude.{ℕ, ◌+◌, ◌≤◌, max, List, [], ◌∷◌, Option, Some, None, Vec}
use Rattle.std.specs.Global.{Global}
use Rattle.std.proofs.Common.{arith}
use denote.Param.Weighed.{most, w_this}
use Rattle.pie_parser.specs.Plain.{Tree}
use Rattle.pie_parser.specs.declared.tree.Block.{Block}
use Rattle.pie_parser.specs.declared.tree.Line.{Line}
use Rattle.pie_parser.specs.declared.tree.Line.TheVariants as lines
use Rattle.pie_parser.specs.declared.tree.Step.{Step}
use Rattle.pie_parser.specs.declared.tree.Form.{Form}
use Rattle.pie_parser.specs.declared.tree.Form.TheVariants as forms
use Rattle.pie_parser.specs.declared.tree.Expr.TheDeep.{deep-Form, deep-Block, deep-Line, deep-Step}
use Rattle.pie_parser.specs.TreeView.{trees_of, steps_of, lines_of, last_of, block_of, tree_of, mass, trees_mass, steps_mass, block_mass, lines_mass, last_mass}
use Rattle.pie_parser.specs.TreeView.{else_mass}

most_trees : (ts : List Tree) → most (λ t. mass t + 1) ts ≤ trees_mass (trees_of ts) + 1
most_trees [] = omega arith
most_trees (t ∷ ts) = omega (arith, most_trees ts)

step_deep : (s : Step) → deep-Step s ≤ mass s.operand + 1
step_deep s = omega arith

most_steps : (ss : List Step) → most ((w_this).weight Step deep-Step) ss ≤ steps_mass (steps_of ss) + 2
most_steps [] = omega arith
most_steps (s ∷ ss) = omega (arith, step_deep s, most_steps ss)

most_lines : (ls : List Line) → most ((w_this).weight Line deep-Line) ls ≤ lines_mass (lines_of ls) + 2
most_lines [] = omega arith
most_lines (lines.Val i j n t ∷ ls) = omega (arith, most_lines ls)
most_lines (lines.Expr t ∷ ls) = omega (arith, most_lines ls)

by_last : (i j : ℕ) (ls : Vec Line Global) (l : Option Tree)
    → deep-Block (record { at = i; end = j; lines = ls; last = l }) ≤ lines_mass (lines_of ls.items) + last_mass (last_of l) + 2
by_last i j ls None = omega (arith, most_lines ls.items)
by_last i j ls (Some t) = omega (arith, most_lines ls.items)

block_deep : (b : Block) → deep-Block b ≤ block_mass (block_of b) + 1
block_deep b = omega (arith, by_last b.at b.end b.lines b.last)

pub deep_le : (i j : ℕ) (f : Form) → max (deep-Form f) 0 ≤ mass (tree_of i j f)
deep_le i j (forms.Literal l) = omega arith
deep_le i j (forms.Name n) = omega arith
deep_le i j (forms.Null t) = omega arith
deep_le i j (forms.Empty t) = omega arith
deep_le i j (forms.Chain a ss) = omega (arith, most_steps ss.items)
deep_le i j (forms.Compare c a b) = omega arith
deep_le i j (forms.Prefix p a) = omega arith
deep_le i j (forms.Project a is) = omega arith
deep_le i j (forms.Tuple ts) = omega (arith, most_trees ts.items)
deep_le i j (forms.List ts) = omega (arith, most_trees ts.items)
deep_le i j (forms.Each a n b) = omega arith
deep_le i j (forms.If a b None) = omega (arith, block_deep b.value)
deep_le i j (forms.If a b (Some o)) = omega (arith, block_deep b.value, block_deep o.value)
deep_le i j (forms.Call k n ts) = omega (arith, most_trees ts.items)
deep_le i j (forms.Effect k a) = omega arith
deep_le i j (forms.Write a b) = omega arith
deep_le i j (forms.Fail t a) = omega arith
