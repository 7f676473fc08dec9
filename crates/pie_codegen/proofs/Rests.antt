-- One turn of each loop over the parts of a form, on the definitions of where code ends.
use Rattle.std.proofs.Common.{◌≡◌, ℕ, ◌+◌, ◌<◌, ◌≤◌, List, [], ◌∷◌, length, get_or, drop, ap, ◌∙◌, refl, arith}
use Rattle.std.proofs.lemmas.List.{drop_more}
use Rattle.pie_parser.specs.Plain.{Tree, LineTrees, NoLine}
use Rattle.pie_parser.specs.declared.tree.Index.{Index}
use Rattle.pie_parser.specs.declared.tree.Step.{Step}
use Rattle.pie_parser.specs.declared.tree.Line.{Line}
use Rattle.pie_parser.specs.declared.tree.Line.TheVariants as lines
use Rattle.pie_parser.specs.TreeView.{trees_of, steps_of, lines_of, line_before, mass, trees_mass, steps_mass, lines_mass}
use Rattle.pie_types.proofs.Left as left
use Rattle.pie_types.proofs.Left.{trees_left, steps_left, lines_left, line_mass}
use Rattle.pie_codegen.specs.declared.spot.Spot.{Spot}
use Rattle.pie_codegen.specs.Spots.{next, after, after_indices, after_either, after_both, after_steps, after_items, after_args, after_lines}

-- each part weighs less than all of them

pub tree_mass_at : (es : List Tree) (i : ℕ) (d : Tree) → i < length es → mass (get_or es i d) + 1 ≤ trees_mass (trees_of es)
tree_mass_at = left.tree_mass_at

pub step_mass_at : (ss : List Step) (i : ℕ) (d : Step) → i < length ss → mass (get_or ss i d).operand + 1 ≤ steps_mass (steps_of ss)
step_mass_at = left.step_mass_at

pub line_mass_at : (ls : List Line) (i : ℕ) (d : Line) → i < length ls → line_mass (get_or ls i d) ≤ lines_mass (lines_of ls)
line_mass_at = left.line_mass_at

-- one turn

pub either_turn : (ss : List Step) (i : ℕ) (s : Step) (at : Spot) → i < length ss → s ≡ get_or ss i s
    → after_either (steps_of (drop i ss)) at ≡ after_either (steps_of (drop (i + 1) ss)) (after s.operand (next (next at)))
either_turn ss i s at h p = ap (λ rest. after_either rest at) (steps_left ss i s h p)

pub both_turn : (ss : List Step) (i : ℕ) (s : Step) (at : Spot) → i < length ss → s ≡ get_or ss i s
    → after_both (steps_of (drop i ss)) at ≡ after_both (steps_of (drop (i + 1) ss)) (after s.operand (next at))
both_turn ss i s at h p = ap (λ rest. after_both rest at) (steps_left ss i s h p)

pub steps_turn : (ss : List Step) (i : ℕ) (s : Step) (at : Spot) → i < length ss → s ≡ get_or ss i s
    → after_steps (steps_of (drop i ss)) at ≡ after_steps (steps_of (drop (i + 1) ss)) (next (after s.operand at))
steps_turn ss i s at h p = ap (λ rest. after_steps rest at) (steps_left ss i s h p)

pub items_turn : (es : List Tree) (i : ℕ) (e : Tree) (at : Spot) → i < length es → e ≡ get_or es i e
    → after_items (trees_of (drop i es)) at ≡ after_items (trees_of (drop (i + 1) es)) (next (after e at))
items_turn es i e at h p = ap (λ rest. after_items rest at) (trees_left es i e h p)

pub args_turn : (es : List Tree) (i : ℕ) (e : Tree) (at : Spot) → i < length es → e ≡ get_or es i e
    → after_args (trees_of (drop i es)) at ≡ after_args (trees_of (drop (i + 1) es)) (after e at)
args_turn es i e at h p = ap (λ rest. after_args rest at) (trees_left es i e h p)

pub indices_turn : (ns : List Index) (i : ℕ) (at : Spot) → i < length ns → after_indices (drop i ns) at ≡ after_indices (drop (i + 1) ns) (next at)
indices_turn [] i at h = absurd (omega arith)
indices_turn (n ∷ ns) i at h = ap (λ rest. after_indices rest at) (drop_more (n ∷ ns) i n h)

line_on : (l : Line) (rest : LineTrees) (at : Spot) → after_lines (line_before l rest) at ≡ after_lines rest (after_lines (line_before l NoLine) at)
line_on (lines.Val i j n e) rest at = refl
line_on (lines.Expr e) rest at = refl

pub lines_turn : (ls : List Line) (i : ℕ) (l : Line) (at : Spot) → i < length ls → l ≡ get_or ls i l
    → after_lines (lines_of (drop i ls)) at ≡ after_lines (lines_of (drop (i + 1) ls)) (after_lines (line_before l NoLine) at)
lines_turn ls i l at h p = ap (λ rest. after_lines rest at) (lines_left ls i l h p) ∙ line_on l (lines_of (drop (i + 1) ls)) at
