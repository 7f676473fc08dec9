-- Lists of parts without their spans.
use Rattle.std.proofs.Common.{◌≡◌, ℕ, List, [], ◌∷◌, Option, Some, None, refl, sym, ap}
use Rattle.pie_parser.specs.declared.tree.Step.{Step}
use Rattle.pie_parser.specs.declared.tree.Line.{Line}
use Rattle.pie_parser.specs.declared.tree.Line.TheVariants as line_kinds
use Rattle.pie_parser.specs.declared.tree.Index.{Index}
use Rattle.pie_parser.specs.PlainTypes.{TypeTree, ConsT}
use Rattle.pie_parser.specs.Plain.{Tree, TChain, TProject, Cons, AStep, ValLine, ExprLine}
use Rattle.pie_parser.specs.TypeView.{types_of}
use Rattle.pie_parser.specs.TreeView.{trees_of, steps_of, lines_of, last_of}
use Rattle.pie_parser.specs.ExprReading.{chain, projection}
use Rattle.pie_spelling_laws.specs.Spans.{bare_name, bare_index, bare_indices, bare_type, bare_types, bare, bare_trees, bare_steps, bare_lines, bare_last}

abbrev pub type_list : List TypeTree → List TypeTree
type_list [] = []
type_list (t ∷ ts) = bare_type t ∷ type_list ts

pub types_bare : (ts : List TypeTree) → types_of (type_list ts) ≡ bare_types (types_of ts)
types_bare [] = refl
types_bare (t ∷ ts) = ap (ConsT (bare_type t)) (types_bare ts)

abbrev pub tree_list : List Tree → List Tree
tree_list [] = []
tree_list (t ∷ ts) = bare t ∷ tree_list ts

pub trees_bare : (ts : List Tree) → trees_of (tree_list ts) ≡ bare_trees (trees_of ts)
trees_bare [] = refl
trees_bare (t ∷ ts) = ap (Cons (bare t)) (trees_bare ts)

abbrev pub step_list : List Step → List Step
step_list [] = []
step_list (x ∷ xs) = record { operator = x.operator; operand = bare x.operand } ∷ step_list xs

pub steps_bare : (xs : List Step) → steps_of (step_list xs) ≡ bare_steps (steps_of xs)
steps_bare [] = refl
steps_bare (x ∷ xs) = ap (AStep x.operator (bare x.operand)) (steps_bare xs)

abbrev pub bare_line : Line → Line
bare_line (line_kinds.Val i j n t) = line_kinds.Val 0 0 (bare_name n) (bare t)
bare_line (line_kinds.Expr t) = line_kinds.Expr (bare t)

abbrev pub line_list : List Line → List Line
line_list [] = []
line_list (x ∷ xs) = bare_line x ∷ line_list xs

pub lines_bare : (xs : List Line) → lines_of (line_list xs) ≡ bare_lines (lines_of xs)
lines_bare [] = refl
lines_bare (line_kinds.Val i j n t ∷ xs) = ap (ValLine 0 0 (bare_name n) (bare t)) (lines_bare xs)
lines_bare (line_kinds.Expr t ∷ xs) = ap (ExprLine (bare t)) (lines_bare xs)

abbrev pub bare_option : Option Tree → Option Tree
bare_option None = None
bare_option (Some t) = Some (bare t)

pub last_bare : (u : Option Tree) → last_of (bare_option u) ≡ bare_last (last_of u)
last_bare None = refl
last_bare (Some t) = refl

pub chain_bare : (i j k : ℕ) (t : Tree) (xs : List Step) → k ≡ 0 → bare (chain i j t xs) ≡ chain k 0 (bare t) (step_list xs)
chain_bare i j k t [] e = refl
chain_bare i j k t (x ∷ xs) e = sym (λ l. TChain (e l) 0 (bare t) (AStep x.operator (bare x.operand) (steps_bare xs l)))

pub projection_bare : (i j k : ℕ) (t : Tree) (ns : List Index) → k ≡ 0 → bare (projection i j t ns) ≡ projection k 0 (bare t) (bare_indices ns)
projection_bare i j k t [] e = refl
projection_bare i j k t (x ∷ ns) e = sym (λ l. TProject (e l) 0 (bare t) (bare_index x ∷ bare_indices ns))
