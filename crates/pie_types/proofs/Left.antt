-- What is left of lists from a place on: the part there, and the rest.
use Rattle.std.proofs.Common.{◌≡◌, ℕ, zero, suc, ◌+◌, ◌<◌, ◌≤◌, List, [], ◌∷◌, length, get_or, drop, ap, sym, ◌∙◌, refl, arith}
use Rattle.std.proofs.lemmas.List.{drop_more}
use Rattle.std.specs.Prelude.{take}
use Rattle.pie_parser.specs.PlainTypes.{TypeTree, ConsT}
use Rattle.pie_parser.specs.TypeView.{types_of, type_mass, types_mass}
use Rattle.pie_parser.specs.Plain.{Tree, Cons, AStep, NoLine}
use Rattle.pie_parser.specs.declared.tree.Step.{Step}
use Rattle.pie_parser.specs.declared.tree.Line.{Line}
use Rattle.pie_parser.specs.declared.tree.Line.TheVariants as lines
use Rattle.pie_parser.specs.TreeView.{trees_of, steps_of, lines_of, line_before, mass, trees_mass, steps_mass, lines_mass}
use Rattle.pie_types.specs.declared.scope.Bound.{Bound}
use Rattle.pie_types.specs.inner.Shown.{entry_of, entries_of}
use Rattle.pie_types.specs.Scope.{Entry}
use Rattle.pie_types.specs.Checking.{count}

pub list_left : {X : Type 0} (xs : List X) (i : ℕ) (x : X) → i < length xs → x ≡ get_or xs i x → drop i xs ≡ x ∷ drop (i + 1) xs
list_left {X} xs i x h e = drop_more xs i x h ∙ ap (λ (y : X). y ∷ drop (i + 1) xs) (sym e)

pub trees_left : (es : List Tree) (i : ℕ) (e : Tree) → i < length es → e ≡ get_or es i e → trees_of (drop i es) ≡ Cons e (trees_of (drop (i + 1) es))
trees_left es i e h p = ap trees_of (list_left es i e h p)

pub steps_left : (ss : List Step) (i : ℕ) (s : Step) → i < length ss → s ≡ get_or ss i s
    → steps_of (drop i ss) ≡ AStep s.operator s.operand (steps_of (drop (i + 1) ss))
steps_left ss i s h p = ap steps_of (list_left ss i s h p)

pub lines_left : (ls : List Line) (i : ℕ) (l : Line) → i < length ls → l ≡ get_or ls i l → lines_of (drop i ls) ≡ line_before l (lines_of (drop (i + 1) ls))
lines_left ls i l h p = ap lines_of (list_left ls i l h p)

pub types_left : (ts : List TypeTree) (i : ℕ) (t : TypeTree) → i < length ts → t ≡ get_or ts i t → types_of (drop i ts) ≡ ConsT t (types_of (drop (i + 1) ts))
types_left ts i t h p = ap types_of (list_left ts i t h p)

pub entries_left : (bs : List Bound) (i : ℕ) (b : Bound) → i < length bs → b ≡ get_or bs i b
    → entries_of (drop i bs) ≡ entry_of b ∷ entries_of (drop (i + 1) bs)
entries_left bs i b h p = ap entries_of (list_left bs i b h p)

-- each part weighs less than all of them

pub tree_mass_at : (es : List Tree) (i : ℕ) (d : Tree) → i < length es → mass (get_or es i d) + 1 ≤ trees_mass (trees_of es)
tree_mass_at [] i d h = absurd (omega arith)
tree_mass_at (e ∷ es) zero d h = omega arith
tree_mass_at (e ∷ es) (suc i) d h = omega (arith, tree_mass_at es i d (omega arith))

pub step_mass_at : (ss : List Step) (i : ℕ) (d : Step) → i < length ss → mass (get_or ss i d).operand + 1 ≤ steps_mass (steps_of ss)
step_mass_at [] i d h = absurd (omega arith)
step_mass_at (s ∷ ss) zero d h = omega arith
step_mass_at (s ∷ ss) (suc i) d h = omega (arith, step_mass_at ss i d (omega arith))

pub type_mass_at : (ts : List TypeTree) (i : ℕ) (d : TypeTree) → i < length ts → type_mass (get_or ts i d) + 1 ≤ types_mass (types_of ts)
type_mass_at [] i d h = absurd (omega arith)
type_mass_at (t ∷ ts) zero d h = omega arith
type_mass_at (t ∷ ts) (suc i) d h = omega (arith, type_mass_at ts i d (omega arith))

-- how much a line weighs
abbrev pub line_mass : Line → ℕ
line_mass (lines.Val i j n e) = mass e + 1
line_mass (lines.Expr e) = mass e + 1

pub line_before_mass : (l : Line) → lines_mass (line_before l NoLine) ≡ line_mass l
line_before_mass (lines.Val i j n e) = omega arith
line_before_mass (lines.Expr e) = omega arith

pub line_mass_at : (ls : List Line) (i : ℕ) (d : Line) → i < length ls → line_mass (get_or ls i d) ≤ lines_mass (lines_of ls)
line_mass_at [] i d h = absurd (omega arith)
line_mass_at (lines.Val a b n e ∷ ls) zero d h = omega arith
line_mass_at (lines.Expr e ∷ ls) zero d h = omega arith
line_mass_at (lines.Val a b n e ∷ ls) (suc i) d h = omega (arith, line_mass_at ls i d (omega arith))
line_mass_at (lines.Expr e ∷ ls) (suc i) d h = omega (arith, line_mass_at ls i d (omega arith))

pub count_is : (es : List Tree) → count (trees_of es) ≡ length es
count_is [] = refl
count_is (e ∷ es) = omega (arith, count_is es)

pub entries_take : (n : ℕ) (bs : List Bound) → take n (entries_of bs) ≡ entries_of (take n bs)
entries_take zero bs = refl
entries_take (suc n) [] = refl
entries_take (suc n) (b ∷ bs) = ap (λ (es : List Entry). entry_of b ∷ es) (entries_take n bs)
