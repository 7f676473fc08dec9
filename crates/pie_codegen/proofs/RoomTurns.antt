-- One turn of each loop over the parts of a form, on the definitions of how many slots they use.
use Rattle.std.proofs.Common.{◌≡◌, ℕ, zero, suc, ◌+◌, ◌<◌, ◌≤◌, List, [], ◌∷◌, length, get_or, drop, ap, ◌∙◌, arith}
use Rattle.std.specs.Prelude.{max}
use Rattle.pie_parser.specs.Plain.{Tree, LineTrees}
use Rattle.pie_parser.specs.declared.tree.Step.{Step}
use Rattle.pie_parser.specs.declared.tree.Line.{Line}
use Rattle.pie_parser.specs.declared.tree.Line.TheVariants as lines
use Rattle.pie_parser.specs.TreeView.{trees_of, steps_of, lines_of, line_before, mass, lines_mass}
use Rattle.pie_types.proofs.Left.{trees_left, steps_left, lines_left}
use Rattle.pie_codegen.specs.Lines.{value_of, names_in}
use Rattle.pie_codegen.specs.Rooms.{room_of, steps_room, trees_room, lines_room}

assoc : (a b c : ℕ) → max a (max b c) ≡ max (max a b) c
assoc a b c = omega arith

pub steps_turn : (ss : List Step) (i : ℕ) (s : Step) (most : ℕ) → i < length ss → s ≡ get_or ss i s
    → max most (steps_room (steps_of (drop i ss))) ≡ max (max most (room_of s.operand)) (steps_room (steps_of (drop (i + 1) ss)))
steps_turn ss i s most h p = ap (λ rest. max most (steps_room rest)) (steps_left ss i s h p)
    ∙ assoc most (room_of s.operand) (steps_room (steps_of (drop (i + 1) ss)))

pub items_turn : (es : List Tree) (i : ℕ) (e : Tree) (most : ℕ) → i < length es → e ≡ get_or es i e
    → max most (trees_room (trees_of (drop i es))) ≡ max (max most (room_of e)) (trees_room (trees_of (drop (i + 1) es)))
items_turn es i e most h p = ap (λ rest. max most (trees_room rest)) (trees_left es i e h p)
    ∙ assoc most (room_of e) (trees_room (trees_of (drop (i + 1) es)))

val_room : (m v r k : ℕ) → max m (v + max r (1 + k)) ≡ max (max m (v + r)) (v + 1 + k)
val_room m v r k = omega arith

expr_room : (m v r k : ℕ) → max m (v + max r k) ≡ max (max m (v + r)) (v + 0 + k)
expr_room m v r k = omega arith

line_on : (l : Line) (rest : LineTrees) (most names last : ℕ)
    → max most (names + lines_room (line_before l rest) last) ≡ max (max most (names + room_of (value_of l))) (names + names_in l + lines_room rest last)
line_on (lines.Val i j n e) rest most names last = val_room most names (room_of e) (lines_room rest last)
line_on (lines.Expr e) rest most names last = expr_room most names (room_of e) (lines_room rest last)

pub lines_turn : (ls : List Line) (i : ℕ) (l : Line) (most names last : ℕ) → i < length ls → l ≡ get_or ls i l
    → max most (names + lines_room (lines_of (drop i ls)) last)
    ≡ max (max most (names + room_of (value_of l))) (names + names_in l + lines_room (lines_of (drop (i + 1) ls)) last)
lines_turn ls i l most names last h p = ap (λ rest. max most (names + lines_room rest last)) (lines_left ls i l h p)
    ∙ line_on l (lines_of (drop (i + 1) ls)) most names last

pub value_mass_at : (ls : List Line) (i : ℕ) (d : Line) → i < length ls → mass (value_of (get_or ls i d)) + 1 ≤ lines_mass (lines_of ls)
value_mass_at [] i d h = absurd (omega arith)
value_mass_at (lines.Val a b n e ∷ ls) zero d h = omega arith
value_mass_at (lines.Expr e ∷ ls) zero d h = omega arith
value_mass_at (lines.Val a b n e ∷ ls) (suc i) d h = omega (arith, value_mass_at ls i d (omega arith))
value_mass_at (lines.Expr e ∷ ls) (suc i) d h = omega (arith, value_mass_at ls i d (omega arith))
