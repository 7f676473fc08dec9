-- One turn of each loop of the emitter, on the definitions of code and texts.
use Rattle.std.proofs.Common.{◌≡◌, ℕ, ◌+◌, ◌<◌, ◌≤◌, List, [], ◌∷◌, ◌++◌, length, get_or, drop, ap, sym, ◌∙◌, refl, append_assoc, arith}
use Rattle.pie_code.specs.declared.instr.Instr.{Instr}
use Rattle.pie_code.specs.declared.instr.Instr.TheVariants.{Store, Drop, Unary, Binary, JumpIfNot}
use Rattle.pie_operators.specs.declared.operator.Unary.TheVariants.{Not}
use Rattle.pie_parser.specs.Plain.{Tree, LineTrees}
use Rattle.pie_parser.specs.declared.tree.Index.{Index}
use Rattle.pie_parser.specs.declared.tree.Step.{Step}
use Rattle.pie_parser.specs.declared.tree.Line.{Line}
use Rattle.pie_parser.specs.declared.tree.Line.TheVariants as lines
use Rattle.pie_parser.specs.TreeView.{trees_of, steps_of, lines_of, line_before}
use Rattle.pie_semantics.specs.Words.{infix_of}
use Rattle.pie_types.specs.Checking.{count}
use Rattle.pie_types.proofs.Left.{list_left, trees_left, steps_left, lines_left, count_is}
use Rattle.pie_codegen.specs.declared.spot.Spot.{Spot}
use Rattle.pie_codegen.specs.declared.spot.Place.{Place}
use Rattle.pie_codegen.specs.Spots.{next, after, after_lines}
use Rattle.pie_codegen.specs.Texts.{texts_of, steps_texts, trees_texts, lines_texts}
use Rattle.pie_codegen.specs.Compiled.{Scope, index_code, indices_code, code_of, either_code, both_code, steps_code, items_code, args_code, lines_code}
use Rattle.pie_codegen.specs.Scopes.{oldest}
use Rattle.pie_codegen.specs.Lines.{value_of, line_code, behind_line, line_scope}
use Rattle.pie_codegen.proofs.Scoped.{oldest_more}

-- a part and one more instruction
with_end : {A : Type 0} (done xs rest : List A) (x : A) → done ++ (xs ++ (x ∷ rest)) ≡ ((done ++ xs) ++ x ∷ []) ++ rest
with_end done xs rest x = sym (append_assoc (done ++ xs) (x ∷ []) rest ∙ append_assoc done xs (x ∷ rest))

with_both : {A : Type 0} (done xs rest : List A) (x : A) → done ++ (xs ++ (x ∷ rest)) ≡ (done ++ (xs ++ x ∷ [])) ++ rest
with_both {A} done xs rest x =
    sym (append_assoc done (xs ++ x ∷ []) rest ∙ ap (λ (ys : List A). done ++ ys) (append_assoc xs (x ∷ []) rest))

module _ (done : List Instr) (m : ℕ) (sc : Scope) where
  pub either_code_turn : (ss : List Step) (i : ℕ) (p : Step) (s : Spot) (to : ℕ) → i < length ss → p ≡ get_or ss i p
      → done ++ either_code (steps_of (drop i ss)) s to m sc
      ≡ (done ++ (Unary Not ∷ JumpIfNot (to + 1) ∷ code_of p.operand (next (next s)) m sc))
      ++ either_code (steps_of (drop (i + 1) ss)) (after p.operand (next (next s))) to m sc
  either_code_turn ss i p s to h e =
      ap (λ rest. done ++ either_code rest s to m sc) (steps_left ss i p h e)
      ∙ sym (append_assoc done (Unary Not ∷ JumpIfNot (to + 1) ∷ code_of p.operand (next (next s)) m sc)
      (either_code (steps_of (drop (i + 1) ss)) (after p.operand (next (next s))) to m sc))

  pub both_code_turn : (ss : List Step) (i : ℕ) (p : Step) (s : Spot) (to : ℕ) → i < length ss → p ≡ get_or ss i p
      → done ++ both_code (steps_of (drop i ss)) s to m sc
      ≡ (done ++ (JumpIfNot (to + 1) ∷ code_of p.operand (next s) m sc)) ++ both_code (steps_of (drop (i + 1) ss)) (after p.operand (next s)) to m sc
  both_code_turn ss i p s to h e =
      ap (λ rest. done ++ both_code rest s to m sc) (steps_left ss i p h e)
      ∙ sym (append_assoc done (JumpIfNot (to + 1) ∷ code_of p.operand (next s) m sc)
      (both_code (steps_of (drop (i + 1) ss)) (after p.operand (next s)) to m sc))

  pub steps_code_turn : (ss : List Step) (i : ℕ) (p : Step) (s : Spot) → i < length ss → p ≡ get_or ss i p
      → done ++ steps_code (steps_of (drop i ss)) s m sc
      ≡ ((done ++ code_of p.operand s m sc) ++ Binary (infix_of p.operator) ∷ []) ++ steps_code (steps_of (drop (i + 1) ss)) (next (after p.operand s)) m sc
  steps_code_turn ss i p s h e =
      ap (λ rest. done ++ steps_code rest s m sc) (steps_left ss i p h e)
      ∙ with_end done (code_of p.operand s m sc) (steps_code (steps_of (drop (i + 1) ss)) (next (after p.operand s)) m sc) (Binary (infix_of p.operator))

  pub items_code_turn : (grow : Instr) (es : List Tree) (i : ℕ) (e : Tree) (s : Spot) → i < length es → e ≡ get_or es i e
      → done ++ items_code grow (trees_of (drop i es)) s m sc
      ≡ ((done ++ code_of e s m sc) ++ grow ∷ []) ++ items_code grow (trees_of (drop (i + 1) es)) (next (after e s)) m sc
  items_code_turn grow es i e s h p =
      ap (λ rest. done ++ items_code grow rest s m sc) (trees_left es i e h p)
      ∙ with_end done (code_of e s m sc) (items_code grow (trees_of (drop (i + 1) es)) (next (after e s)) m sc) grow

  pub args_code_turn : (es : List Tree) (i : ℕ) (e : Tree) (s : Spot) → i < length es → e ≡ get_or es i e
      → done ++ args_code (trees_of (drop i es)) s m sc
      ≡ (done ++ code_of e s m sc) ++ args_code (trees_of (drop (i + 1) es)) (after e s) m sc
  args_code_turn es i e s h p =
      ap (λ rest. done ++ args_code rest s m sc) (trees_left es i e h p)
      ∙ sym (append_assoc done (code_of e s m sc) (args_code (trees_of (drop (i + 1) es)) (after e s) m sc))

pub indices_code_turn : (done : List Instr) (ns : List Index) (i : ℕ) (n : Index) → i < length ns → n ≡ get_or ns i n
    → done ++ indices_code (drop i ns) ≡ (done ++ index_code n.number ∷ []) ++ indices_code (drop (i + 1) ns)
indices_code_turn done ns i n h p =
    ap (λ rest. done ++ indices_code rest) (list_left ns i n h p) ∙ sym (append_assoc done (index_code n.number ∷ []) (indices_code (drop (i + 1) ns)))

pub steps_texts_turn : (done : List (List ℕ)) (ss : List Step) (i : ℕ) (p : Step) → i < length ss → p ≡ get_or ss i p
    → done ++ steps_texts (steps_of (drop i ss)) ≡ (done ++ texts_of p.operand) ++ steps_texts (steps_of (drop (i + 1) ss))
steps_texts_turn done ss i p h e =
    ap (λ rest. done ++ steps_texts rest) (steps_left ss i p h e) ∙ sym (append_assoc done (texts_of p.operand) (steps_texts (steps_of (drop (i + 1) ss))))

pub trees_texts_turn : (done : List (List ℕ)) (es : List Tree) (i : ℕ) (e : Tree) → i < length es → e ≡ get_or es i e
    → done ++ trees_texts (trees_of (drop i es)) ≡ (done ++ texts_of e) ++ trees_texts (trees_of (drop (i + 1) es))
trees_texts_turn done es i e h p =
    ap (λ rest. done ++ trees_texts rest) (trees_left es i e h p) ∙ sym (append_assoc done (texts_of e) (trees_texts (trees_of (drop (i + 1) es))))

pub args_counted : (es : List Tree) → count (trees_of es) ≡ length es
args_counted = count_is

-- ---- the lines of a block

line_on_code : (done : List Instr) (l : Line) (rest : LineTrees) (p : Place) (sc : Scope) (last : Spot → ℕ → Scope → List Instr)
    → done ++ lines_code (line_before l rest) p.spot p.mark sc last
    ≡ (done ++ line_code l p.spot p.mark sc) ++ lines_code rest (behind_line l p).spot (behind_line l p).mark (line_scope l p.mark sc) last
line_on_code done (lines.Val i j n e) rest p sc last =
    with_both done (code_of e p.spot p.mark sc) (lines_code rest (next (after e p.spot)) (p.mark + 1) ((n.text, p.mark) ∷ sc) last) (Store p.mark)
line_on_code done (lines.Expr e) rest p sc last = with_both done (code_of e p.spot p.mark sc) (lines_code rest (next (after e p.spot)) p.mark sc last) Drop

pub lines_code_turn : (done : List Instr) (ls : List Line) (i : ℕ) (l : Line) (p : Place) (sc : Scope) (last : Spot → ℕ → Scope → List Instr)
    → i < length ls → l ≡ get_or ls i l
    → done ++ lines_code (lines_of (drop i ls)) p.spot p.mark sc last
    ≡ (done ++ line_code l p.spot p.mark sc)
    ++ lines_code (lines_of (drop (i + 1) ls)) (behind_line l p).spot (behind_line l p).mark (line_scope l p.mark sc) last
lines_code_turn done ls i l p sc last h e =
    ap (λ rest. done ++ lines_code rest p.spot p.mark sc last) (lines_left ls i l h e) ∙ line_on_code done l (lines_of (drop (i + 1) ls)) p sc last

line_on_texts : (done : List (List ℕ)) (l : Line) (rest : LineTrees)
    → done ++ lines_texts (line_before l rest) ≡ (done ++ texts_of (value_of l)) ++ lines_texts rest
line_on_texts done (lines.Val i j n e) rest = sym (append_assoc done (texts_of e) (lines_texts rest))
line_on_texts done (lines.Expr e) rest = sym (append_assoc done (texts_of e) (lines_texts rest))

pub lines_texts_turn : (done : List (List ℕ)) (ls : List Line) (i : ℕ) (l : Line) → i < length ls → l ≡ get_or ls i l
    → done ++ lines_texts (lines_of (drop i ls)) ≡ (done ++ texts_of (value_of l)) ++ lines_texts (lines_of (drop (i + 1) ls))
lines_texts_turn done ls i l h e = ap (λ rest. done ++ lines_texts rest) (lines_left ls i l h e) ∙ line_on_texts done l (lines_of (drop (i + 1) ls))

line_on_spot : (l : Line) (rest : LineTrees) (p : Place) → after_lines (line_before l rest) p.spot ≡ after_lines rest (behind_line l p).spot
line_on_spot (lines.Val i j n e) rest p = refl
line_on_spot (lines.Expr e) rest p = refl

pub lines_spot_turn : (ls : List Line) (i : ℕ) (l : Line) (p : Place) → i < length ls → l ≡ get_or ls i l
    → after_lines (lines_of (drop i ls)) p.spot ≡ after_lines (lines_of (drop (i + 1) ls)) (behind_line l p).spot
lines_spot_turn ls i l p h e = ap (λ rest. after_lines rest p.spot) (lines_left ls i l h e) ∙ line_on_spot l (lines_of (drop (i + 1) ls)) p

pub line_keeps : (n : ℕ) (l : Line) (m : ℕ) (sc : Scope) → n ≤ length sc → oldest n (line_scope l m sc) ≡ oldest n sc
line_keeps n (lines.Val i j x e) m sc h = oldest_more n (x.text, m) sc h
line_keeps n (lines.Expr e) m sc h = refl

pub line_deepens : (n : ℕ) (l : Line) (m : ℕ) (sc : Scope) → n ≤ length sc → n ≤ length (line_scope l m sc)
line_deepens n (lines.Val i j x e) m sc h = omega (arith, h)
line_deepens n (lines.Expr e) m sc h = h
