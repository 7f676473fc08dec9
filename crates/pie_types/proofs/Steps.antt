-- One turn of each loop, on the definitions.
use Rattle.std.proofs.Common.{◌≡◌, ℕ, ◌+◌, ◌<◌, List, [], ◌∷◌, ◌++◌, length, get_or, drop, ap, sym, ◌∙◌, refl, append_assoc}
use Rattle.std.specs.Prelude.{Ok, Err, Option, Some, None, take}
use Rattle.std.proofs.lemmas.List.{append-nil, take_at}
use Rattle.pie_value.specs.Types.{TyTree}
use Rattle.pie_parser.specs.PlainTypes.{TypeTree}
use Rattle.pie_parser.specs.TypeView.{types_of}
use Rattle.pie_parser.specs.Plain.{Tree, LineTrees, NoLine, ValLine, ExprLine}
use Rattle.pie_parser.specs.declared.tree.Name.{Name}
use Rattle.pie_parser.specs.FunctionTrees.{FunctionTree}
use Rattle.pie_parser.specs.declared.tree.Step.{Step}
use Rattle.pie_parser.specs.declared.tree.Index.{Index}
use Rattle.pie_parser.specs.declared.tree.Param.{Param}
use Rattle.pie_parser.specs.declared.tree.Line.{Line}
use Rattle.pie_parser.specs.declared.tree.Line.TheVariants as lines
use Rattle.pie_parser.specs.TreeView.{trees_of, steps_of, lines_of, line_before}
use Rattle.pie_types.specs.declared.error.TypeError.{TypeError}
use Rattle.pie_types.specs.declared.error.TypeError.TheVariants as errors
use Rattle.pie_types.specs.Faults.{TypingResult, then_on, TypingAgrees}
use Rattle.pie_types.specs.Written.{written, written_each}
use Rattle.pie_types.specs.Scope.{Entry, entered, may_enter, with_name}
use Rattle.pie_types.specs.Headings.{Heading, headings_from, heading_of, params_from, with_param}
use Rattle.pie_types.specs.Forms.{fitting}
use Rattle.pie_types.specs.Operators.{item_of, later_items}
use Rattle.pie_types.specs.Calls.{Callee, misfit, unless}
use Rattle.pie_types.specs.Spans.{at_of, end_of}
use Rattle.pie_types.specs.Checking as spec
use Rattle.pie_types.specs.inner.Blocks.{after_line}
use Rattle.pie_types.specs.Whole.{bodies, body_type}
use Rattle.pie_types.proofs.Left.{list_left, trees_left, steps_left, lines_left, types_left}

-- what goes on after a refusal is that refusal
pub fails_so : {A B C D : Type 0} (f : A → B) (g : C → D) (e : TypeError) (p : TypingResult B) (k : B → TypingResult D) (q : TypingResult D) → q ≡ then_on p k
    → TypingAgrees f (Err e) p → TypingAgrees g (Err e) q
fails_so f g (errors.Fault e) p k q h a = h ∙ ap (λ o. then_on o k) a
fails_so f g errors.OutOfMemory p k q h a = tt

-- what goes on after an answer
pub goes_so : {B D : Type 0} (p : TypingResult B) (k : B → TypingResult D) (b : B) → p ≡ Ok b → then_on p k ≡ k b
goes_so p k b h = ap (λ o. then_on o k) h

pub then_then : {A B C : Type 0} (o : TypingResult A) (k : A → TypingResult B) (m : B → TypingResult C) → then_on (then_on o k) m ≡ then_on o (λ a. then_on (k a) m)
then_then (Ok a) k m = refl
then_then (Err e) k m = refl

-- ---- parts that are all of one type

pub operands_turn : (hs : List Heading) (sc : List Entry) (w : TyTree) (ss : List Step) (i : ℕ) (s : Step) → i < length ss → s ≡ get_or ss i s
    → spec.operands hs sc w (steps_of (drop i ss)) ≡ then_on (fitting w s.operand (spec.type_of hs sc s.operand))
    (λ _. spec.operands hs sc w (steps_of (drop (i + 1) ss)))
operands_turn hs sc w ss i s h p = ap (spec.operands hs sc w) (steps_left ss i s h p)

pub more_items_turn : (hs : List Heading) (sc : List Entry) (w : TyTree) (es : List Tree) (i : ℕ) (e : Tree) → i < length es → e ≡ get_or es i e
    → spec.more_items hs sc w (trees_of (drop i es)) ≡ then_on (fitting w e (spec.type_of hs sc e)) (λ _. spec.more_items hs sc w (trees_of (drop (i + 1) es)))
more_items_turn hs sc w es i e h p = ap (spec.more_items hs sc w) (trees_left es i e h p)

-- ---- parts with a type each

-- the parts done, before those that are left
abbrev pub onto : {A : Type 0} → List A → TypingResult (List A) → TypingResult (List A)
onto done o = then_on o (λ more. Ok (done ++ more))

onto_more : {A : Type 0} (done : List A) (a : A) (o : TypingResult (List A)) → onto done (then_on o (λ more. Ok (a ∷ more))) ≡ onto (done ++ a ∷ []) o
onto_more {A} done a (Ok more) = ap (λ (l : List A). Ok l) (sym (append_assoc done (a ∷ []) more))
onto_more done a (Err e) = refl

pub onto_nothing : {A : Type 0} (o : TypingResult (List A)) → onto [] o ≡ o
onto_nothing (Ok more) = refl
onto_nothing (Err e) = refl

pub types_turn : (hs : List Heading) (sc : List Entry) (done : List TyTree) (es : List Tree) (i : ℕ) (e : Tree) → i < length es → e ≡ get_or es i e
    → onto done (spec.types_of hs sc (trees_of (drop i es))) ≡ then_on (spec.type_of hs sc e)
    (λ t. onto (done ++ t ∷ []) (spec.types_of hs sc (trees_of (drop (i + 1) es))))
types_turn hs sc done es i e h p =
    ap (λ ts. onto done (spec.types_of hs sc ts)) (trees_left es i e h p)
    ∙ then_then (spec.type_of hs sc e) _ _
    ∙ ap (then_on (spec.type_of hs sc e)) (λ j t. onto_more done t (spec.types_of hs sc (trees_of (drop (i + 1) es))) j)

fitting_more : (o : TypingResult TyTree) (done : List TyTree) (t : TyTree) (rest : TypingResult (List TyTree))
    → onto done (then_on o (λ _. then_on rest (λ ts. Ok (t ∷ ts)))) ≡ then_on o (λ _. onto (done ++ t ∷ []) rest)
fitting_more (Ok u) done t rest = onto_more done t rest
fitting_more (Err e) done t rest = refl

pub arguments_turn : (hs : List Heading) (sc : List Entry) (c : Callee) (done : List TyTree) (es : List Tree) (i : ℕ) (e : Tree) → i < length es
    → e ≡ get_or es i e
    → onto done (spec.arguments hs sc c i (trees_of (drop i es)))
    ≡ then_on (spec.type_of hs sc e) (λ t. then_on (unless (misfit c i t) (at_of e) (end_of e) t)
    (λ _. onto (done ++ t ∷ []) (spec.arguments hs sc c (i + 1) (trees_of (drop (i + 1) es)))))
arguments_turn hs sc c done es i e h p =
    ap (λ ts. onto done (spec.arguments hs sc c i ts)) (trees_left es i e h p)
    ∙ then_then (spec.type_of hs sc e)
    (λ t. then_on (unless (misfit c i t) (at_of e) (end_of e) t) (λ _. then_on (spec.arguments hs sc c (i + 1) (trees_of (drop (i + 1) es)))
    (λ (ts : List TyTree). Ok (t ∷ ts))))
    (λ (more : List TyTree). Ok (done ++ more))
    ∙ ap (then_on (spec.type_of hs sc e)) (λ j t. fitting_more (unless (misfit c i t) (at_of e) (end_of e) t) done t
    (spec.arguments hs sc c (i + 1) (trees_of (drop (i + 1) es))) j)

unless_same : (o : Option TyTree) (i j : ℕ) (t u : TyTree) → unless o i j t ≡ Ok u → u ≡ t
unless_same None i j t u h = cc
unless_same (Some w) i j t u h = cc

pub arguments_next : (hs : List Heading) (sc : List Entry) (c : Callee) (done : List TyTree) (es : List Tree) (i : ℕ) (e : Tree) (t u : TyTree)
    (whole : TypingResult (List TyTree))
    → i < length es → e ≡ get_or es i e → spec.type_of hs sc e ≡ Ok t → unless (misfit c i t) (at_of e) (end_of e) t ≡ Ok u
    → onto done (spec.arguments hs sc c i (trees_of (drop i es))) ≡ whole
    → onto (done ++ u ∷ []) (spec.arguments hs sc c (i + 1) (trees_of (drop (i + 1) es))) ≡ whole
arguments_next hs sc c done es i e t u whole h p typed fits so =
    let rest : TyTree → TypingResult (List TyTree) = λ v. onto (done ++ v ∷ []) (spec.arguments hs sc c (i + 1) (trees_of (drop (i + 1) es))) in
    ap rest (unless_same (misfit c i t) (at_of e) (end_of e) t u fits)
    ∙ sym (goes_so (unless (misfit c i t) (at_of e) (end_of e) t) (λ _. rest t) u fits)
    ∙ sym (goes_so (spec.type_of hs sc e) (λ v. then_on (unless (misfit c i v) (at_of e) (end_of e) v) (λ _. rest v)) t typed)
    ∙ sym (arguments_turn hs sc c done es i e h p) ∙ so

pub written_turn : (done : List TyTree) (ws : List TypeTree) (i : ℕ) (w : TypeTree) → i < length ws → w ≡ get_or ws i w
    → onto done (written_each (types_of (drop i ws))) ≡ then_on (written w) (λ t. onto (done ++ t ∷ []) (written_each (types_of (drop (i + 1) ws))))
written_turn done ws i w h p =
    ap (λ ts. onto done (written_each ts)) (types_left ws i w h p)
    ∙ then_then (written w) _ _
    ∙ ap (then_on (written w)) (λ j t. onto_more done t (written_each (types_of (drop (i + 1) ws))) j)

-- ---- lines, parameters, functions and numbers

lines_on : (hs : List Heading) (sc : List Entry) (l : Line) (ls : LineTrees)
    → spec.after_lines hs sc (line_before l ls) ≡ then_on (after_line hs sc l) (λ inner. spec.after_lines hs inner ls)
lines_on hs sc (lines.Val i j n e) ls = sym (then_then (spec.type_of hs sc e) (λ t. entered n t sc) (λ inner. spec.after_lines hs inner ls))
lines_on hs sc (lines.Expr e) ls = sym (then_then (spec.type_of hs sc e) (λ _. Ok sc) (λ inner. spec.after_lines hs inner ls))

pub lines_turn : (hs : List Heading) (sc : List Entry) (ls : List Line) (i : ℕ) (l : Line) → i < length ls → l ≡ get_or ls i l
    → spec.after_lines hs sc (lines_of (drop i ls)) ≡ then_on (after_line hs sc l) (λ inner. spec.after_lines hs inner (lines_of (drop (i + 1) ls)))
lines_turn hs sc ls i l h p = ap (spec.after_lines hs sc) (lines_left ls i l h p) ∙ lines_on hs sc l (lines_of (drop (i + 1) ls))

pub params_turn : (done : List Entry) (ps : List Param) (i : ℕ) (p : Param) → i < length ps → p ≡ get_or ps i p
    → params_from done (drop i ps) ≡ then_on (with_param done p) (λ es. params_from es (drop (i + 1) ps))
params_turn done ps i p h e = ap (params_from done) (list_left ps i p h e)

pub headings_turn : (done : List Heading) (fs : List FunctionTree) (i : ℕ) (f : FunctionTree) → i < length fs → f ≡ get_or fs i f
    → headings_from done (drop i fs) ≡ then_on (heading_of done f) (λ h. headings_from (done ++ h ∷ []) (drop (i + 1) fs))
headings_turn done fs i f h e = ap (headings_from done) (list_left fs i f h e)

pub bodies_turn : (hs : List Heading) (fs : List FunctionTree) (i : ℕ) (f : FunctionTree) → i < length fs → f ≡ get_or fs i f
    → bodies hs (drop i fs) ≡ then_on (body_type hs f) (λ _. bodies hs (drop (i + 1) fs))
bodies_turn hs fs i f h e = ap (bodies hs) (list_left fs i f h e)

pub later_turn : (t : TyTree) (ns : List Index) (i : ℕ) (n : Index) → i < length ns → n ≡ get_or ns i n
    → later_items t (drop i ns) ≡ then_on (item_of n.at n.end t n) (λ u. later_items u (drop (i + 1) ns))
later_turn t ns i n h e = ap (later_items t) (list_left ns i n h e)

-- ---- names that lines bring into scope

pub then_inv : {A B : Type 0} (o : TypingResult A) (k : A → TypingResult B) (b : B) → then_on o k ≡ Ok b → (a : A) × (o ≡ Ok a) × (k a ≡ Ok b)
then_inv (Ok a) k b h = (a, refl, h)
then_inv (Err e) k b h = let f : ⊥ = cc in absurd f

entered_more : (n : Name) (t : TyTree) (sc inner : List Entry) → entered n t sc ≡ Ok inner → inner ≡ with_name sc n.text t
entered_more n t sc inner h = let p = then_inv (may_enter n sc) (λ _. Ok (with_name sc n.text t)) inner h in let q = p.2 in cc

-- lines bring names behind those that are in scope
lines_bring : (hs : List Heading) (sc : List Entry) (ls : LineTrees) (inner : List Entry) → spec.after_lines hs sc ls ≡ Ok inner
    → (more : List Entry) × (inner ≡ sc ++ more)
lines_bring hs sc NoLine inner h = ([], (let p : inner ≡ sc = cc in p) ∙ sym (append-nil sc))
lines_bring hs sc (ValLine i j n e ls) inner h =
    let p = then_inv (spec.type_of hs sc e) (λ t. then_on (entered n t sc) (λ inner. spec.after_lines hs inner ls)) inner h in
    let q = then_inv (entered n p.0 sc) (λ inner. spec.after_lines hs inner ls) inner p.2 in
    let r = lines_bring hs q.0 ls inner q.2 in (
      record { name = n.text; ty = p.0 } ∷ r.0,
      r.1 ∙ ap (λ (es : List Entry). es ++ r.0) (entered_more n p.0 sc q.0 q.1)
          ∙ append_assoc sc (record { name = n.text; ty = p.0 } ∷ []) r.0,
    )
lines_bring hs sc (ExprLine e ls) inner h =
    let p = then_inv (spec.type_of hs sc e) (λ _. spec.after_lines hs sc ls) inner h in lines_bring hs sc ls inner p.2

pub lines_keep : (hs : List Heading) (sc : List Entry) (ls : LineTrees) (inner : List Entry) → spec.after_lines hs sc ls ≡ Ok inner
    → take (length sc) inner ≡ sc
lines_keep hs sc ls inner h = let p = lines_bring hs sc ls inner h in ap (take (length sc)) p.1 ∙ take_at sc p.0 (length sc) refl
