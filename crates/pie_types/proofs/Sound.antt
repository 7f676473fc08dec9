-- What has a type by the definition has it by the rules.
use Rattle.std.proofs.Common.{◌≡◌, ℕ, ◌+◌, List, [], ◌∷◌, sym, ◌∙◌, subst}
use Rattle.std.specs.Prelude.{Ok}
use Rattle.pie_value.specs.Types.{TyTree, UnitTy, BoolTy, TextTy, PathTy, ListTy, TupleTy, NullableTy, parts_of}
use Rattle.pie_parser.specs.Plain.{Tree, TLiteral, TName, TNull, TEmpty, TChain, TCompare, TPrefix, TProject, TTuple, TList, TEach, TIf, TCall, TEffect}
use Rattle.pie_parser.specs.Plain.{TWrite, TFail, Trees, Nil, Cons, Steps, NoStep, AStep, BlockTree, TBlock, LineTrees, NoLine, ValLine, ExprLine}
use Rattle.pie_parser.specs.Plain.{NoLast, ALast, ElseTree, NoElse, AnElse}
use Rattle.pie_types.specs.Faults.{TypingResult, then_on}
use Rattle.pie_types.specs.Written.{written}
use Rattle.pie_types.specs.Scope.{Entry, type_in, entered, with_name}
use Rattle.pie_types.specs.Headings.{Heading}
use Rattle.pie_types.specs.Spans.{at_of, end_of, answer_at, answer_end}
use Rattle.pie_types.specs.Operators.{passing, literal_type, first_operand, left_operand, prefix_type, projected, items_type, effect_takes}
use Rattle.pie_types.specs.Operators.{effect_gives, is_writable}
use Rattle.pie_types.specs.Calls.{Callee, callee_of, known, right_number, misfit, unless, answer}
use Rattle.pie_types.specs.Forms.{fitting, within}
use Rattle.pie_types.specs.Checking.{type_of, operands, types_of, list_items, more_items, arguments, branches, block_type, after_lines, last_type, count}
use Rattle.pie_types.specs.inner.Rules as rules
use Rattle.pie_types.specs.inner.Rules.{HasType, StepsHave, AllHave, HaveTypes, Fit, BlockHas, LinesBring}
use Rattle.pie_types.proofs.Steps.{then_inv}
use Rattle.pie_types.proofs.WrittenLaw.{written_sound}
use Rattle.pie_types.proofs.Inversions.{ok_inj, matched_inv, passing_inv, fitting_inv, block_fitting_inv, name_inv, first_inv, left_inv, projected_sound}
use Rattle.pie_types.proofs.Inversions.{items_inv, entered_sound, known_inv, right_number_inv, unless_inv}

mutual
  pub sound : (hs : List Heading) (sc : List Entry) (e : Tree) (t : TyTree) → type_of hs sc e ≡ Ok t → HasType hs sc e t
  sound hs sc (TLiteral i j l) t h = subst (HasType hs sc (TLiteral i j l)) (ok_inj (literal_type l) t h) rules.literal
  sound hs sc (TName i j n) t h = rules.name (name_inv i j (type_in n sc) t h)
  sound hs sc (TNull i j w) t h =
      let p = then_inv (written w) (λ u. Ok (NullableTy u)) t h in
      subst (HasType hs sc (TNull i j w)) (ok_inj (NullableTy p.0) t p.2) (rules.null (written_sound w p.0 p.1))
  sound hs sc (TEmpty i j w) t h =
      let p = then_inv (written w) (λ u. Ok (ListTy u)) t h in
      subst (HasType hs sc (TEmpty i j w)) (ok_inj (ListTy p.0) t p.2) (rules.empty (written_sound w p.0 p.1))
  sound hs sc (TChain i j a ss) t h =
      let p = then_inv (type_of hs sc a) (λ t. then_on (first_operand ss (at_of a) (end_of a) t) (λ u. operands hs sc u ss)) t h in
      let q = then_inv (first_operand ss (at_of a) (end_of a) p.0) (λ u. operands hs sc u ss) t p.2 in
      let f = first_inv ss (at_of a) (end_of a) p.0 q.0 q.1 in
      let s = operands_sound hs sc q.0 ss t q.2 in
      subst (HasType hs sc (TChain i j a ss)) s.0 (rules.chain (subst (HasType hs sc a) f.1 (sound hs sc a p.0 p.1)) f.0 s.1)
  sound hs sc (TCompare i j c a b) t h =
      let p = then_inv (type_of hs sc a) (λ t. then_on (left_operand c (at_of a) (end_of a) t)
      (λ u. then_on (fitting u b (type_of hs sc b)) (λ _. Ok BoolTy))) t h in
      let q = then_inv (left_operand c (at_of a) (end_of a) p.0) (λ u. then_on (fitting u b (type_of hs sc b)) (λ _. Ok BoolTy)) t p.2 in
      let f = left_inv c (at_of a) (end_of a) p.0 q.0 q.1 in
      let r = then_inv (fitting q.0 b (type_of hs sc b)) (λ _. Ok BoolTy) t q.2 in
      let g = fitting_inv q.0 b (type_of hs sc b) r.0 r.1 in
      subst (HasType hs sc (TCompare i j c a b)) (ok_inj BoolTy t r.2) (rules.compare (subst (HasType hs sc a) f.1 (sound hs sc a p.0 p.1)) f.0
      (sound hs sc b q.0 g.0))
  sound hs sc (TPrefix i j p a) t h =
      let g = fitting_inv (prefix_type p) a (type_of hs sc a) t h in
      subst (HasType hs sc (TPrefix i j p a)) g.1 (rules.prefix (sound hs sc a (prefix_type p) g.0))
  sound hs sc (TProject i j a ns) t h =
      let p = then_inv (type_of hs sc a) (λ t. projected (at_of a) (end_of a) t ns) t h in
      rules.project (sound hs sc a p.0 p.1) (projected_sound (at_of a) (end_of a) p.0 ns t p.2)
  sound hs sc (TTuple i j es) t h =
      let p = then_inv (types_of hs sc es) (λ us. Ok (TupleTy (parts_of us))) t h in
      subst (HasType hs sc (TTuple i j es)) (ok_inj (TupleTy (parts_of p.0)) t p.2) (rules.tuple (types_sound hs sc es p.0 p.1))
  sound hs sc (TList i j es) t h =
      let p = then_inv (list_items hs sc i j es) (λ t. Ok (ListTy t)) t h in
      subst (HasType hs sc (TList i j es)) (ok_inj (ListTy p.0) t p.2) (list_sound hs sc i j i j es p.0 p.1)
  sound hs sc (TEach i j a n b) t h =
      let inner : List Entry → TypingResult TyTree = λ inner. type_of hs inner a in
      let p = then_inv (type_of hs sc b) (λ t. then_on (items_type (at_of b) (end_of b) t) (λ u. then_on (within sc n u inner) (λ v. Ok (ListTy v)))) t h in
      let q = then_inv (items_type (at_of b) (end_of b) p.0) (λ u. then_on (within sc n u inner) (λ v. Ok (ListTy v))) t p.2 in
      let r = then_inv (within sc n q.0 inner) (λ v. Ok (ListTy v)) t q.2 in
      let s = then_inv (entered n q.0 sc) inner r.0 r.1 in
      let f = entered_sound n q.0 sc s.0 s.1 in
      let body : HasType hs (with_name sc n.text q.0) a r.0 = subst (λ (es : List Entry). HasType hs es a r.0) (sym f.1) (sound hs s.0 a r.0 s.2) in
      let whole : HasType hs sc b (ListTy q.0) = subst (HasType hs sc b) (items_inv (at_of b) (end_of b) p.0 q.0 q.1) (sound hs sc b p.0 p.1) in
      subst (HasType hs sc (TEach i j a n b)) (ok_inj (ListTy r.0) t r.2) (rules.each whole f.0 body)
  sound hs sc (TIf i j a b o) t h =
      let p = then_inv (fitting BoolTy a (type_of hs sc a)) (λ _. then_on (block_type hs sc b) (λ t. branches hs sc t b o)) t h in
      let g = fitting_inv BoolTy a (type_of hs sc a) p.0 p.1 in
      let q = then_inv (block_type hs sc b) (λ t. branches hs sc t b o) t p.2 in
      branches_sound hs sc i j a b o q.0 t (sound hs sc a BoolTy g.0) (block_sound hs sc b q.0 q.1) q.2
  sound hs sc (TCall i j k n es) t h =
      let p = then_inv (known n (callee_of hs k n.text)) (λ c. then_on (right_number i j c (count es))
      (λ _. then_on (arguments hs sc c 0 es) (λ ts. Ok (answer k c ts)))) t h in
      let q = then_inv (right_number i j p.0 (count es)) (λ _. then_on (arguments hs sc p.0 0 es) (λ ts. Ok (answer k p.0 ts))) t p.2 in
      let r = then_inv (arguments hs sc p.0 0 es) (λ ts. Ok (answer k p.0 ts)) t q.2 in
      let s = arguments_sound hs sc p.0 0 es r.0 r.1 in
      subst (HasType hs sc (TCall i j k n es)) (ok_inj (answer k p.0 r.0) t r.2)
      (rules.call (known_inv n (callee_of hs k n.text) p.0 p.1) (right_number_inv i j p.0 q.0 (count es) q.1) s.0 s.1)
  sound hs sc (TEffect i j k a) t h =
      let p = then_inv (fitting (effect_takes k) a (type_of hs sc a)) (λ _. Ok (effect_gives k)) t h in
      let g = fitting_inv (effect_takes k) a (type_of hs sc a) p.0 p.1 in
      subst (HasType hs sc (TEffect i j k a)) (ok_inj (effect_gives k) t p.2) (rules.effect (sound hs sc a (effect_takes k) g.0))
  sound hs sc (TWrite i j a b) t h =
      let p = then_inv (fitting PathTy a (type_of hs sc a)) (λ _. then_on (type_of hs sc b)
      (λ t. then_on (passing is_writable TextTy (at_of b) (end_of b) t) (λ _. Ok UnitTy))) t h in
      let g = fitting_inv PathTy a (type_of hs sc a) p.0 p.1 in
      let q = then_inv (type_of hs sc b) (λ t. then_on (passing is_writable TextTy (at_of b) (end_of b) t) (λ _. Ok UnitTy)) t p.2 in
      let r = then_inv (passing is_writable TextTy (at_of b) (end_of b) q.0) (λ _. Ok UnitTy) t q.2 in
      let f = passing_inv is_writable TextTy (at_of b) (end_of b) q.0 r.0 r.1 in
      subst (HasType hs sc (TWrite i j a b)) (ok_inj UnitTy t r.2) (rules.write (sound hs sc a PathTy g.0) (sound hs sc b q.0 q.1) f.0)
  sound hs sc (TFail i j w a) t h =
      let p = then_inv (written w) (λ u. then_on (fitting TextTy a (type_of hs sc a)) (λ _. Ok u)) t h in
      let q = then_inv (fitting TextTy a (type_of hs sc a)) (λ _. Ok p.0) t p.2 in
      let g = fitting_inv TextTy a (type_of hs sc a) q.0 q.1 in
      subst (HasType hs sc (TFail i j w a)) (ok_inj p.0 t q.2) (rules.fail (written_sound w p.0 p.1) (sound hs sc a TextTy g.0))

  operands_sound : (hs : List Heading) (sc : List Entry) (w : TyTree) (ss : Steps) (t : TyTree) → operands hs sc w ss ≡ Ok t → (w ≡ t) × StepsHave hs sc ss w
  operands_sound hs sc w NoStep t h = (ok_inj w t h, rules.no_step)
  operands_sound hs sc w (AStep o e ss) t h =
      let p = then_inv (fitting w e (type_of hs sc e)) (λ _. operands hs sc w ss) t h in
      let g = fitting_inv w e (type_of hs sc e) p.0 p.1 in
      let r = operands_sound hs sc w ss t p.2 in
      (r.0, rules.a_step (sound hs sc e w g.0) r.1)

  types_sound : (hs : List Heading) (sc : List Entry) (es : Trees) (ts : List TyTree) → types_of hs sc es ≡ Ok ts → HaveTypes hs sc es ts
  types_sound hs sc Nil ts h = subst (HaveTypes hs sc Nil) (ok_inj [] ts h) rules.no_part
  types_sound hs sc (Cons e es) ts h =
      let p = then_inv (type_of hs sc e) (λ t. then_on (types_of hs sc es) (λ us. Ok (t ∷ us))) ts h in
      let q = then_inv (types_of hs sc es) (λ us. Ok (p.0 ∷ us)) ts p.2 in
      subst (HaveTypes hs sc (Cons e es)) (ok_inj (p.0 ∷ q.0) ts q.2) (rules.a_part (sound hs sc e p.0 p.1) (types_sound hs sc es q.0 q.1))

  list_sound : (hs : List Heading) (sc : List Entry) (i j k l : ℕ) (es : Trees) (t : TyTree) → list_items hs sc i j es ≡ Ok t
      → HasType hs sc (TList k l es) (ListTy t)
  list_sound hs sc i j k l Nil t h = let f : ⊥ = cc in absurd f
  list_sound hs sc i j k l (Cons e es) t h =
      let p = then_inv (type_of hs sc e) (λ t. more_items hs sc t es) t h in
      let r = more_sound hs sc p.0 es t p.2 in
      subst (λ (u : TyTree). HasType hs sc (TList k l (Cons e es)) (ListTy u)) r.0 (rules.list (sound hs sc e p.0 p.1) r.1)

  more_sound : (hs : List Heading) (sc : List Entry) (w : TyTree) (es : Trees) (t : TyTree) → more_items hs sc w es ≡ Ok t → (w ≡ t) × AllHave hs sc es w
  more_sound hs sc w Nil t h = (ok_inj w t h, rules.no_item)
  more_sound hs sc w (Cons e es) t h =
      let p = then_inv (fitting w e (type_of hs sc e)) (λ _. more_items hs sc w es) t h in
      let g = fitting_inv w e (type_of hs sc e) p.0 p.1 in
      let r = more_sound hs sc w es t p.2 in
      (r.0, rules.an_item (sound hs sc e w g.0) r.1)

  arguments_sound : (hs : List Heading) (sc : List Entry) (c : Callee) (n : ℕ) (es : Trees) (ts : List TyTree) → arguments hs sc c n es ≡ Ok ts
      → HaveTypes hs sc es ts × Fit c n ts
  arguments_sound hs sc c n Nil ts h = (subst (HaveTypes hs sc Nil) (ok_inj [] ts h) rules.no_part, subst (Fit c n) (ok_inj [] ts h) rules.no_argument)
  arguments_sound hs sc c n (Cons e es) ts h =
      let p = then_inv (type_of hs sc e) (λ t. then_on (unless (misfit c n t) (at_of e) (end_of e) t)
      (λ _. then_on (arguments hs sc c (n + 1) es) (λ us. Ok (t ∷ us)))) ts h in
      let q = then_inv (unless (misfit c n p.0) (at_of e) (end_of e) p.0) (λ _. then_on (arguments hs sc c (n + 1) es) (λ us. Ok (p.0 ∷ us))) ts p.2 in
      let r = then_inv (arguments hs sc c (n + 1) es) (λ us. Ok (p.0 ∷ us)) ts q.2 in
      let s = arguments_sound hs sc c (n + 1) es r.0 r.1 in
      let e' : p.0 ∷ r.0 ≡ ts = ok_inj (p.0 ∷ r.0) ts r.2 in (
        subst (HaveTypes hs sc (Cons e es)) e' (rules.a_part (sound hs sc e p.0 p.1) s.0),
        subst (Fit c n) e' (rules.an_argument (unless_inv (misfit c n p.0) (at_of e) (end_of e) p.0 q.0 q.1) s.1),
      )

  branches_sound : (hs : List Heading) (sc : List Entry) (i j : ℕ) (a : Tree) (b : BlockTree) (o : ElseTree) (t u : TyTree)
      → HasType hs sc a BoolTy → BlockHas hs sc b t → branches hs sc t b o ≡ Ok u → HasType hs sc (TIf i j a b o) u
  branches_sound hs sc i j a b NoElse t u test then h =
      let p = matched_inv UnitTy (answer_at b) (answer_end b) t u h in
      subst (HasType hs sc (TIf i j a b NoElse)) (p.0 ∙ p.1) (rules.if_alone test (subst (BlockHas hs sc b) (sym p.0) then))
  branches_sound hs sc i j a b (AnElse o) t u test then h =
      let p = block_fitting_inv t o (block_type hs sc o) u h in
      subst (HasType hs sc (TIf i j a b (AnElse o))) p.1 (rules.if_else test then (block_sound hs sc o t p.0))

  pub block_sound : (hs : List Heading) (sc : List Entry) (b : BlockTree) (t : TyTree) → block_type hs sc b ≡ Ok t → BlockHas hs sc b t
  block_sound hs sc (TBlock i j ls NoLast) t h =
      let p = then_inv (after_lines hs sc ls) (λ inner. last_type hs inner NoLast) t h in
      subst (BlockHas hs sc (TBlock i j ls NoLast)) (ok_inj UnitTy t p.2) (rules.no_last (lines_sound hs sc ls p.0 p.1))
  block_sound hs sc (TBlock i j ls (ALast e)) t h =
      let p = then_inv (after_lines hs sc ls) (λ inner. last_type hs inner (ALast e)) t h in
      rules.a_last (lines_sound hs sc ls p.0 p.1) (sound hs p.0 e t p.2)

  lines_sound : (hs : List Heading) (sc : List Entry) (ls : LineTrees) (inner : List Entry) → after_lines hs sc ls ≡ Ok inner → LinesBring hs sc ls inner
  lines_sound hs sc NoLine inner h = subst (LinesBring hs sc NoLine) (ok_inj sc inner h) rules.no_line
  lines_sound hs sc (ValLine i j n e ls) inner h =
      let p = then_inv (type_of hs sc e) (λ t. then_on (entered n t sc) (λ inner. after_lines hs inner ls)) inner h in
      let q = then_inv (entered n p.0 sc) (λ inner. after_lines hs inner ls) inner p.2 in
      let f = entered_sound n p.0 sc q.0 q.1 in
      rules.a_val (sound hs sc e p.0 p.1) f.0 (subst (λ (es : List Entry). LinesBring hs es ls inner) (sym f.1) (lines_sound hs q.0 ls inner q.2))
  lines_sound hs sc (ExprLine e ls) inner h =
      let p = then_inv (type_of hs sc e) (λ _. after_lines hs sc ls) inner h in
      rules.an_expr (sound hs sc e p.0 p.1) (lines_sound hs sc ls inner p.2)
