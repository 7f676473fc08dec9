-- What has a type by the rules has it by the definition.
use Rattle.std.proofs.Common.{◌≡◌, ℕ, ◌+◌, Bool, true, cond, List, ap, sym, ◌∙◌, refl, rules}
use Rattle.std.specs.Prelude.{Ok, ◌<◌, nat_lt, ◌==◌, length}
use Rattle.pie_value.specs.Types.{TyTree, UnitTy, BoolTy, IntTy, TextTy, PathTy, ListTy}
use Rattle.pie_parser.specs.Plain.{Tree}
use Rattle.pie_parser.specs.Plain.{Trees, Steps, BlockTree, LineTrees}
use Rattle.pie_parser.specs.declared.tree.Index.{Index}
use Rattle.pie_parser.specs.declared.tree.Name.{Name}
use Rattle.pie_parser.specs.declared.tree.Comparison.{Comparison}
use Rattle.pie_types.specs.Faults.{TypingResult, then_on}
use Rattle.pie_types.specs.Scope.{Entry, may_enter, entered, with_name}
use Rattle.pie_types.specs.Headings.{Heading}
use Rattle.pie_types.specs.Spans.{at_of, end_of, answer_at, answer_end}
use Rattle.pie_types.specs.Operators.{where_fits, matched, passing, is_addable, operands_type, is_ordered}
use Rattle.pie_types.specs.Operators.{first_operand, left_operand, prefix_type, later_items, projected, effect_takes}
use Rattle.pie_types.specs.Operators.{is_writable}
use Rattle.pie_types.specs.Calls.{Callee, taken, right_number}
use Rattle.pie_types.specs.Forms.{fitting, block_fitting}
use Rattle.pie_types.specs.Checking.{type_of, operands, types_of, more_items, arguments, block_type, after_lines, count}
use Rattle.pie_types.specs.inner.Rules as rule
use Rattle.pie_types.specs.inner.Rules.{HasType, StepsHave, AllHave, HaveTypes, Fit, BlockHas, LinesBring, Leads, stays, goes, IsFresh, fresh, OperandsHave, in_sum}
use Rattle.pie_types.specs.inner.Rules.{in_other, LeftHas, of_any, by_size}
use Rattle.pie_types.proofs.SameType.{same_self}
use Rattle.pie_types.proofs.WrittenLaw.{written_complete}
use Rattle.pie_types.proofs.Inversions.{ok_inj}

-- a type is matched by itself
pub matched_self : (t : TyTree) (i j : ℕ) → matched t i j t ≡ Ok t
matched_self t i j = ap (λ (b : Bool). where_fits b t i j t) (same_self t)

pub fitting_self : (t : TyTree) (e : Tree) (o : TypingResult TyTree) → o ≡ Ok t → fitting t e o ≡ Ok t
fitting_self t e o h = ap (fitting t e) h ∙ matched_self t (at_of e) (end_of e)

pub block_fitting_self : (t : TyTree) (b : BlockTree) (o : TypingResult TyTree) → o ≡ Ok t → block_fitting t b o ≡ Ok t
block_fitting_self t b o h = ap (block_fitting t b) h ∙ matched_self t (answer_at b) (answer_end b)

passes : (test : TyTree → Bool) (w : TyTree) (i j : ℕ) (t : TyTree) → test t ≡ true → passing test w i j t ≡ Ok t
passes test w i j t h = ap (λ (b : Bool). where_fits b w i j t) h

first_is : (ss : Steps) (t : TyTree) (i j : ℕ) → OperandsHave ss t → first_operand ss i j t ≡ Ok t
first_is _ _ i j (in_sum {ss = ss} {t = t} p a) = ap (λ (b : Bool). cond b (passing is_addable IntTy i j t) (matched (operands_type ss) i j t)) p
    ∙ passes is_addable IntTy i j t a
first_is _ _ i j (in_other {ss = ss} p) =
    ap (λ (b : Bool). cond b (passing is_addable IntTy i j (operands_type ss)) (matched (operands_type ss) i j (operands_type ss))) p
    ∙ matched_self (operands_type ss) i j

left_is : (c : Comparison) (t : TyTree) (i j : ℕ) → LeftHas c t → left_operand c i j t ≡ Ok t
left_is _ _ i j (of_any {c = c} {t = t} p) = ap (λ (b : Bool). cond b (Ok t) (passing is_ordered IntTy i j t)) p
left_is _ _ i j (by_size {c = c} {t = t} p o) = ap (λ (b : Bool). cond b (Ok t) (passing is_ordered IntTy i j t)) p ∙ passes is_ordered IntTy i j t o

later_complete : (t : TyTree) (ns : List Index) (u : TyTree) → Leads t ns u → later_items t ns ≡ Ok u
later_complete _ _ _ stays = refl
later_complete _ _ _ (goes {ts = ts} {t = t} {u = u} {n = n} {ns = ns} p more) = rw (p) (later_complete t ns u more)

projected_complete : (i j : ℕ) (t : TyTree) (ns : List Index) (u : TyTree) → Leads t ns u → projected i j t ns ≡ Ok u
projected_complete i j _ _ _ stays = refl
projected_complete i j _ _ _ (goes {ts = ts} {t = t} {u = u} {n = n} {ns = ns} p more) = rw (p) (later_complete t ns u more)

below : (m n : ℕ) → m < n → nat_lt m n ≡ true
below m n h = search (rules, h)

pub may_enter_is : (n : Name) (sc : List Entry) → IsFresh n.text sc → may_enter n sc ≡ Ok sc
may_enter_is n sc (fresh gone room) = rw (gone, below (length sc) 255 room) refl

pub entered_is : (n : Name) (t : TyTree) (sc : List Entry) → IsFresh n.text sc → entered n t sc ≡ Ok (with_name sc n.text t)
entered_is n t sc f = ap (λ (o : TypingResult (List Entry)). then_on o (λ _. Ok (with_name sc n.text t))) (may_enter_is n sc f)

same_number : (m n : ℕ) → m ≡ n → (m == n) ≡ true
same_number m n h = search (rules, h)

right_number_is : (i j : ℕ) (c : Callee) (n : ℕ) → n ≡ taken c → right_number i j c n ≡ Ok c
right_number_is i j c n h = rw (same_number n (taken c) h) refl

mutual
  pub complete : (hs : List Heading) (sc : List Entry) (e : Tree) (t : TyTree) → HasType hs sc e t → type_of hs sc e ≡ Ok t
  complete hs sc _ _ rule.literal = refl
  complete hs sc _ _ (rule.name {n = n} h) = rw h refl
  complete hs sc _ _ (rule.null {w = w} {t = t} h) = rw (written_complete w t h) refl
  complete hs sc _ _ (rule.empty {w = w} {t = t} h) = rw (written_complete w t h) refl
  complete hs sc _ _ (rule.chain {a = a} {ss = ss} {t = t} h f s) = rw (complete hs sc a t h, first_is ss t (at_of a) (end_of a) f)
      (operands_complete hs sc ss t s)
  complete hs sc _ _ (rule.compare {c = c} {a = a} {b = b} {t = t} h f k) =
      rw (complete hs sc a t h, left_is c t (at_of a) (end_of a) f, fitting_self t b (type_of hs sc b) (complete hs sc b t k)) refl
  complete hs sc _ _ (rule.prefix {p = p} {a = a} h) = fitting_self (prefix_type p) a (type_of hs sc a) (complete hs sc a (prefix_type p) h)
  complete hs sc _ _ (rule.project {a = a} {ns = ns} {t = t} {u = u} h l) = rw (complete hs sc a t h) (projected_complete (at_of a) (end_of a) t ns u l)
  complete hs sc _ _ (rule.tuple {es = es} {ts = ts} h) = rw (types_complete hs sc es ts h) refl
  complete hs sc _ _ (rule.list {e = e} {es = es} {t = t} h k) = rw (complete hs sc e t h, more_complete hs sc es t k) refl
  complete hs sc _ _ (rule.each {a = a} {b = b} {n = n} {t = t} {u = u} h f k) =
      rw (complete hs sc b (ListTy t) h, entered_is n t sc f, complete hs (with_name sc n.text t) a u k) refl
  complete hs sc _ _ (rule.if_alone {a = a} {b = b} h k) =
      rw (fitting_self BoolTy a (type_of hs sc a) (complete hs sc a BoolTy h), block_complete hs sc b UnitTy k)
      (matched_self UnitTy (answer_at b) (answer_end b))
  complete hs sc _ _ (rule.if_else {a = a} {b = b} {o = o} {t = t} h k l) =
      rw (fitting_self BoolTy a (type_of hs sc a) (complete hs sc a BoolTy h), block_complete hs sc b t k)
      (block_fitting_self t o (block_type hs sc o) (block_complete hs sc o t l))
  complete hs sc _ _ (rule.call {i = i} {j = j} {k = k} {n = n} {es = es} {c = c} {ts = ts} f m h g) =
      rw (f, right_number_is i j c (count es) m, arguments_complete hs sc c 0 es ts h g) refl
  complete hs sc _ _ (rule.effect {k = k} {a = a} h) = rw (fitting_self (effect_takes k) a (type_of hs sc a) (complete hs sc a (effect_takes k) h)) refl
  complete hs sc _ _ (rule.write {a = a} {b = b} {t = t} h k f) =
      rw (fitting_self PathTy a (type_of hs sc a) (complete hs sc a PathTy h), complete hs sc b t k, passes is_writable TextTy (at_of b) (end_of b) t f) refl
  complete hs sc _ _ (rule.fail {w = w} {a = a} {t = t} d h) = rw (
    written_complete w t d,
    fitting_self TextTy a (type_of hs sc a)
        (complete hs sc a TextTy h),
  ) refl

  operands_complete : (hs : List Heading) (sc : List Entry) (ss : Steps) (t : TyTree) → StepsHave hs sc ss t → operands hs sc t ss ≡ Ok t
  operands_complete hs sc _ _ rule.no_step = refl
  operands_complete hs sc _ _ (rule.a_step {e = e} {ss = ss} {t = t} h k) =
      rw (fitting_self t e (type_of hs sc e) (complete hs sc e t h)) (operands_complete hs sc ss t k)

  types_complete : (hs : List Heading) (sc : List Entry) (es : Trees) (ts : List TyTree) → HaveTypes hs sc es ts → types_of hs sc es ≡ Ok ts
  types_complete hs sc _ _ rule.no_part = refl
  types_complete hs sc _ _ (rule.a_part {e = e} {es = es} {t = t} {ts = ts} h k) = rw (complete hs sc e t h, types_complete hs sc es ts k) refl

  more_complete : (hs : List Heading) (sc : List Entry) (es : Trees) (t : TyTree) → AllHave hs sc es t → more_items hs sc t es ≡ Ok t
  more_complete hs sc _ _ rule.no_item = refl
  more_complete hs sc _ _ (rule.an_item {e = e} {es = es} {t = t} h k) =
      rw (fitting_self t e (type_of hs sc e) (complete hs sc e t h)) (more_complete hs sc es t k)

  arguments_complete : (hs : List Heading) (sc : List Entry) (c : Callee) (n : ℕ) (es : Trees) (ts : List TyTree) → HaveTypes hs sc es ts → Fit c n ts
      → arguments hs sc c n es ≡ Ok ts
  arguments_complete hs sc c n _ _ rule.no_part f = refl
  arguments_complete hs sc c n _ _ (rule.a_part {e = e} {es = es} {t = t} {ts = ts} h k) (rule.an_argument m f) =
      rw (complete hs sc e t h, m, arguments_complete hs sc c (n + 1) es ts k f) refl

  pub block_complete : (hs : List Heading) (sc : List Entry) (b : BlockTree) (t : TyTree) → BlockHas hs sc b t → block_type hs sc b ≡ Ok t
  block_complete hs sc _ _ (rule.no_last {inner = inner} {ls = ls} h) = rw (lines_complete hs sc ls inner h) refl
  block_complete hs sc _ _ (rule.a_last {inner = inner} {ls = ls} {e = e} {t = t} h k) = rw (lines_complete hs sc ls inner h) (complete hs inner e t k)

  lines_complete : (hs : List Heading) (sc : List Entry) (ls : LineTrees) (inner : List Entry) → LinesBring hs sc ls inner → after_lines hs sc ls ≡ Ok inner
  lines_complete hs sc _ _ rule.no_line = refl
  lines_complete hs sc _ _ (rule.a_val {inner = inner} {n = n} {e = e} {ls = ls} {t = t} h f k) =
      rw (complete hs sc e t h, entered_is n t sc f) (lines_complete hs (with_name sc n.text t) ls inner k)
  lines_complete hs sc _ _ (rule.an_expr {inner = inner} {e = e} {ls = ls} {t = t} h k) = rw (complete hs sc e t h) (lines_complete hs sc ls inner k)

-- an expression has one type
pub one_type : (hs : List Heading) (sc : List Entry) (e : Tree) (t u : TyTree) → HasType hs sc e t → HasType hs sc e u → t ≡ u
one_type hs sc e t u h k = ok_inj t u (sym (complete hs sc e t h) ∙ complete hs sc e u k)
