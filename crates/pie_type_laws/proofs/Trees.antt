-- A typed expression is never stuck: form by form.
use Rattle.std.proofs.Common.{◌≡◌, List, [], ◌∷◌, length, reverse, refl, sym, ◌∙◌, arith}
use Rattle.pie_value.specs.Tree.{TUnit, TNull, TList, TTuple, Nil as NoVal}
use Rattle.pie_value.specs.Tree.{Tree as Val}
use Rattle.pie_value.specs.Types.{TyTree, UnitTy, BoolTy, TextTy, PathTy, ListTy, TupleTy, NullableTy, parts_of}
use Rattle.pie_operators.specs.Operators.{unary_answer, binary_answer}
use Rattle.pie_operators.specs.Domain.{Act, give, then_do, by_answer}
use Rattle.pie_operators.specs.Effects as run
use Rattle.pie_parser.specs.Plain.{Tree, Trees, Cons, Steps, BlockTree, LineTrees, NoLast, ALast}
use Rattle.pie_parser.specs.Plain.{NoElse, AnElse}
use Rattle.pie_types.specs.Scope.{Entry, with_name}
use Rattle.pie_types.specs.Headings.{Heading}
use Rattle.pie_types.specs.Operators.{literal_type, prefix_type, effect_takes, effect_gives}
use Rattle.pie_types.specs.Calls.{answer}
use Rattle.pie_types.specs.Checking.{count}
use Rattle.pie_types.specs.inner.Rules as rule
use Rattle.pie_types.specs.inner.Rules.{HasType, StepsHave, AllHave, HaveTypes, BlockHas, LinesBring}
use Rattle.pie_semantics.specs.Words.{Env, look_up, branch, literal_value, comparison_of, prefix_of, projected, over, called, effect_of}
use Rattle.pie_semantics.specs.Meaning.{turns, value_of, values_of, block_value, lines_value, last_value, else_value}
use Rattle.pie_type_laws.specs.Fitting.{IsOf}
use Rattle.pie_type_laws.proofs.Acts.{Sound, give_sound, then_sound, ticked_sound, answer_sound}
use Rattle.pie_type_laws.proofs.Operators.{prefix_good, compare_good}
use Rattle.pie_type_laws.proofs.Names.{Scoped, grows}
use Rattle.pie_type_laws.proofs.Asking.{write_sound, fail_sound}
use Rattle.pie_type_laws.proofs.Called.{call_sound, effect_sound}
use Rattle.pie_type_laws.proofs.Parts.{literal_good, found_sound, branch_sound, SoundSteps, SoundAll, SoundEach, goes_on, chain_sound, projected_sound}
use Rattle.pie_type_laws.proofs.Parts.{all_sound, each_sound, Turned, values_sound, turns_sound, over_sound}

-- as many types as expressions
types_count : (hs : List Heading) (sc : List Entry) (es : Trees) (ts : List TyTree) → HaveTypes hs sc es ts → count es ≡ length ts
types_count _ _ _ _ rule.no_part = refl
types_count _ _ _ _ (rule.a_part {hs = hs} {sc = sc} {es = es} {ts = ts} d more) = let e = types_count hs sc es ts more in omega (arith, e)

mutual
  pub tree_sound : (hs : List Heading) (sc : List Entry) (e : Tree) (t : TyTree) → HasType hs sc e t → (env : Env) → Scoped sc env
      → Sound hs (IsOf t) (value_of e env)
  tree_sound hs sc _ _ (rule.literal {l = l}) env ok =
      ticked_sound hs (IsOf (literal_type l)) (by_answer (literal_value l)) (answer_sound hs (literal_type l) (literal_value l) (literal_good l))
  tree_sound hs sc _ _ (rule.name {n = n} {t = t} h) env ok =
      let p = ok n t h in ticked_sound hs (IsOf t) _ (found_sound hs t (look_up n env) p.0 p.1 p.2)
  tree_sound hs sc _ _ (rule.null {t = t} d) env ok = ticked_sound hs (IsOf (NullableTy t)) (give TNull) (give_sound hs (IsOf (NullableTy t)) TNull refl)
  tree_sound hs sc _ _ (rule.empty {t = t} d) env ok =
      ticked_sound hs (IsOf (ListTy t)) (give (TList NoVal)) (give_sound hs (IsOf (ListTy t)) (TList NoVal) refl)
  tree_sound hs sc _ _ (rule.chain {a = a} {ss = ss} {t = t} d f s) env ok =
      ticked_sound hs (IsOf t) (then_do (value_of a env) (goes_on ss env))
      (then_sound hs (IsOf t) (IsOf t) (value_of a env) (goes_on ss env) (tree_sound hs sc a t d env ok)
      (chain_sound hs ss t env f (steps_sound hs sc ss t s env ok)))
  tree_sound hs sc _ _ (rule.compare {c = c} {a = a} {b = b} {t = t} d f e) env ok =
      ticked_sound hs (IsOf BoolTy) _
      (then_sound hs (IsOf t) (IsOf BoolTy) (value_of a env) (λ v. then_do (value_of b env) (λ x. by_answer (binary_answer (comparison_of c) v x)))
      (tree_sound hs sc a t d env ok)
      (λ v p. then_sound hs (IsOf t) (IsOf BoolTy) (value_of b env) (λ x. by_answer (binary_answer (comparison_of c) v x)) (tree_sound hs sc b t e env ok)
      (λ x q. answer_sound hs BoolTy (binary_answer (comparison_of c) v x) (compare_good c t f v x p q))))
  tree_sound hs sc _ _ (rule.prefix {p = p} {a = a} d) env ok =
      ticked_sound hs (IsOf (prefix_type p)) _
      (then_sound hs (IsOf (prefix_type p)) (IsOf (prefix_type p)) (value_of a env) (λ v. by_answer (unary_answer (prefix_of p) v))
      (tree_sound hs sc a (prefix_type p) d env ok)
      (λ v h. answer_sound hs (prefix_type p) (unary_answer (prefix_of p) v) (prefix_good p v h)))
  tree_sound hs sc _ _ (rule.project {a = a} {ns = ns} {t = t} {u = u} d l) env ok =
      ticked_sound hs (IsOf u) _ (then_sound hs (IsOf t) (IsOf u) (value_of a env) (projected ns)
      (tree_sound hs sc a t d env ok) (projected_sound hs t ns u l))
  tree_sound hs sc _ _ (rule.tuple {es = es} {ts = ts} d) env ok =
      ticked_sound hs (IsOf (TupleTy (parts_of ts))) _ (each_sound hs [] es ts env (types_sound hs sc es ts d env ok) (TTuple NoVal) refl)
  tree_sound hs sc _ _ (rule.list {e = e} {es = es} {t = t} d more) env ok =
      ticked_sound hs (IsOf (ListTy t)) _
      (all_sound hs t (Cons e es) env (tree_sound hs sc e t d env ok, items_sound hs sc es t more env ok) (TList NoVal) refl)
  tree_sound hs sc _ _ (rule.each {a = a} {b = b} {n = n} {t = t} {u = u} d f e) env ok =
      let body : Val → Act Val = λ x. value_of a ((n.text, x) ∷ env) in
      ticked_sound hs (IsOf (ListTy u)) _
      (then_sound hs (IsOf (ListTy t)) (IsOf (ListTy u)) (value_of b env) (λ v. over v (λ vs. turns body vs (TList NoVal)))
      (tree_sound hs sc b (ListTy t) d env ok)
      (λ v p. over_sound hs t (ListTy u) v (λ vs. turns body vs (TList NoVal)) p
      (λ vs q. turns_sound hs t u body
      (λ x h. tree_sound hs (with_name sc n.text t) a u e ((n.text, x) ∷ env) (grows n.text t sc env x f ok h)) vs q (TList NoVal) refl)))
  tree_sound hs sc _ _ (rule.if_alone {a = a} {b = b} d e) env ok =
      ticked_sound hs (IsOf UnitTy) _
      (then_sound hs (IsOf BoolTy) (IsOf UnitTy) (value_of a env) (λ v. branch v (block_value b env) (else_value NoElse env))
      (tree_sound hs sc a BoolTy d env ok)
      (λ v p. branch_sound hs UnitTy v (block_value b env) (else_value NoElse env) p (block_sound hs sc b UnitTy e env ok)
      (give_sound hs (IsOf UnitTy) TUnit refl)))
  tree_sound hs sc _ _ (rule.if_else {a = a} {b = b} {o = o} {t = t} d e f) env ok =
      ticked_sound hs (IsOf t) _
      (then_sound hs (IsOf BoolTy) (IsOf t) (value_of a env) (λ v. branch v (block_value b env) (else_value (AnElse o) env))
      (tree_sound hs sc a BoolTy d env ok)
      (λ v p. branch_sound hs t v (block_value b env) (else_value (AnElse o) env) p (block_sound hs sc b t e env ok) (block_sound hs sc o t f env ok)))
  tree_sound hs sc _ _ (rule.call {k = k} {n = n} {es = es} {c = c} {ts = ts} e m d f) env ok =
      ticked_sound hs (IsOf (answer k c ts)) _
      (then_sound hs (Turned ts) (IsOf (answer k c ts)) (values_of es env []) (λ vs. called k n.text (reverse vs))
      (values_sound hs [] es ts env (types_sound hs sc es ts d env ok) [] refl)
      (λ vs p. call_sound hs k n.text c ts (reverse vs) e (sym (types_count hs sc es ts d) ∙ m) f p))
  tree_sound hs sc _ _ (rule.effect {k = k} {a = a} d) env ok =
      ticked_sound hs (IsOf (effect_gives k)) _
      (then_sound hs (IsOf (effect_takes k)) (IsOf (effect_gives k)) (value_of a env) (effect_of k)
      (tree_sound hs sc a (effect_takes k) d env ok) (effect_sound hs k))
  tree_sound hs sc _ _ (rule.write {a = a} {b = b} {t = t} d e f) env ok =
      ticked_sound hs (IsOf UnitTy) _
      (then_sound hs (IsOf PathTy) (IsOf UnitTy) (value_of a env) (λ v. then_do (value_of b env) (run.write v)) (tree_sound hs sc a PathTy d env ok)
      (λ v p. then_sound hs (IsOf t) (IsOf UnitTy) (value_of b env) (run.write v) (tree_sound hs sc b t e env ok)
      (λ x q. write_sound hs t f v x p q)))
  tree_sound hs sc _ _ (rule.fail {a = a} {t = t} k d) env ok =
      ticked_sound hs (IsOf t) _
      (then_sound hs (IsOf TextTy) (IsOf t) (value_of a env) run.fail (tree_sound hs sc a TextTy d env ok) (fail_sound hs t))

  steps_sound : (hs : List Heading) (sc : List Entry) (ss : Steps) (t : TyTree) → StepsHave hs sc ss t → (env : Env) → Scoped sc env
      → SoundSteps hs t ss env
  steps_sound hs sc _ _ rule.no_step env ok = tt
  steps_sound hs sc _ _ (rule.a_step {e = e} {ss = ss} {t = t} d more) env ok = (tree_sound hs sc e t d env ok, steps_sound hs sc ss t more env ok)

  items_sound : (hs : List Heading) (sc : List Entry) (es : Trees) (t : TyTree) → AllHave hs sc es t → (env : Env) → Scoped sc env
      → SoundAll hs t es env
  items_sound hs sc _ _ rule.no_item env ok = tt
  items_sound hs sc _ _ (rule.an_item {e = e} {es = es} {t = t} d more) env ok = (tree_sound hs sc e t d env ok, items_sound hs sc es t more env ok)

  types_sound : (hs : List Heading) (sc : List Entry) (es : Trees) (ts : List TyTree) → HaveTypes hs sc es ts → (env : Env) → Scoped sc env
      → SoundEach hs es ts env
  types_sound hs sc _ _ rule.no_part env ok = tt
  types_sound hs sc _ _ (rule.a_part {e = e} {es = es} {t = t} {ts = ts} d more) env ok =
      (tree_sound hs sc e t d env ok, types_sound hs sc es ts more env ok)

  pub block_sound : (hs : List Heading) (sc : List Entry) (b : BlockTree) (t : TyTree) → BlockHas hs sc b t → (env : Env) → Scoped sc env
      → Sound hs (IsOf t) (block_value b env)
  block_sound hs sc _ _ (rule.no_last {inner = inner} {ls = ls} l) env ok =
      lines_sound hs sc ls inner l UnitTy (last_value NoLast) (λ env ok. give_sound hs (IsOf UnitTy) TUnit refl) env ok
  block_sound hs sc _ _ (rule.a_last {inner = inner} {ls = ls} {e = e} {t = t} l d) env ok =
      lines_sound hs sc ls inner l t (last_value (ALast e)) (λ env ok. tree_sound hs inner e t d env ok) env ok

  lines_sound : (hs : List Heading) (sc : List Entry) (ls : LineTrees) (inner : List Entry) → LinesBring hs sc ls inner
      → (t : TyTree) (go : Env → Act Val) → ((env : Env) → Scoped inner env → Sound hs (IsOf t) (go env)) → (env : Env) → Scoped sc env
      → Sound hs (IsOf t) (lines_value ls env go)
  lines_sound hs sc _ _ rule.no_line t go s env ok = s env ok
  lines_sound hs sc _ _ (rule.a_val {inner = inner} {n = n} {e = e} {ls = ls} {t = u} d f more) t go s env ok =
      then_sound hs (IsOf u) (IsOf t) (value_of e env) (λ v. lines_value ls ((n.text, v) ∷ env) go) (tree_sound hs sc e u d env ok)
      (λ v h. lines_sound hs (with_name sc n.text u) ls inner more t go s ((n.text, v) ∷ env) (grows n.text u sc env v f ok h))
  lines_sound hs sc _ _ (rule.an_expr {inner = inner} {e = e} {ls = ls} {t = u} d more) t go s env ok =
      then_sound hs (IsOf u) (IsOf t) (value_of e env) (λ v. lines_value ls env go) (tree_sound hs sc e u d env ok)
      (λ v h. lines_sound hs sc ls inner more t go s env ok)
