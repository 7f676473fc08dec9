-- Meaning doesn't see spans.
use Rattle.std.proofs.Common.{◌≡◌, true, false, List, [], ◌∷◌, reverse, refl, sym, ap, ◌∙◌}
use Rattle.pie_value.specs.declared.event.Answer.{Answer}
use Rattle.pie_value.specs.Tree.{TBool, TList, TTuple, Nil as NoVal}
use Rattle.pie_value.specs.Tree.{Tree as Val}
use Rattle.pie_value.specs.BuiltinForms.{Answered}
use Rattle.pie_operators.specs.Operators.{unary_answer, binary_answer, list_with, tuple_with}
use Rattle.pie_operators.specs.Domain.{at_start, Act, give, then_do, ticked, by_answer}
use Rattle.pie_operators.specs.Effects.{write, fail}
use Rattle.pie_parser.specs.declared.tree.Index.{Index}
use Rattle.pie_parser.specs.declared.tree.Param.{Param}
use Rattle.pie_parser.specs.FunctionTrees.{FunctionTree}
use Rattle.pie_parser.specs.Plain.{Tree, TLiteral, TName, TNull as NullOf, TEmpty, TChain, TCompare, TPrefix, TProject, TTuple as TupleOf, TList as ListOf}
use Rattle.pie_parser.specs.Plain.{TEach, TIf, TCall, TEffect, TWrite, TFail, Trees, Nil, Cons, Steps, NoStep, AStep, BlockTree, TBlock}
use Rattle.pie_parser.specs.Plain.{LineTrees, NoLine, ValLine, ExprLine, LastTree, NoLast, ALast, ElseTree, NoElse, AnElse}
use Rattle.pie_semantics.specs.Words.{Env, branch, by_logic, logic_of, infix_of}
use Rattle.pie_semantics.specs.Words.{comparison_of, prefix_of, projected, item_numbered, over, called, effect_of}
use Rattle.pie_semantics.specs.Meaning.{turns, value_of, either_value, both_value, steps_value, items_onto, values_of, block_value, lines_value, last_value}
use Rattle.pie_semantics.specs.Meaning.{else_value, bound, next_of}
use Rattle.pie_spelling_laws.specs.Spans.{bare_indices, bare, bare_trees, bare_steps, bare_block, bare_lines, bare_last, bare_else, bare_params, bare_function}

logic_same : (ss : Steps) → logic_of (bare_steps ss) ≡ logic_of ss
logic_same NoStep = refl
logic_same (AStep o e ss) = refl

projected_same : (ns : List Index) (v : Val) → projected (bare_indices ns) v ≡ projected ns v
projected_same [] v = refl
projected_same (n ∷ ns) v = λ k. then_do (by_answer (item_numbered n.number v)) (λ w. projected_same ns w k)

mutual
  pub value_same : (t : Tree) (env : Env) → value_of (bare t) env ≡ value_of t env
  value_same (TLiteral i j l) env = refl
  value_same (TName i j n) env = refl
  value_same (NullOf i j t) env = refl
  value_same (TEmpty i j t) env = refl
  value_same (TChain i j a ss) env = λ k. ticked (then_do (value_same a env k)
      (by_logic (logic_same ss k) (λ v. either_same ss env v k) (λ v. both_same ss env v k) (λ v. steps_same ss env v k)))
  value_same (TCompare i j c a b) env =
      λ k. ticked (then_do (value_same a env k) (λ v. then_do (value_same b env k) (λ w. by_answer (binary_answer (comparison_of c) v w))))
  value_same (TPrefix i j p a) env = λ k. ticked (then_do (value_same a env k) (λ v. by_answer (unary_answer (prefix_of p) v)))
  value_same (TProject i j a ns) env = λ k. ticked (then_do (value_same a env k) (λ v. projected_same ns v k))
  value_same (TupleOf i j es) env = λ k. ticked (items_same tuple_with es env (TTuple NoVal) k)
  value_same (ListOf i j es) env = λ k. ticked (items_same list_with es env (TList NoVal) k)
  value_same (TEach i j a n b) env =
      λ k. ticked (then_do (value_same b env k) (λ v. over v (λ vs. turns (λ w. value_same a ((n.text, w) ∷ env) k) vs (TList NoVal))))
  value_same (TIf i j a b o) env = λ k. ticked (then_do (value_same a env k) (λ v. branch v (block_same b env k) (else_same o env k)))
  value_same (TCall i j c n es) env = λ k. ticked (then_do (values_same es env [] k) (λ vs. called c n.text (reverse vs)))
  value_same (TEffect i j e a) env = λ k. ticked (then_do (value_same a env k) (effect_of e))
  value_same (TWrite i j a b) env = λ k. ticked (then_do (value_same a env k) (λ v. then_do (value_same b env k) (write v)))
  value_same (TFail i j t a) env = λ k. ticked (then_do (value_same a env k) fail)

  either_same : (ss : Steps) (env : Env) (v : Val) → either_value (bare_steps ss) env v ≡ either_value ss env v
  either_same NoStep env v = refl
  either_same (AStep o e ss) env v = λ k. branch v (give (TBool true)) (then_do (value_same e env k) (λ w. either_same ss env w k))

  both_same : (ss : Steps) (env : Env) (v : Val) → both_value (bare_steps ss) env v ≡ both_value ss env v
  both_same NoStep env v = refl
  both_same (AStep o e ss) env v = λ k. branch v (then_do (value_same e env k) (λ w. both_same ss env w k)) (give (TBool false))

  steps_same : (ss : Steps) (env : Env) (v : Val) → steps_value (bare_steps ss) env v ≡ steps_value ss env v
  steps_same NoStep env v = refl
  steps_same (AStep o e ss) env v =
      λ k. then_do (value_same e env k) (λ w. then_do (by_answer (binary_answer (infix_of o) v w)) (λ x. steps_same ss env x k))

  items_same : (grow : Val → Val → Answered) (es : Trees) (env : Env) (all : Val) → items_onto grow (bare_trees es) env all ≡ items_onto grow es env all
  items_same grow Nil env all = refl
  items_same grow (Cons e es) env all =
      λ k. then_do (value_same e env k) (λ v. then_do (by_answer (grow all v)) (λ w. items_same grow es env w k))

  values_same : (es : Trees) (env : Env) (vs : List Val) → values_of (bare_trees es) env vs ≡ values_of es env vs
  values_same Nil env vs = refl
  values_same (Cons e es) env vs = λ k. then_do (value_same e env k) (λ v. values_same es env (v ∷ vs) k)

  pub block_same : (b : BlockTree) (env : Env) → block_value (bare_block b) env ≡ block_value b env
  block_same (TBlock i j ls l) env = λ k. lines_then ls env (last_value (bare_last l)) (last_value l) (λ x. last_same l x) k

  lines_then : (ls : LineTrees) (env : Env) (go on : Env → Act Val) → ((x : Env) → go x ≡ on x) → lines_value (bare_lines ls) env go ≡ lines_value ls env on
  lines_then NoLine env go on h = h env
  lines_then (ValLine i j n e ls) env go on h = λ k. then_do (value_same e env k) (λ v. lines_then ls ((n.text, v) ∷ env) go on h k)
  lines_then (ExprLine e ls) env go on h = λ k. then_do (value_same e env k) (λ v. lines_then ls env go on h k)

  last_same : (l : LastTree) (env : Env) → last_value (bare_last l) env ≡ last_value l env
  last_same NoLast env = refl
  last_same (ALast e) env = value_same e env

  else_same : (o : ElseTree) (env : Env) → else_value (bare_else o) env ≡ else_value o env
  else_same NoElse env = refl
  else_same (AnElse b) env = block_same b env

bound_same : (ps : List Param) (vs : List Val) (env : Env) → bound (bare_params ps) vs env ≡ bound ps vs env
bound_same [] vs env = refl
bound_same (p ∷ ps) [] env = refl
bound_same (p ∷ ps) (v ∷ vs) env = bound_same ps vs ((p.name.text, v) ∷ env)

-- what a function evaluates to is what it evaluates to without its spans
pub next_same : (f : FunctionTree) (args : List Val) (answers : List Answer) → next_of (bare_function f) args answers ≡ next_of f args answers
next_same f args answers =
    ap (λ env. block_value (bare_block f.body) env (at_start answers)) (bound_same f.params args [])
    ∙ ap (λ act. act (at_start answers)) (block_same f.body (bound f.params args []))

-- functions that are equal up to spans mean the same
pub equal_up_to_spans : (f g : FunctionTree) → bare_function f ≡ bare_function g → (args : List Val) (answers : List Answer)
    → next_of f args answers ≡ next_of g args answers
equal_up_to_spans f g e args answers = sym (next_same f args answers) ∙ ap (λ h. next_of h args answers) e ∙ next_same g args answers
