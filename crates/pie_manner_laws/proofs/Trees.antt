-- What an expression evaluates to, with more answers behind: form by form.
use Rattle.std.proofs.Common.{ℕ, true, false, cond, ◌==◌, List, [], ◌∷◌, length, reverse}
use Rattle.std.specs.Prelude.{Option, Some, None}
use Rattle.pie_base.specs.declared.fault.FaultKind.TheVariants.{Unknown}
use Rattle.pie_value.specs.declared.builtin.Builtin.TheVariants.{Path as PathOf}
use Rattle.pie_value.specs.declared.event.By.TheVariants.{Hash, Mark, Raw}
use Rattle.pie_value.specs.declared.event.How.TheVariants.{Whole, Hashed, Ran}
use Rattle.pie_value.specs.Tree.{Tree as Val, Trees as Vals, TUnit, TBool, TList, TTuple, TNull, Nil as NoVal, Cons as ConsVal}
use Rattle.pie_value.specs.BuiltinForms.{Answered}
use Rattle.pie_value.specs.Builtins.{answer_of}
use Rattle.pie_operators.specs.declared.asking.Observation.TheVariants as observations
use Rattle.pie_operators.specs.Operators.{unary_answer, binary_answer, list_with, tuple_with}
use Rattle.pie_operators.specs.Domain.{Act, give, fault, then_do, by_answer}
use Rattle.pie_operators.specs.Effects as run
use Rattle.pie_parser.specs.declared.tree.CallKind.{CallKind}
use Rattle.pie_parser.specs.declared.tree.CallKind.TheVariants as calls
use Rattle.pie_parser.specs.declared.tree.EffectKind.{EffectKind}
use Rattle.pie_parser.specs.declared.tree.EffectKind.TheVariants as effects
use Rattle.pie_parser.specs.declared.tree.Index.{Index}
use Rattle.pie_parser.specs.Plain.{Tree, TLiteral, TName, TNull as NullOf, TEmpty, TChain, TCompare, TPrefix, TProject, TTuple as TupleOf, TList as ListOf}
use Rattle.pie_parser.specs.Plain.{TEach, TIf, TCall, TEffect, TWrite, TFail, Trees, Nil, Cons, Steps, NoStep, AStep, BlockTree, TBlock}
use Rattle.pie_parser.specs.Plain.{LineTrees, NoLine, ValLine, ExprLine, LastTree, NoLast, ALast, ElseTree, NoElse, AnElse}
use Rattle.pie_semantics.specs.Words.{Env, look_up, found, literal_value, branch, Logic, Either, Both, Neither, by_logic, logic_of, infix_of}
use Rattle.pie_semantics.specs.Words.{comparison_of, prefix_of, item_numbered, projected, over, Callee, ABuiltin, ReadBytes, NoCallee, callee_of, callee_arity}
use Rattle.pie_semantics.specs.Words.{bytes_read, callee_answer, called, effect_of}
use Rattle.pie_semantics.specs.Meaning.{turns, value_of, either_value, both_value, steps_value, items_onto, values_of, block_value, lines_value, last_value}
use Rattle.pie_semantics.specs.Meaning.{else_value}
use Rattle.pie_manner_laws.proofs.Forms.{Polite, give_polite, fault_polite, then_polite, ticked_polite, ticked_then, answer_polite, cond_polite}
use Rattle.pie_manner_laws.proofs.Asking.{observe_polite, require_polite, write_polite, fail_polite}

-- ---- words

found_polite : (o : Option Val) → Polite (found o)
found_polite (Some v) = give_polite v
found_polite None = fault_polite Unknown

branch_polite : (v : Val) (first other : Act Val) → Polite first → Polite other → Polite (branch v first other)
branch_polite (TBool true) first other f g = f
branch_polite (TBool false) first other f g = g
branch_polite v first other f g = fault_polite Unknown

logic_polite : (l : Logic) (a b c : Val → Act Val) → ((v : Val) → Polite (a v)) → ((v : Val) → Polite (b v)) → ((v : Val) → Polite (c v))
    → (v : Val) → Polite (by_logic l a b c v)
logic_polite Either a b c f g h = f
logic_polite Both a b c f g h = g
logic_polite Neither a b c f g h = h

projected_polite : (ns : List Index) (v : Val) → Polite (projected ns v)
projected_polite [] v = give_polite v
projected_polite (n ∷ ns) v =
    then_polite (by_answer (item_numbered n.number v)) (projected ns) (answer_polite (item_numbered n.number v)) (projected_polite ns)

over_polite : (v : Val) (go : Vals → Act Val) → ((vs : Vals) → Polite (go vs)) → Polite (over v go)
over_polite (TList vs) go f = f vs
over_polite v go f = fault_polite Unknown

turns_polite : (f : Val → Act Val) → ((v : Val) → Polite (f v)) → (vs : Vals) (all : Val) → Polite (turns f vs all)
turns_polite f p NoVal all = give_polite all
turns_polite f p (ConsVal v vs) all =
    then_polite (f v) (λ w. then_do (by_answer (list_with all w)) (turns f vs)) (p v)
    (λ w. then_polite (by_answer (list_with all w)) (turns f vs) (answer_polite (list_with all w)) (turns_polite f p vs))

-- ---- calls

read_polite : (ts : List Val) → Polite (bytes_read ts)
read_polite [] = fault_polite Unknown
read_polite (t ∷ []) = observe_polite (observations.Read Raw) t
read_polite (t ∷ u ∷ ts) = fault_polite Unknown

callee_polite : (c : Callee) (ts : List Val) → Polite (callee_answer c ts)
callee_polite (ABuiltin which) ts = answer_polite (answer_of which ts)
callee_polite ReadBytes ts = read_polite ts
callee_polite NoCallee ts = fault_polite Unknown

plainly_polite : (c : Callee) (ts : List Val) → Polite (cond (length ts == callee_arity c) (callee_answer c ts) (fault Unknown))
plainly_polite c ts = cond_polite (length ts == callee_arity c) (callee_answer c ts) (fault Unknown) (callee_polite c ts) (fault_polite Unknown)

called_polite : (k : CallKind) (n : List ℕ) (ts : List Val) → Polite (called k n ts)
called_polite calls.Plain n ts = plainly_polite (callee_of n) ts
called_polite calls.Require n ts = require_polite Whole n ts
called_polite calls.RequireByHash n ts = require_polite Hashed n ts
called_polite calls.Run n ts = require_polite Ran n ts

effect_polite : (k : EffectKind) (t : Val) → Polite (effect_of k t)
effect_polite effects.Path t = answer_polite (answer_of PathOf (t ∷ []))
effect_polite effects.Exists t = observe_polite observations.Exists t
effect_polite effects.Digest t = observe_polite observations.Digest t
effect_polite effects.List t = observe_polite observations.List t
effect_polite effects.Read t = observe_polite (observations.Read Hash) t
effect_polite effects.ReadByHash t = observe_polite (observations.Read Hash) t
effect_polite effects.ReadByMark t = observe_polite (observations.Read Mark) t

-- ---- trees

mutual
  pub value_polite : (e : Tree) (env : Env) → Polite (value_of e env)
  value_polite (TLiteral i j l) env = ticked_polite (by_answer (literal_value l)) (answer_polite (literal_value l))
  value_polite (TName i j n) env = ticked_polite (found (look_up n env)) (found_polite (look_up n env))
  value_polite (NullOf i j t) env = ticked_polite (give TNull) (give_polite TNull)
  value_polite (TEmpty i j t) env = ticked_polite (give (TList NoVal)) (give_polite (TList NoVal))
  value_polite (TChain i j a ss) env =
      let go : Val → Act Val = by_logic (logic_of ss) (either_value ss env) (both_value ss env) (steps_value ss env) in
      ticked_then (value_of a env) go (value_polite a env)
      (logic_polite (logic_of ss) (either_value ss env) (both_value ss env) (steps_value ss env)
      (either_polite ss env) (both_polite ss env) (steps_polite ss env))
  value_polite (TCompare i j c a b) env =
      ticked_then (value_of a env) (λ v. then_do (value_of b env) (λ w. by_answer (binary_answer (comparison_of c) v w))) (value_polite a env)
      (λ v. then_polite (value_of b env) (λ w. by_answer (binary_answer (comparison_of c) v w)) (value_polite b env)
      (λ w. answer_polite (binary_answer (comparison_of c) v w)))
  value_polite (TPrefix i j p a) env =
      ticked_then (value_of a env) (λ v. by_answer (unary_answer (prefix_of p) v)) (value_polite a env) (λ v. answer_polite (unary_answer (prefix_of p) v))
  value_polite (TProject i j a ns) env = ticked_then (value_of a env) (projected ns) (value_polite a env) (projected_polite ns)
  value_polite (TupleOf i j es) env = ticked_polite (items_onto tuple_with es env (TTuple NoVal)) (items_polite tuple_with es env (TTuple NoVal))
  value_polite (ListOf i j es) env = ticked_polite (items_onto list_with es env (TList NoVal)) (items_polite list_with es env (TList NoVal))
  value_polite (TEach i j a n b) env =
      let body : Val → Act Val = λ w. value_of a ((n.text, w) ∷ env) in
      ticked_then (value_of b env) (λ v. over v (λ vs. turns body vs (TList NoVal))) (value_polite b env)
      (λ v. over_polite v (λ vs. turns body vs (TList NoVal))
      (λ vs. turns_polite body (λ w. value_polite a ((n.text, w) ∷ env)) vs (TList NoVal)))
  value_polite (TIf i j a b o) env =
      ticked_then (value_of a env) (λ v. branch v (block_value b env) (else_value o env)) (value_polite a env)
      (λ v. branch_polite v (block_value b env) (else_value o env) (block_polite b env) (else_polite o env))
  value_polite (TCall i j k n es) env =
      ticked_then (values_of es env []) (λ vs. called k n.text (reverse vs)) (values_polite es env []) (λ vs. called_polite k n.text (reverse vs))
  value_polite (TEffect i j k a) env = ticked_then (value_of a env) (effect_of k) (value_polite a env) (effect_polite k)
  value_polite (TWrite i j a b) env =
      ticked_then (value_of a env) (λ v. then_do (value_of b env) (run.write v)) (value_polite a env)
      (λ v. then_polite (value_of b env) (run.write v) (value_polite b env) (write_polite v))
  value_polite (TFail i j t a) env = ticked_then (value_of a env) run.fail (value_polite a env) fail_polite

  either_polite : (ss : Steps) (env : Env) (v : Val) → Polite (either_value ss env v)
  either_polite NoStep env v = give_polite v
  either_polite (AStep o e ss) env v =
      branch_polite v (give (TBool true)) (then_do (value_of e env) (either_value ss env)) (give_polite (TBool true))
      (then_polite (value_of e env) (either_value ss env) (value_polite e env) (either_polite ss env))

  both_polite : (ss : Steps) (env : Env) (v : Val) → Polite (both_value ss env v)
  both_polite NoStep env v = give_polite v
  both_polite (AStep o e ss) env v =
      branch_polite v (then_do (value_of e env) (both_value ss env)) (give (TBool false))
      (then_polite (value_of e env) (both_value ss env) (value_polite e env) (both_polite ss env)) (give_polite (TBool false))

  steps_polite : (ss : Steps) (env : Env) (v : Val) → Polite (steps_value ss env v)
  steps_polite NoStep env v = give_polite v
  steps_polite (AStep o e ss) env v =
      then_polite (value_of e env) (λ w. then_do (by_answer (binary_answer (infix_of o) v w)) (steps_value ss env)) (value_polite e env)
      (λ w. then_polite (by_answer (binary_answer (infix_of o) v w)) (steps_value ss env) (answer_polite (binary_answer (infix_of o) v w))
      (steps_polite ss env))

  items_polite : (grow : Val → Val → Answered) (es : Trees) (env : Env) (all : Val) → Polite (items_onto grow es env all)
  items_polite grow Nil env all = give_polite all
  items_polite grow (Cons e es) env all =
      then_polite (value_of e env) (λ v. then_do (by_answer (grow all v)) (items_onto grow es env)) (value_polite e env)
      (λ v. then_polite (by_answer (grow all v)) (items_onto grow es env) (answer_polite (grow all v)) (items_polite grow es env))

  values_polite : (es : Trees) (env : Env) (vs : List Val) → Polite (values_of es env vs)
  values_polite Nil env vs = give_polite vs
  values_polite (Cons e es) env vs =
      then_polite (value_of e env) (λ v. values_of es env (v ∷ vs)) (value_polite e env) (λ v. values_polite es env (v ∷ vs))

  pub block_polite : (b : BlockTree) (env : Env) → Polite (block_value b env)
  block_polite (TBlock i j ls l) env = lines_polite ls env (last_value l) (last_polite l)

  lines_polite : (ls : LineTrees) (env : Env) (go : Env → Act Val) → ((env : Env) → Polite (go env)) → Polite (lines_value ls env go)
  lines_polite NoLine env go f = f env
  lines_polite (ValLine i j n e ls) env go f =
      then_polite (value_of e env) (λ v. lines_value ls ((n.text, v) ∷ env) go) (value_polite e env)
      (λ v. lines_polite ls ((n.text, v) ∷ env) go f)
  lines_polite (ExprLine e ls) env go f =
      then_polite (value_of e env) (λ v. lines_value ls env go) (value_polite e env) (λ v. lines_polite ls env go f)

  last_polite : (l : LastTree) (env : Env) → Polite (last_value l env)
  last_polite NoLast env = give_polite TUnit
  last_polite (ALast e) env = value_polite e env

  else_polite : (o : ElseTree) (env : Env) → Polite (else_value o env)
  else_polite NoElse env = give_polite TUnit
  else_polite (AnElse b) env = block_polite b env
