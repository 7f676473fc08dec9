-- The meaning of a function's tree, fed with answers: one tick for each node, before its parts, and the parts from left to right.
use Rattle.std.specs.Prelude.{ℕ, Bool, true, false, List, [], ◌∷◌, reverse, Option, Some, None}
use Rattle.pie_value.specs.declared.event.Answer.{Answer}
use Rattle.pie_value.specs.Tree.{TUnit, TBool, TList, TTuple, TNull, Nil as NoVal, Cons as ConsVal, Trees as Vals}
use Rattle.pie_value.specs.Tree.{Tree as Val}
use Rattle.pie_value.specs.BuiltinForms.{Answered}
use Rattle.pie_operators.specs.Operators.{unary_answer, binary_answer, list_with, tuple_with}
use Rattle.pie_operators.specs.Domain.{Outcome, State, at_start, Act, give, then_do, ticked, by_answer}
use Rattle.pie_operators.specs.Effects.{write, fail}
use Rattle.pie_parser.specs.declared.tree.Param.{Param}
use Rattle.pie_parser.specs.FunctionTrees.{FunctionTree}
use Rattle.pie_parser.specs.Plain.{Tree, TLiteral, TName, TNull as NullOf, TEmpty, TChain, TCompare, TPrefix, TProject, TTuple as TupleOf, TList as ListOf}
use Rattle.pie_parser.specs.Plain.{TEach, TIf, TCall, TEffect, TWrite, TFail, Trees, Nil, Cons, Steps, NoStep, AStep, BlockTree, TBlock}
use Rattle.pie_parser.specs.Plain.{LineTrees, NoLine, ValLine, ExprLine, LastTree, NoLast, ALast, ElseTree, NoElse, AnElse}
use Rattle.pie_semantics.specs.Words.{Env, look_up, found, literal_value, branch, by_logic, logic_of, infix_of}
use Rattle.pie_semantics.specs.Words.{comparison_of, prefix_of, projected, over, called, effect_of}

-- a value for each item, put onto a list one after another
abbrev pub turns : (Val → Act Val) → Vals → Val → Act Val
turns f NoVal all = give all
turns f (ConsVal v vs) all = then_do (f v) (λ w. then_do (by_answer (list_with all w)) (turns f vs))

abbrev mutual
  -- the value of an expression
  pub value_of : Tree → Env → Act Val
  value_of (TLiteral i j l) env = ticked (by_answer (literal_value l))
  value_of (TName i j n) env = ticked (found (look_up n env))
  value_of (NullOf i j t) env = ticked (give TNull)
  value_of (TEmpty i j t) env = ticked (give (TList NoVal))
  value_of (TChain i j a ss) env = ticked (then_do (value_of a env) (by_logic (logic_of ss) (either_value ss env) (both_value ss env) (steps_value ss env)))
  value_of (TCompare i j c a b) env = ticked (then_do (value_of a env) (λ v. then_do (value_of b env) (λ w. by_answer (binary_answer (comparison_of c) v w))))
  value_of (TPrefix i j p a) env = ticked (then_do (value_of a env) (λ v. by_answer (unary_answer (prefix_of p) v)))
  value_of (TProject i j a ns) env = ticked (then_do (value_of a env) (projected ns))
  value_of (TupleOf i j es) env = ticked (items_onto tuple_with es env (TTuple NoVal))
  value_of (ListOf i j es) env = ticked (items_onto list_with es env (TList NoVal))
  value_of (TEach i j a n b) env =
      ticked (then_do (value_of b env) (λ v. over v (λ vs. turns (λ w. value_of a ((n.text, w) ∷ env)) vs (TList NoVal))))
  value_of (TIf i j a b o) env = ticked (then_do (value_of a env) (λ v. branch v (block_value b env) (else_value o env)))
  value_of (TCall i j k n es) env = ticked (then_do (values_of es env []) (λ vs. called k n.text (reverse vs)))
  value_of (TEffect i j k a) env = ticked (then_do (value_of a env) (effect_of k))
  value_of (TWrite i j a b) env = ticked (then_do (value_of a env) (λ v. then_do (value_of b env) (write v)))
  value_of (TFail i j t a) env = ticked (then_do (value_of a env) fail)

  -- true as soon as an operand is
  pub either_value : Steps → Env → Val → Act Val
  either_value NoStep env v = give v
  either_value (AStep o e ss) env v = branch v (give (TBool true)) (then_do (value_of e env) (either_value ss env))

  -- false as soon as an operand is
  pub both_value : Steps → Env → Val → Act Val
  both_value NoStep env v = give v
  both_value (AStep o e ss) env v = branch v (then_do (value_of e env) (both_value ss env)) (give (TBool false))

  -- each operator is applied as soon as the operand behind it has its value
  pub steps_value : Steps → Env → Val → Act Val
  steps_value NoStep env v = give v
  steps_value (AStep o e ss) env v = then_do (value_of e env) (λ w. then_do (by_answer (binary_answer (infix_of o) v w)) (steps_value ss env))

  -- the items of a list or a tuple, put onto it one after another
  pub items_onto : (Val → Val → Answered) → Trees → Env → Val → Act Val
  items_onto grow Nil env all = give all
  items_onto grow (Cons e es) env all = then_do (value_of e env) (λ v. then_do (by_answer (grow all v)) (items_onto grow es env))

  -- the values of arguments, the last one first, onto others
  pub values_of : Trees → Env → List Val → Act (List Val)
  values_of Nil env vs = give vs
  values_of (Cons e es) env vs = then_do (value_of e env) (λ v. values_of es env (v ∷ vs))

  -- the value of a block: of its last expression, or unit without one; its names are gone behind it
  pub block_value : BlockTree → Env → Act Val
  block_value (TBlock i j ls l) env = lines_value ls env (last_value l)

  -- lines, and then more where their names are in scope
  pub lines_value : LineTrees → Env → (Env → Act Val) → Act Val
  lines_value NoLine env go = go env
  lines_value (ValLine i j n e ls) env go = then_do (value_of e env) (λ v. lines_value ls ((n.text, v) ∷ env) go)
  lines_value (ExprLine e ls) env go = then_do (value_of e env) (λ v. lines_value ls env go)

  pub last_value : LastTree → Env → Act Val
  last_value NoLast env = give TUnit
  last_value (ALast e) env = value_of e env

  -- what stands in the place of a condition that is false
  pub else_value : ElseTree → Env → Act Val
  else_value NoElse env = give TUnit
  else_value (AnElse b) env = block_value b env

-- parameters with their arguments, the last one first
abbrev pub bound : List Param → List Val → Env → Env
bound [] vs env = env
bound (p ∷ ps) [] env = env
bound (p ∷ ps) (v ∷ vs) env = bound ps vs ((p.name.text, v) ∷ env)

-- what a function evaluates to with these arguments and answers: the first effect that the answers don't cover, a value or a fault,
-- and the ticks counted
abbrev pub next_of : FunctionTree → List Val → List Answer → Outcome Val × State
next_of f args answers = block_value f.body (bound f.params args []) (at_start answers)
