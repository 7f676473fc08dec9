-- The code of each form. `s` is where it begins, `m` the first free slot, and `sc` the names in scope with their slots.
use Rattle.std.specs.Prelude.{ℕ, ◌+◌, ◌==◌, Bool, true, false, cond, List, [], ◌∷◌, ◌++◌, map, Option, Some, None, ℤ, pos, negsuc}
use lib.Pointwise.{pointwise}
use Rattle.pie_value.specs.declared.builtin.Builtin.TheVariants.{Path as PathOf}
use Rattle.pie_value.specs.declared.event.By.TheVariants.{Hash, Mark, Raw}
use Rattle.pie_value.specs.declared.event.How.TheVariants.{Whole, Hashed, Ran}
use Rattle.pie_operators.specs.declared.operator.Unary.TheVariants.{Not}
use Rattle.pie_operators.specs.declared.asking.Observation.TheVariants as observations
use Rattle.pie_code.specs.declared.instr.Constant.TheVariants as constants
use Rattle.pie_code.specs.declared.instr.Instr.{Instr}
use Rattle.pie_code.specs.declared.instr.Instr.TheVariants.{Tick, Push, PushText, Load, Store, Drop, Unary, Binary, Jump, JumpIfNot, Each, ListPush}
use Rattle.pie_code.specs.declared.instr.Instr.TheVariants.{TuplePush, Proj, Call, Observe, Write, Require, Fail}
use Rattle.pie_parser.specs.declared.tree.Literal.{Literal}
use Rattle.pie_parser.specs.declared.tree.Literal.TheVariants as literals
use Rattle.pie_parser.specs.declared.tree.Index.{Index}
use Rattle.pie_parser.specs.declared.tree.CallKind.{CallKind}
use Rattle.pie_parser.specs.declared.tree.CallKind.TheVariants as calls
use Rattle.pie_parser.specs.declared.tree.EffectKind.{EffectKind}
use Rattle.pie_parser.specs.declared.tree.EffectKind.TheVariants as effects
use Rattle.pie_parser.specs.declared.tree.Param.{Param}
use Rattle.pie_parser.specs.FunctionTrees.{FunctionTree}
use Rattle.pie_parser.specs.Plain.{Tree, TLiteral, TName, TNull, TEmpty, TChain, TCompare, TPrefix, TProject, TTuple, TList, TEach, TIf, TCall}
use Rattle.pie_parser.specs.Plain.{TEffect, TWrite, TFail, Trees, Nil, Cons, Steps, NoStep, AStep, BlockTree, TBlock, LineTrees, NoLine}
use Rattle.pie_parser.specs.Plain.{ValLine, ExprLine, LastTree, NoLast, ALast, ElseTree, NoElse, AnElse}
use Rattle.pie_types.specs.Checking.{count}
use Rattle.pie_semantics.specs.Words.{by_logic, logic_of, infix_of, comparison_of, prefix_of, Callee, ABuiltin, ReadBytes, NoCallee, callee_of, callee_arity}
use Rattle.pie_codegen.specs.declared.spot.Spot.{Spot}
use Rattle.pie_codegen.specs.Spots.{next, after, after_either, after_both, after_block, after_else, after_args, after_lines, loop_at}

-- the names in scope with their slots, the newest first
abbrev pub Scope : Type 0
Scope = List (List ℕ × ℕ)

-- an instruction that no operand fits: no function has this slot
abbrev pub misfit : Instr
misfit = Load 65535

-- the slot of a name
abbrev pub slot_of : List ℕ → Scope → ℕ
slot_of n [] = 65535
slot_of n ((x, i) ∷ sc) = cond (pointwise ◌==◌ n x) i (slot_of n sc)

-- the instruction that pushes a literal, whose text is the next of the table
abbrev pub literal_code : Literal → Spot → Instr
literal_code (literals.Int n) s = Push (constants.Int n)
literal_code (literals.Text t) s = PushText s.text
literal_code (literals.Bool b) s = Push (constants.Bool b)
literal_code literals.Unit s = Push constants.Unit

-- a projection
abbrev pub index_code : ℤ → Instr
index_code (pos n) = Proj n
index_code (negsuc n) = misfit

abbrev pub indices_code : List Index → List Instr
indices_code [] = []
indices_code (n ∷ ns) = index_code n.number ∷ indices_code ns

-- a call by a plain name
abbrev pub callee_code : Callee → Instr
callee_code (ABuiltin which) = Call which
callee_code ReadBytes = Observe (observations.Read Raw)
callee_code NoCallee = misfit

-- a call with so many arguments, where the name of a function is the next text of the table
abbrev pub call_code : CallKind → List ℕ → ℕ → Spot → Instr
call_code calls.Plain n k s = cond (k == callee_arity (callee_of n)) (callee_code (callee_of n)) misfit
call_code calls.Require n k s = Require (record { func = s.text; count = k; how = Whole })
call_code calls.RequireByHash n k s = Require (record { func = s.text; count = k; how = Hashed })
call_code calls.Run n k s = Require (record { func = s.text; count = k; how = Ran })

-- a keyword before one expression
abbrev pub effect_code : EffectKind → Instr
effect_code effects.Path = Call PathOf
effect_code effects.Exists = Observe observations.Exists
effect_code effects.Digest = Observe observations.Digest
effect_code effects.List = Observe observations.List
effect_code effects.Read = Observe (observations.Read Hash)
effect_code effects.ReadByHash = Observe (observations.Read Hash)
effect_code effects.ReadByMark = Observe (observations.Read Mark)

-- a loop over the list in slot `m`, with the number of the next item behind it, and the item behind that
abbrev pub each_code : ℕ → ℕ → Instr
each_code m to = Each (record { list = m; at = m + 1; item = m + 2; end = to })

abbrev mutual
  -- the code of an expression: a tick, its parts, and then what they are for
  pub code_of : Tree → Spot → ℕ → Scope → List Instr
  code_of (TLiteral i j l) s m sc = Tick ∷ literal_code l s ∷ []
  code_of (TName i j n) s m sc = Tick ∷ Load (slot_of n sc) ∷ []
  code_of (TNull i j t) s m sc = Tick ∷ Push constants.Null ∷ []
  code_of (TEmpty i j t) s m sc = Tick ∷ Push constants.EmptyList ∷ []
  code_of (TChain i j a ss) s m sc = Tick ∷ (code_of a (next s) m sc ++ by_logic (logic_of ss)
      (either_code ss (after a (next s)) (after_either ss (after a (next s))).at m sc
      ++ (Jump ((after_either ss (after a (next s))).at + 1 + 1) ∷ Push (constants.Bool true) ∷ []))
      (both_code ss (after a (next s)) (after_both ss (after a (next s))).at m sc
      ++ (Jump ((after_both ss (after a (next s))).at + 1 + 1) ∷ Push (constants.Bool false) ∷ []))
      (steps_code ss (after a (next s)) m sc))
  code_of (TCompare i j c a b) s m sc =
      Tick ∷ (code_of a (next s) m sc ++ (code_of b (after a (next s)) m sc ++ (Binary (comparison_of c) ∷ [])))
  code_of (TPrefix i j p a) s m sc = Tick ∷ (code_of a (next s) m sc ++ (Unary (prefix_of p) ∷ []))
  code_of (TProject i j a ns) s m sc = Tick ∷ (code_of a (next s) m sc ++ indices_code ns)
  code_of (TTuple i j es) s m sc = Tick ∷ Push constants.EmptyTuple ∷ items_code TuplePush es (next (next s)) m sc
  code_of (TList i j es) s m sc = Tick ∷ Push constants.EmptyList ∷ items_code ListPush es (next (next s)) m sc
  code_of (TEach i j a n b) s m sc =
      Tick ∷ (code_of b (next s) m sc ++ (Store m ∷ Push (constants.Int (pos 0)) ∷ Store (m + 1) ∷ Push constants.EmptyList
      ∷ each_code m ((after a (next (loop_at (after b (next s))))).at + 1 + 1)
      ∷ (code_of a (next (loop_at (after b (next s)))) (m + 3) ((n.text, m + 2) ∷ sc)
      ++ (ListPush ∷ Jump (loop_at (after b (next s))).at ∷ []))))
  code_of (TIf i j a b o) s m sc =
      Tick ∷ (code_of a (next s) m sc ++ (JumpIfNot ((after_block b (next (after a (next s)))).at + 1)
      ∷ (block_code b (next (after a (next s))) m sc
      ++ (Jump (after_else o (next (after_block b (next (after a (next s)))))).at
      ∷ else_code o (next (after_block b (next (after a (next s))))) m sc))))
  code_of (TCall i j k n es) s m sc = Tick ∷ (args_code es (next s) m sc ++ (call_code k n.text (count es) (after_args es (next s)) ∷ []))
  code_of (TEffect i j k a) s m sc = Tick ∷ (code_of a (next s) m sc ++ (effect_code k ∷ []))
  code_of (TWrite i j a b) s m sc = Tick ∷ (code_of a (next s) m sc ++ (code_of b (after a (next s)) m sc ++ (Write ∷ [])))
  code_of (TFail i j t a) s m sc =
      Tick ∷ (code_of a (next s) m sc ++ (Push (constants.Bool true) ∷ JumpIfNot ((after a (next s)).at + 1 + 1 + 1) ∷ Fail ∷ []))

  -- operands of `||`: behind the last of them, at `to`, stands a jump over the value true
  pub either_code : Steps → Spot → ℕ → ℕ → Scope → List Instr
  either_code NoStep s to m sc = []
  either_code (AStep o e ss) s to m sc =
      Unary Not ∷ JumpIfNot (to + 1) ∷ (code_of e (next (next s)) m sc ++ either_code ss (after e (next (next s))) to m sc)

  -- operands of `&&`: behind the last of them, at `to`, stands a jump over the value false
  pub both_code : Steps → Spot → ℕ → ℕ → Scope → List Instr
  both_code NoStep s to m sc = []
  both_code (AStep o e ss) s to m sc = JumpIfNot (to + 1) ∷ (code_of e (next s) m sc ++ both_code ss (after e (next s)) to m sc)

  -- operands, each with its operator behind it
  pub steps_code : Steps → Spot → ℕ → Scope → List Instr
  steps_code NoStep s m sc = []
  steps_code (AStep o e ss) s m sc = code_of e s m sc ++ (Binary (infix_of o) ∷ steps_code ss (next (after e s)) m sc)

  -- items, each pushed onto a list or a tuple
  pub items_code : Instr → Trees → Spot → ℕ → Scope → List Instr
  items_code grow Nil s m sc = []
  items_code grow (Cons e es) s m sc = code_of e s m sc ++ (grow ∷ items_code grow es (next (after e s)) m sc)

  pub args_code : Trees → Spot → ℕ → Scope → List Instr
  args_code Nil s m sc = []
  args_code (Cons e es) s m sc = code_of e s m sc ++ args_code es (after e s) m sc

  pub block_code : BlockTree → Spot → ℕ → Scope → List Instr
  block_code (TBlock i j ls l) s m sc = lines_code ls s m sc (last_code l)

  -- lines, and then what stands behind them where their names are in scope
  pub lines_code : LineTrees → Spot → ℕ → Scope → (Spot → ℕ → Scope → List Instr) → List Instr
  lines_code NoLine s m sc rest = rest s m sc
  lines_code (ValLine i j n e ls) s m sc rest = code_of e s m sc ++ (Store m ∷ lines_code ls (next (after e s)) (m + 1) ((n.text, m) ∷ sc) rest)
  lines_code (ExprLine e ls) s m sc rest = code_of e s m sc ++ (Drop ∷ lines_code ls (next (after e s)) m sc rest)

  pub last_code : LastTree → Spot → ℕ → Scope → List Instr
  last_code NoLast s m sc = Push constants.Unit ∷ []
  last_code (ALast e) s m sc = code_of e s m sc

  pub else_code : ElseTree → Spot → ℕ → Scope → List Instr
  else_code NoElse s m sc = Push constants.Unit ∷ []
  else_code (AnElse b) s m sc = block_code b s m sc
