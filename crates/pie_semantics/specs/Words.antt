-- The words of the meaning of a tree: names, operators, calls and effects.
use Rattle.std.specs.Prelude.{ℕ, Bool, true, false, cond, ◌==◌, List, [], ◌∷◌, length, codes, Option, Some, None, ℤ, pos, negsuc, Ok, Err}
use lib.Pointwise.{pointwise}
use Rattle.pie_base.specs.declared.fault.FaultKind.TheVariants.{Unknown}
use Rattle.pie_value.specs.declared.builtin.Builtin.{Builtin}
use Rattle.pie_value.specs.declared.builtin.Builtin.TheVariants.{Path as PathOf}
use Rattle.pie_value.specs.declared.event.By.TheVariants.{Hash, Mark, Raw}
use Rattle.pie_value.specs.declared.event.How.TheVariants.{Whole, Hashed, Ran}
use Rattle.pie_value.specs.Tree.{TUnit, TBool, TInt, TText, TList, Trees as Vals}
use Rattle.pie_value.specs.Tree.{Tree as Val}
use Rattle.pie_value.specs.BuiltinForms.{Answered, made}
use Rattle.pie_value.specs.Builtins.{answer_of}
use Rattle.pie_signature.specs.Names.{builtin_of}
use Rattle.pie_signature.specs.Signatures.{arity_of}
use Rattle.pie_operators.specs.declared.operator.Unary.{Unary}
use Rattle.pie_operators.specs.declared.operator.Unary.TheVariants as unaries
use Rattle.pie_operators.specs.declared.operator.Binary.{Binary}
use Rattle.pie_operators.specs.declared.operator.Binary.TheVariants as binaries
use Rattle.pie_operators.specs.declared.asking.Observation.{Observation}
use Rattle.pie_operators.specs.declared.asking.Observation.TheVariants as observations
use Rattle.pie_operators.specs.Operators.{binary_answer, item_at}
use Rattle.pie_operators.specs.Domain.{Act, give, fault, then_do, by_answer}
use Rattle.pie_operators.specs.Effects.{observe, require}
use Rattle.pie_parser.specs.declared.tree.Literal.{Literal}
use Rattle.pie_parser.specs.declared.tree.Literal.TheVariants as literals
use Rattle.pie_parser.specs.declared.tree.Index.{Index}
use Rattle.pie_parser.specs.declared.tree.Operator.{Operator}
use Rattle.pie_parser.specs.declared.tree.Operator.TheVariants as operators
use Rattle.pie_parser.specs.declared.tree.Comparison.{Comparison}
use Rattle.pie_parser.specs.declared.tree.Comparison.TheVariants as comparisons
use Rattle.pie_parser.specs.declared.tree.Prefix.{Prefix}
use Rattle.pie_parser.specs.declared.tree.Prefix.TheVariants as prefixes
use Rattle.pie_parser.specs.declared.tree.CallKind.{CallKind}
use Rattle.pie_parser.specs.declared.tree.CallKind.TheVariants as calls
use Rattle.pie_parser.specs.declared.tree.EffectKind.{EffectKind}
use Rattle.pie_parser.specs.declared.tree.EffectKind.TheVariants as effects
use Rattle.pie_parser.specs.Plain.{Steps, NoStep, AStep}

-- the names in scope with their values, the newest first
abbrev pub Env : Type 0
Env = List (List ℕ × Val)

-- the value of a name
abbrev pub look_up : List ℕ → Env → Option Val
look_up n [] = None
look_up n ((x, v) ∷ env) = cond (pointwise ◌==◌ n x) (Some v) (look_up n env)

-- a value that has to be there
abbrev pub found : Option Val → Act Val
found (Some v) = give v
found None = fault Unknown

-- a literal; a text has to keep the limits
abbrev pub literal_value : Literal → Answered
literal_value (literals.Int n) = Ok (TInt n)
literal_value (literals.Text s) = made (TText s)
literal_value (literals.Bool b) = Ok (TBool b)
literal_value literals.Unit = Ok TUnit

-- one of two, by a truth value
abbrev pub branch : {A : Type 0} → Val → Act A → Act A → Act A
branch (TBool true) first other = first
branch (TBool false) first other = other
branch v first other = fault Unknown

-- what kind of chain operators make, by the first of them: all of one chain have one level
pub data Logic : Type 0 where
  Either : Logic
  Both : Logic
  Neither : Logic

-- what goes on, by the kind of a chain
abbrev pub by_logic : {A : Type 0} → Logic → A → A → A → A
by_logic Either either both neither = either
by_logic Both either both neither = both
by_logic Neither either both neither = neither

abbrev pub logic_by : Operator → Logic
logic_by operators.Or = Either
logic_by operators.And = Both
logic_by o = Neither

abbrev pub logic_of : Steps → Logic
logic_of NoStep = Neither
logic_of (AStep o e ss) = logic_by o

-- the operator between two operands that a step of a chain applies; no chain of these has `||` or `&&` in it, so what they are here is free
abbrev pub infix_of : Operator → Binary
infix_of operators.Plus = binaries.Add
infix_of operators.Minus = binaries.Sub
infix_of operators.Times = binaries.Mul
infix_of operators.Divide = binaries.Div
infix_of operators.Remainder = binaries.Rem
infix_of o = binaries.Add

abbrev pub comparison_of : Comparison → Binary
comparison_of comparisons.Equal = binaries.Eq
comparison_of comparisons.NotEqual = binaries.Ne
comparison_of comparisons.Less = binaries.Lt
comparison_of comparisons.LessEqual = binaries.Le
comparison_of comparisons.Greater = binaries.Gt
comparison_of comparisons.GreaterEqual = binaries.Ge

abbrev pub prefix_of : Prefix → Unary
prefix_of prefixes.Not = unaries.Not
prefix_of prefixes.Minus = unaries.Neg

-- an item of a tuple, by the number of a projection
abbrev pub item_numbered : ℤ → Val → Answered
item_numbered (pos n) v = item_at n v
item_numbered (negsuc n) v = Err Unknown

-- a chain of projections
abbrev pub projected : List Index → Val → Act Val
projected [] v = give v
projected (n ∷ ns) v = then_do (by_answer (item_numbered n.number v)) (projected ns)

-- the items of a list
abbrev pub over : Val → (Vals → Act Val) → Act Val
over (TList vs) go = go vs
over v go = fault Unknown

-- what is called by a plain name
pub data Callee : Type 0 where
  ABuiltin : Builtin → Callee
  ReadBytes : Callee
  NoCallee : Callee

abbrev pub callee_by : Option Builtin → List ℕ → Callee
callee_by (Some which) n = ABuiltin which
callee_by None n = cond (pointwise ◌==◌ n (codes "read_bytes")) ReadBytes NoCallee

abbrev pub callee_of : List ℕ → Callee
callee_of n = callee_by (builtin_of n) n

-- how many arguments it takes
abbrev pub callee_arity : Callee → ℕ
callee_arity (ABuiltin which) = arity_of which
callee_arity ReadBytes = 1
callee_arity NoCallee = 0

-- the bytes of a file as a value
abbrev pub bytes_read : List Val → Act Val
bytes_read (t ∷ []) = observe (observations.Read Raw) t
bytes_read ts = fault Unknown

-- what it answers to as many arguments as it takes
abbrev pub callee_answer : Callee → List Val → Act Val
callee_answer (ABuiltin which) ts = by_answer (answer_of which ts)
callee_answer ReadBytes ts = bytes_read ts
callee_answer NoCallee ts = fault Unknown

-- a call by a plain name
abbrev pub called_plainly : Callee → List Val → Act Val
called_plainly c ts = cond (length ts == callee_arity c) (callee_answer c ts) (fault Unknown)

-- a call
abbrev pub called : CallKind → List ℕ → List Val → Act Val
called calls.Plain n ts = called_plainly (callee_of n) ts
called calls.Require n ts = require Whole n ts
called calls.RequireByHash n ts = require Hashed n ts
called calls.Run n ts = require Ran n ts

-- a keyword before one expression
abbrev pub effect_of : EffectKind → Val → Act Val
effect_of effects.Path t = by_answer (answer_of PathOf (t ∷ []))
effect_of effects.Exists t = observe observations.Exists t
effect_of effects.Digest t = observe observations.Digest t
effect_of effects.List t = observe observations.List t
effect_of effects.Read t = observe (observations.Read Hash) t
effect_of effects.ReadByHash t = observe (observations.Read Hash) t
effect_of effects.ReadByMark t = observe (observations.Read Mark) t
