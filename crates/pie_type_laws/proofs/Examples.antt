-- Worked examples of what a typed function evaluates to, and of what it would evaluate to without each premise.
use Rattle.std.proofs.Common.{◌≡◌, ℕ, true, List, [], ◌∷◌, codes, refl, arith}
use Rattle.std.specs.Prelude.{pos}
use Rattle.pie_base.specs.declared.fault.FaultKind.TheVariants.{Unknown}
use Rattle.pie_value.specs.declared.event.How.TheVariants.{Whole}
use Rattle.pie_value.specs.declared.event.Event.TheVariants.{Require}
use Rattle.pie_value.specs.declared.event.Answer.TheVariants.{Wrote, Output}
use Rattle.pie_value.specs.declared.value.Value.TheVariants.{Bool as VBool, Int as VInt}
use Rattle.pie_value.specs.declared.task.Task.{Task}
use Rattle.pie_value.specs.Tree.{TInt}
use Rattle.pie_value.specs.Types.{IntTy}
use Rattle.pie_operators.specs.Domain.{done, fails, wants, at_start}
use Rattle.pie_parser.specs.declared.tree.Literal.TheVariants as literals
use Rattle.pie_parser.specs.declared.tree.Operator.TheVariants as operators
use Rattle.pie_parser.specs.declared.tree.CallKind.TheVariants as calls
use Rattle.pie_parser.specs.declared.tree.Name.{Name}
use Rattle.pie_parser.specs.declared.type_tree.PlainType.TheVariants as plains
use Rattle.pie_parser.specs.PlainTypes.{PlainT}
use Rattle.pie_parser.specs.Plain.{Tree, TLiteral, TName, TChain, TCall, Nil, Cons, NoStep, AStep, TBlock, NoLine, ALast}
use Rattle.pie_parser.specs.FunctionTrees.{FunctionTree}
use Rattle.pie_types.specs.Headings.{Heading}
use Rattle.pie_types.specs.inner.Rules as rule
use Rattle.pie_types.specs.inner.Rules.{HasType, BlockHas}
use Rattle.pie_types.specs.Calls.{OfFunction}
use Rattle.pie_types.specs.inner.WrittenRules.{plain}
use Rattle.pie_types.specs.inner.WholeRules.{no_param, a_param, Declares, AreDeclared, no_function, a_function, typed_function, nothing, one_more, IsTyped, typed}
use Rattle.pie_semantics.specs.Meaning.{value_of, next_of}
use Rattle.pie_type_laws.specs.Fitting.{AnswerFits}
use Rattle.pie_type_laws.specs.NeverStuck.{Takes}

-- a name and a number, wherever they stand
abbrev named : List ℕ → Name
named s = record { at = 0; end = 0; text = s }

abbrev int : ℕ → Tree
int n = TLiteral 0 0 (literals.Int (pos n))

-- `1 - 2 || 3` as one chain, which the grammar doesn't make
abbrev mixed : Tree
mixed = TChain 0 0 (int 1) (AStep operators.Minus (int 2) (AStep operators.Or (int 3) NoStep))

-- the rules of typing look at its first operator alone
mixed_is_typed : HasType [] [] mixed IntTy
mixed_is_typed = rule.chain rule.literal (rule.in_other refl) (rule.a_step rule.literal (rule.a_step rule.literal rule.no_step))

-- what `||` is there is free: it is read as `+`
mixed_goes_on : (value_of mixed [] (at_start [])).0 ≡ done (TInt (pos 2))
mixed_goes_on = refl

-- `func f(n: int) -> int { n + require f(n) }`
abbrev f : FunctionTree
f = record {
  at = 0;
  end = 0;
  name = named (codes "f");
  params = record { at = 0; end = 0; name = named (codes "n"); kind = PlainT 0 0 plains.Int } ∷ [];
  result = PlainT 0 0 plains.Int;
  body = TBlock 0 0 NoLine (ALast (TChain 0 0 (TName 0 0 (codes "n"))
      (AStep operators.Plus (TCall 0 0 calls.Require (named (codes "f")) (Cons (TName 0 0 (codes "n")) Nil)) NoStep)));
}

-- its heading
abbrev heading : Heading
heading = record { name = codes "f"; params = record { name = codes "n"; ty = IntTy } ∷ []; result = IntTy }

declares : Declares f heading
declares = record { name = refl; params = a_param (rule.fresh refl (omega arith)) plain no_param; result = plain }

-- the pipeline of this function alone has this heading, and is typed
is_declared : AreDeclared [] (f ∷ []) (heading ∷ [])
is_declared = a_function refl refl declares no_function

body_is_typed : BlockHas (heading ∷ []) heading.params f.body IntTy
body_is_typed = rule.a_last rule.no_line
    (rule.chain (rule.name refl) (rule.in_sum refl refl)
    (rule.a_step (rule.call {c = OfFunction heading} refl refl
    (rule.a_part (rule.name refl) rule.no_part) (rule.an_argument refl rule.no_argument)) rule.no_step))

is_typed : IsTyped (f ∷ [])
is_typed = typed is_declared (one_more (typed_function declares body_is_typed) nothing)

-- the task that it requires
abbrev itself : Task
itself = record { func = codes "f"; args = TInt (pos 3) ∷ [] }

takes_three : Takes heading (TInt (pos 3) ∷ [])
takes_three = refl

requires_itself : (next_of f (TInt (pos 3) ∷ []) []).0 ≡ wants (Require itself Whole)
requires_itself = refl

-- an answer that fits
seven_fits : AnswerFits (heading ∷ []) (Require itself Whole) (Output (VInt (pos 7)))
seven_fits = refl

adds_seven : (next_of f (TInt (pos 3) ∷ []) (Output (VInt (pos 7)) ∷ [])).0 ≡ done (TInt (pos 10))
adds_seven = refl

-- an output of another type doesn't fit, and with it the function is stuck
flag_does_not_fit : AnswerFits (heading ∷ []) (Require itself Whole) (Output (VBool true)) → ⊥
flag_does_not_fit h = cc

stuck_on_a_flag : (next_of f (TInt (pos 3) ∷ []) (Output (VBool true) ∷ [])).0 ≡ fails Unknown
stuck_on_a_flag = refl

-- nor does an answer of another kind
stuck_on_a_write : (next_of f (TInt (pos 3) ∷ []) (Wrote ∷ [])).0 ≡ fails Unknown
stuck_on_a_write = refl

-- nor is it safe without an argument
stuck_without_argument : (next_of f [] []).0 ≡ fails Unknown
stuck_without_argument = refl
