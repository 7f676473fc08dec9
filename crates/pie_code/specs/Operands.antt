-- What an instruction does with its operands: its meaning without the cases in which an operand is missing.
use Rattle.std.specs.Prelude.{◌≡◌, ℕ, ◌<◌, ◌≤◌, List, [], ◌∷◌, length, take, drop, reverse, Some, slice_get, slice_set}
use Rattle.pie_value.specs.Tree.{Tree, TText}
use Rattle.pie_value.specs.BuiltinForms.{made}
use Rattle.pie_value.specs.Builtins.{answer_of}
use Rattle.pie_value.specs.declared.builtin.Builtin.{Builtin}
use Rattle.pie_signature.specs.Signatures.{arity_of}
use Rattle.pie_operators.specs.Operators.{unary_answer, binary_answer, list_with, tuple_with, item_at}
use Rattle.pie_operators.specs.Domain.{done, by_answer}
use Rattle.pie_operators.specs.Effects.{observe, write, require, fail}
use Rattle.pie_operators.specs.declared.operator.Unary.{Unary as UnaryOperator}
use Rattle.pie_operators.specs.declared.operator.Binary.{Binary as BinaryOperator}
use Rattle.pie_operators.specs.declared.asking.Observation.{Observation}
use Rattle.pie_code.specs.declared.instr.Constant.{Constant}
use Rattle.pie_code.specs.declared.instr.Each.{Each as EachLoop}
use Rattle.pie_code.specs.declared.instr.Required.{Required}
use Rattle.pie_code.specs.declared.instr.Instr.{Instr}
use Rattle.pie_code.specs.declared.instr.Instr.TheVariants.{Tick, Push, PushText, Load, Store, Drop, Unary, Binary, Jump, JumpIfNot, Each, ListPush}
use Rattle.pie_code.specs.declared.instr.Instr.TheVariants.{TuplePush, Proj, Call, Observe, Write, Require, Fail, Return}
use Rattle.pie_code.specs.Running.{Config, Turn, goes, ends, onward, push, value_of, tick, branch, each_from, number_in, act_on}

-- the stack is what is left below the operands
abbrev pub below : List Tree → Config → Config
below rest c = record c { stack = rest }

-- so many arguments, the top last
abbrev pub arguments : ℕ → Config → List Tree
arguments n c = reverse (take n c.stack)

-- what an instruction does with operands that are there
pub data Does (texts : List (List ℕ)) (c : Config) : Instr → Turn → Type 0 where
  ticks : Does texts c Tick (tick c)
  brings : {k : Constant} → Does texts c (Push k) (push (value_of k) c)
  brings_text : {n : ℕ} {s : List ℕ} → slice_get texts n ≡ Some s → Does texts c (PushText n) (act_on (by_answer (made (TText s))) c)
  loads : {n : ℕ} {t : Tree} → slice_get c.slots n ≡ Some t → Does texts c (Load n) (push t c)
  stores : {n : ℕ} {t : Tree} {ts : List Tree} → c.stack ≡ t ∷ ts → n < length c.slots
      → Does texts c (Store n) (onward (record c { stack = ts; slots = slice_set c.slots n t }))
  drops : {t : Tree} {ts : List Tree} → c.stack ≡ t ∷ ts → Does texts c Drop (onward (below ts c))
  applies : {o : UnaryOperator} {a : Tree} {ts : List Tree} → c.stack ≡ a ∷ ts
      → Does texts c (Unary o) (act_on (by_answer (unary_answer o a)) (below ts c))
  joins : {o : BinaryOperator} {a b : Tree} {ts : List Tree} → c.stack ≡ b ∷ a ∷ ts
      → Does texts c (Binary o) (act_on (by_answer (binary_answer o a b)) (below ts c))
  jumps : {to : ℕ} → Does texts c (Jump to) (goes (record c { at = to }))
  branches : {to : ℕ} {t : Tree} {ts : List Tree} → c.stack ≡ t ∷ ts → Does texts c (JumpIfNot to) (branch to t (below ts c))
  turns : {e : EachLoop} {list at : Tree} → slice_get c.slots e.list ≡ Some list → slice_get c.slots e.at ≡ Some at
      → e.item < length c.slots → Does texts c (Each e) (each_from e (number_in (Some at)) c)
  lengthens_list : {a b : Tree} {ts : List Tree} → c.stack ≡ b ∷ a ∷ ts
      → Does texts c ListPush (act_on (by_answer (list_with a b)) (below ts c))
  lengthens_tuple : {a b : Tree} {ts : List Tree} → c.stack ≡ b ∷ a ∷ ts
      → Does texts c TuplePush (act_on (by_answer (tuple_with a b)) (below ts c))
  takes_item : {n : ℕ} {a : Tree} {ts : List Tree} → c.stack ≡ a ∷ ts → Does texts c (Proj n) (act_on (by_answer (item_at n a)) (below ts c))
  calls : {which : Builtin} → arity_of which ≤ length c.stack
      → Does texts c (Call which) (act_on (by_answer (answer_of which (arguments (arity_of which) c))) (below (drop (arity_of which) c.stack) c))
  observes : {o : Observation} {a : Tree} {ts : List Tree} → c.stack ≡ a ∷ ts → Does texts c (Observe o) (act_on (observe o a) (below ts c))
  writes : {a b : Tree} {ts : List Tree} → c.stack ≡ b ∷ a ∷ ts → Does texts c Write (act_on (write a b) (below ts c))
  requires_task : {r : Required} {f : List ℕ} → slice_get texts r.func ≡ Some f → r.count ≤ length c.stack
      → Does texts c (Require r) (act_on (require r.how f (arguments r.count c)) (below (drop r.count c.stack) c))
  says : {a : Tree} {ts : List Tree} → c.stack ≡ a ∷ ts → Does texts c Fail (act_on (fail a) (below ts c))
  returns : {a : Tree} → c.stack ≡ a ∷ [] → Does texts c Return (ends (done a) c.state)
