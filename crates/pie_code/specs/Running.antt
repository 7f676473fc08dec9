-- What code does, one instruction after another, fed with answers. Each case is total: an operand that is missing or of another kind,
-- a bad slot and a place out of the code are the fault Unknown.
use Rattle.std.specs.Prelude.{ℕ, zero, suc, ◌+◌, ◌-◌, true, false, cond, nat_lt, nat_le, List, [], ◌∷◌, ◌++◌, length, take, drop, reverse, slice_get, slice_set}
use Rattle.std.specs.Prelude.{Option, Some, None, pos}
use Rattle.pie_base.specs.declared.fault.FaultKind.TheVariants.{Budget, Unknown}
use Rattle.pie_value.specs.declared.event.Answer.{Answer}
use Rattle.pie_value.specs.Tree.{Tree, TUnit, TBool, TInt, TText, TList, TTuple, TNull, Nil, list_of}
use Rattle.pie_value.specs.BuiltinForms.{made}
use Rattle.pie_value.specs.Builtins.{answer_of}
use Rattle.pie_signature.specs.Signatures.{arity_of}
use Rattle.pie_operators.specs.Operators.{unary_answer, binary_answer, list_with, tuple_with, item_at}
use Rattle.pie_operators.specs.Domain.{Outcome, done, fails, wants, State, at_start, Act, by_answer}
use Rattle.pie_operators.specs.Effects.{observe, write, require, fail}
use Rattle.pie_code.specs.declared.instr.Constant.{Constant}
use Rattle.pie_code.specs.declared.instr.Constant.TheVariants as constants
use Rattle.pie_code.specs.declared.instr.Each.{Each as EachLoop}
use Rattle.pie_code.specs.declared.instr.Required.{Required}
use Rattle.pie_code.specs.declared.instr.Instr.{Instr}
use Rattle.pie_code.specs.declared.instr.Instr.TheVariants.{Tick, Push, PushText, Load, Store, Drop, Unary, Binary, Jump, JumpIfNot, Each, ListPush}
use Rattle.pie_code.specs.declared.instr.Instr.TheVariants.{TuplePush, Proj, Call, Observe, Write, Require, Fail, Return}
use Rattle.pie_code.specs.declared.code.Code.{Code}

-- where running stands: the place, the stack with its top first, the slots, and what running gave
pub record Config : Type 0 where
  pub at : ℕ
  pub stack : List Tree
  pub slots : List Tree
  pub state : State

-- what one instruction does: running goes on, or ends
pub data Turn : Type 0 where
  goes : Config → Turn
  ends : Outcome Tree → State → Turn

-- running ends with the fault of operands that don't fit
abbrev pub misfit : Config → Turn
misfit c = ends (fails Unknown) c.state

-- running goes on behind the instruction
abbrev pub onward : Config → Turn
onward c = goes (record c { at = c.at + 1 })

-- a value is put on the stack
abbrev pub push : Tree → Config → Turn
push t c = onward (record c { stack = t ∷ c.stack })

-- what was found is put on the stack
abbrev pub push_found : Option Tree → Config → Turn
push_found None c = misfit c
push_found (Some t) c = push t c

-- the top is taken from the stack
abbrev pub pop_from : List Tree → Config → (Tree → Config → Turn) → Turn
pop_from [] c go = misfit c
pop_from (t ∷ ts) c go = go t (record c { stack = ts })

abbrev pub pop : Config → (Tree → Config → Turn) → Turn
pop c go = pop_from c.stack c go

-- two values are taken from the stack, the top last
abbrev pub pop_two : Config → (Tree → Tree → Config → Turn) → Turn
pop_two c go = pop c (λ b d. pop d (λ a e. go a b e))

-- so many values are taken from the stack, the top last
abbrev pub pop_many : ℕ → Config → (List Tree → Config → Turn) → Turn
pop_many n c go = cond (nat_le n (length c.stack)) (go (reverse (take n c.stack)) (record c { stack = drop n c.stack })) (misfit c)

-- what an operator, a built-in function or an effect gave: a value goes on the stack
abbrev pub settle : Outcome Tree × State → Config → Turn
settle (done t, s) c = push t (record c { state = s })
settle (fails k, s) c = ends (fails k) s
settle (wants e, s) c = ends (wants e) s

abbrev pub act_on : Act Tree → Config → Turn
act_on m c = settle (m c.state) c

-- a value that an instruction brings along
abbrev pub value_of : Constant → Tree
value_of constants.Unit = TUnit
value_of (constants.Bool b) = TBool b
value_of (constants.Int n) = TInt n
value_of constants.Null = TNull
value_of constants.EmptyList = TList Nil
value_of constants.EmptyTuple = TTuple Nil

-- one tick
abbrev pub tick : Config → Turn
tick c = cond (nat_lt c.state.ticks 1000000) (onward (record c { state = record c.state { ticks = c.state.ticks + 1 } })) (ends (fails Budget) c.state)

-- a text of the table
abbrev pub push_text : Option (List ℕ) → Config → Turn
push_text None c = misfit c
push_text (Some s) c = act_on (by_answer (made (TText s))) c

-- a value goes into a slot
abbrev pub store : ℕ → Tree → Config → Turn
store n t c = cond (nat_lt n (length c.slots)) (onward (record c { slots = slice_set c.slots n t })) (misfit c)

-- running goes on at the place where the value is false
abbrev pub branch : ℕ → Tree → Config → Turn
branch b (TBool true) c = onward c
branch b (TBool false) c = goes (record c { at = b })
branch b t c = misfit c

-- the number in a slot, where it is one that counts items
abbrev pub number_in : Option Tree → Option ℕ
number_in (Some (TInt (pos n))) = Some n
number_in t = None

-- the item of a list in a slot, or none past its end; nothing where no list is there
abbrev pub item_found : Option Tree → ℕ → Option (Option Tree)
item_found (Some (TList ts)) n = Some (slice_get (list_of ts) n)
item_found t n = None

-- the item goes into its slot, and the number of the next grows
abbrev pub next_item : EachLoop → Tree → ℕ → Config → Turn
next_item e t n c =
    cond (nat_lt e.item (length c.slots)) (onward (record c { slots = slice_set (slice_set c.slots e.item t) e.at (TInt (pos (n + 1))) })) (misfit c)

-- a turn of a loop, or its end
abbrev pub each_turn : EachLoop → Option (Option Tree) → ℕ → Config → Turn
each_turn e None n c = misfit c
each_turn e (Some None) n c = goes (record c { at = e.end })
each_turn e (Some (Some t)) n c = next_item e t n c

abbrev pub each_from : EachLoop → Option ℕ → Config → Turn
each_from e None c = misfit c
each_from e (Some n) c = each_turn e (item_found (slice_get c.slots e.list) n) n c

-- a task is required, by the name of its function
abbrev pub require_named : Required → Option (List ℕ) → Config → Turn
require_named r None c = misfit c
require_named r (Some f) c = pop_many r.count c (λ ts d. act_on (require r.how f ts) d)

-- running ends with a value
abbrev pub finish : Tree → Config → Turn
finish t c = ends (done t) c.state

-- what an instruction does
abbrev pub act : List (List ℕ) → Instr → Config → Turn
act texts Tick c = tick c
act texts (Push k) c = push (value_of k) c
act texts (PushText n) c = push_text (slice_get texts n) c
act texts (Load n) c = push_found (slice_get c.slots n) c
act texts (Store n) c = pop c (store n)
act texts Drop c = pop c (λ t d. onward d)
act texts (Unary o) c = pop c (λ a d. act_on (by_answer (unary_answer o a)) d)
act texts (Binary o) c = pop_two c (λ a b d. act_on (by_answer (binary_answer o a b)) d)
act texts (Jump b) c = goes (record c { at = b })
act texts (JumpIfNot b) c = pop c (branch b)
act texts (Each e) c = each_from e (number_in (slice_get c.slots e.at)) c
act texts ListPush c = pop_two c (λ a b d. act_on (by_answer (list_with a b)) d)
act texts TuplePush c = pop_two c (λ a b d. act_on (by_answer (tuple_with a b)) d)
act texts (Proj n) c = pop c (λ a d. act_on (by_answer (item_at n a)) d)
act texts (Call which) c = pop_many (arity_of which) c (λ ts d. act_on (by_answer (answer_of which ts)) d)
act texts (Observe o) c = pop c (λ a d. act_on (observe o a) d)
act texts Write c = pop_two c (λ a b d. act_on (write a b) d)
act texts (Require r) c = require_named r (slice_get texts r.func) c
act texts Fail c = pop c (λ a d. act_on (fail a) d)
act texts Return c = pop c finish

-- the instruction at a place
abbrev pub act_found : List (List ℕ) → Option Instr → Config → Turn
act_found texts None c = misfit c
act_found texts (Some i) c = act texts i c

-- one step of code
abbrev pub step : Code → Config → Turn
step code c = act_found code.texts.items (slice_get code.instrs.items c.at) c

-- steps, until running ends; none where so many don't end it
abbrev pub run_on : Turn → (Config → Option (Outcome Tree × State)) → Option (Outcome Tree × State)
run_on (goes c) go = go c
run_on (ends o s) go = Some (o, s)

abbrev pub run : Code → ℕ → Config → Option (Outcome Tree × State)
run code zero c = None
run code (suc n) c = run_on (step code c) (run code n)

-- the slots as they begin: the arguments, and unit behind them
abbrev pub units : ℕ → List Tree
units zero = []
units (suc n) = TUnit ∷ units n

-- where running begins
abbrev pub start : Code → List Tree → List Answer → Config
start code args answers = record { at = 0; stack = []; slots = args ++ units (code.slots - code.params); state = at_start answers }
