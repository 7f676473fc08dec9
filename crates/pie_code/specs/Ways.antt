-- The ways through code: where running may go on behind an instruction, and with how many values on the stack.
use Rattle.std.specs.Prelude.{◌≡◌, ◌⊎◌, ℕ, ◌+◌, ◌-◌, ◌≤◌, Bool, true, false, List, [], ◌∷◌, Option, Some, None, slice_get}
use Rattle.pie_code.specs.Effects.{pops, pushes}
use Rattle.pie_code.specs.declared.instr.Instr.{Instr}
use Rattle.pie_code.specs.declared.instr.Instr.TheVariants.{PushText, Load, Store, Jump, JumpIfNot, Each, Require, Fail, Return}

-- the place to which an instruction may jump
abbrev pub target : Instr → Option ℕ
target (Jump b) = Some b
target (JumpIfNot b) = Some b
target (Each e) = Some e.end
target i = None

-- whether running may go on at the next place
abbrev pub goes_on : Instr → Bool
goes_on (Jump b) = false
goes_on Fail = false
goes_on Return = false
goes_on i = true

-- the slots that an instruction names
abbrev pub slots_of : Instr → List ℕ
slots_of (Load n) = n ∷ []
slots_of (Store n) = n ∷ []
slots_of (Each e) = e.list ∷ e.at ∷ e.item ∷ []
slots_of i = []

-- the texts that an instruction names, by their places in the table
abbrev pub texts_of : Instr → List ℕ
texts_of (PushText n) = n ∷ []
texts_of (Require r) = r.func ∷ []
texts_of i = []

-- running may go on there behind the instruction at a place
abbrev pub Leads : ℕ → Instr → ℕ → Type 0
Leads at i to = ((goes_on i ≡ true) × (to ≡ at + 1)) ⊎ (target i ≡ Some to)

-- an instruction finds its operands on a stack of this height, and Return nothing else
abbrev pub Fits : Instr → ℕ → Type 0
Fits i height = (pops i ≤ height) × (i ≡ Return → height ≡ 1)

-- the height behind an instruction
abbrev pub after : Instr → ℕ → ℕ
after i height = height - pops i + pushes i

-- a way from the first instruction, with nothing on the stack, comes to a place with so many values there
pub data Reaches (code : List Instr) : ℕ → ℕ → Type 0 where
  begin : Reaches code 0 0
  step : {at height to : ℕ} {i : Instr} → Reaches code at height → slice_get code at ≡ Some i → pops i ≤ height → Leads at i to
      → Reaches code to (after i height)

-- the instruction at a place may jump to another
abbrev pub JumpsTo : List Instr → ℕ → ℕ → Type 0
JumpsTo code at to = (i : Instr) × (slice_get code at ≡ Some i) × (target i ≡ Some to)
