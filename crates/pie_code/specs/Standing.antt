-- Where running of accepted code stands, and what it finds there.
use Rattle.std.specs.Prelude.{◌≡◌, ◌⊎◌, ℕ, ◌+◌, ◌<◌, ◌≤◌, length, Some, slice_get}
use Rattle.pie_code.specs.Effects.{pops}
use Rattle.pie_code.specs.Ways.{Leads, Fits, Reaches, after, slots_of, texts_of}
use Rattle.pie_code.specs.Checked.{AreBelow}
use Rattle.pie_code.specs.Running.{Config, goes, step}
use Rattle.pie_code.specs.declared.instr.Instr.{Instr}
use Rattle.pie_code.specs.declared.instr.Instr.TheVariants.{Tick}
use Rattle.pie_code.specs.declared.code.Code.{Code}

-- so many steps lead from one configuration to another
pub data Steps (code : Code) : Config → Config → Type 0 where
  none : {c : Config} → Steps code c c
  one_more : {b c d : Config} → Steps code b c → step code c ≡ goes d → Steps code b d

-- a way comes to where running stands, with as many values as there are on the stack
pub record Stands (code : Code) (c : Config) : Type 0 where
  pub reached : Reaches code.instrs.items c.at (length c.stack)
  pub inside : c.at < length code.instrs.items
  pub slots : length c.slots ≡ code.slots

-- an instruction is there with its operands: values on the stack, slots and texts
pub record IsReady (code : Code) (c : Config) : Type 0 where
  pub instr : Instr
  pub there : slice_get code.instrs.items c.at ≡ Some instr
  pub operands : Fits instr (length c.stack)
  pub slots : AreBelow (length c.slots) (slots_of instr)
  pub texts : AreBelow (length code.texts.items) (texts_of instr)

-- one tick is counted at a tick, and none elsewhere
abbrev pub CountsTicks : Instr → ℕ → ℕ → Type 0
CountsTicks i old new = ((i ≡ Tick) × (old < 1000000) × (new ≡ old + 1)) ⊎ ((i ≡ Tick → ⊥) × (new ≡ old))

-- what one step changes: the place by the ways, the height by the table, and the ticks where it is a tick
pub record Moves (i : Instr) (c d : Config) : Type 0 where
  pub leads : Leads c.at i d.at
  pub enough : pops i ≤ length c.stack
  pub height : length d.stack ≡ after i (length c.stack)
  pub slots : length d.slots ≡ length c.slots
  pub ticks : CountsTicks i c.state.ticks d.state.ticks
