-- Which code is accepted: what has to hold at each place, and what a refusal says.
use Rattle.std.specs.Prelude.{◌≡◌, ⊤, ℕ, ◌+◌, ◌-◌, ◌<◌, ◌≤◌, false, List, [], ◌∷◌, length, Some, slice_get}
use Rattle.pie_code.specs.Ways.{JumpsTo, goes_on, slots_of, texts_of, Fits, Reaches}
use Rattle.pie_code.specs.declared.instr.Each.{Each as EachLoop}
use Rattle.pie_code.specs.declared.instr.Instr.{Instr}
use Rattle.pie_code.specs.declared.instr.Instr.TheVariants.{Tick, Each}
use Rattle.pie_code.specs.declared.code.Code.{Code}
use Rattle.pie_code.specs.declared.error.CodeError.{CodeError}
use Rattle.pie_code.specs.declared.error.CodeError.TheVariants.{Jump, Height, Slot, NoEnd, OutOfMemory}

-- a loop begins at the place
abbrev pub IsLoop : List Instr → ℕ → EachLoop → Type 0
IsLoop code at e = slice_get code at ≡ Some (Each e)

-- jumps are right at the place: one from there goes to an instruction, and back only to a loop; a loop that begins
-- there has a tick, and ends behind it and behind each jump back to it
pub record JumpsWell (code : List Instr) (at : ℕ) : Type 0 where
  pub inside : (to : ℕ) → JumpsTo code at to → to < length code
  pub back : (to : ℕ) → JumpsTo code at to → to ≤ at → (e : EachLoop) × IsLoop code to e
  pub ticks : (e : EachLoop) → IsLoop code at e → slice_get code (at + 1) ≡ Some Tick
  pub ends : (e : EachLoop) → IsLoop code at e → at < e.end
  pub closes : (e : EachLoop) (from : ℕ) → IsLoop code at e → JumpsTo code from at → at ≤ from → from < e.end

-- heights are right at the place: all ways there have one height and find the operands; where no way comes there, an
-- empty stack has them
pub record HeightsFit (code : List Instr) (at : ℕ) : Type 0 where
  pub one : at < length code → (m n : ℕ) → Reaches code at m → Reaches code at n → m ≡ n
  pub reached : (i : Instr) (n : ℕ) → slice_get code at ≡ Some i → Reaches code at n → Fits i n
  pub alone : (i : Instr) → slice_get code at ≡ Some i → ((n : ℕ) → Reaches code at n → ⊥) → Fits i 0

-- each number is below a bound
abbrev pub AreBelow : ℕ → List ℕ → Type 0
AreBelow bound [] = ⊤
AreBelow bound (n ∷ ns) = (n < bound) × AreBelow bound ns

-- slots are right at the place: the slots and texts that the instruction names are there; at the start, so are the
-- slots of all parameters
pub record SlotsFit (code : Code) (at : ℕ) : Type 0 where
  pub slots : (i : Instr) → slice_get code.instrs.items at ≡ Some i → AreBelow code.slots (slots_of i)
  pub texts : (i : Instr) → slice_get code.instrs.items at ≡ Some i → AreBelow (length code.texts.items) (texts_of i)
  pub params : at ≡ 0 → code.params ≤ code.slots

-- all is right at the place
pub record IsSound (code : Code) (at : ℕ) : Type 0 where
  pub jumps : JumpsWell code.instrs.items at
  pub heights : HeightsFit code.instrs.items at
  pub slots : SlotsFit code at

-- running doesn't go on behind the last instruction
abbrev pub HasEnd : List Instr → Type 0
HasEnd code = (i : Instr) × (slice_get code (length code - 1) ≡ Some i) × (goes_on i ≡ false)

-- accepted code: all is right at each place, and it has an end
pub record IsAccepted (code : Code) : Type 0 where
  pub sound : (at : ℕ) → IsSound code at
  pub ends : HasEnd code.instrs.items

-- all is right before a place
abbrev pub IsSoundBefore : Code → ℕ → Type 0
IsSoundBefore code at = (place : ℕ) → place < at → IsSound code place

-- what a refusal says: at the least place at which not all is right, of jumps, heights and slots the first that isn't;
-- no end only where all is right at each place
abbrev pub IsRefusal : Code → CodeError → Type 0
IsRefusal code (Jump at) = IsSoundBefore code at × (JumpsWell code.instrs.items at → ⊥)
IsRefusal code (Height at) = IsSoundBefore code at × JumpsWell code.instrs.items at × (HeightsFit code.instrs.items at → ⊥)
IsRefusal code (Slot at) = IsSoundBefore code at × JumpsWell code.instrs.items at × HeightsFit code.instrs.items at × (SlotsFit code at → ⊥)
IsRefusal code NoEnd = ((at : ℕ) → IsSound code at) × (HasEnd code.instrs.items → ⊥)
IsRefusal code OutOfMemory = ⊤
