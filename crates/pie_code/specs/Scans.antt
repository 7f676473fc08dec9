-- What the search for wrong jumps and slots keeps in hand. No public contract cites these words.
use Rattle.std.specs.Prelude.{◌≡◌, ◌⊎◌, ℕ, ◌+◌, ◌<◌, ◌≤◌, cond, nat_lt, List, length, Option, Some, None, MatchOption, slice_get}
use Rattle.pie_code.specs.Ways.{JumpsTo, slots_of, texts_of}
use Rattle.pie_code.specs.Checked.{IsLoop, AreBelow}
use Rattle.pie_code.specs.declared.code.Code.{Code}
use Rattle.pie_code.specs.declared.instr.Each.{Each as EachLoop}
use Rattle.pie_code.specs.declared.instr.Instr.{Instr}
use Rattle.pie_code.specs.declared.instr.Instr.TheVariants.{Tick}

-- the least place at which something isn't right; none where it is right everywhere
abbrev pub IsFirst : (ℕ → Type 0) → Option ℕ → Type 0
IsFirst Right found = MatchOption found ((at : ℕ) → Right at) (λ m. ((at : ℕ) → at < m → Right at) × (Right m → ⊥))

-- the least place of a fault; none where there is no fault
abbrev pub IsLeast : (ℕ → Type 0) → Option ℕ → Type 0
IsLeast Fault found = MatchOption found ((at : ℕ) → Fault at → ⊥) (λ m. ((at : ℕ) → at < m → Fault at → ⊥) × Fault m)

-- the lesser of two places
abbrev pub earlier : Option ℕ → Option ℕ → Option ℕ
earlier None b = b
earlier (Some a) None = Some a
earlier (Some a) (Some b) = cond (nat_lt b a) (Some b) (Some a)

-- a jump from the place goes to an instruction, and back only to a loop
abbrev pub JumpIsRight : List Instr → ℕ → Type 0
JumpIsRight code at = (to : ℕ) → JumpsTo code at to → (to < length code) × ((at < to) ⊎ ((e : EachLoop) × IsLoop code to e))

-- a loop that begins at the place ends behind it, and has a tick
abbrev pub LoopIsRight : List Instr → ℕ → Type 0
LoopIsRight code at = (e : EachLoop) → IsLoop code at e → (at < e.end) × (slice_get code (at + 1) ≡ Some Tick)

-- jumps are right at the place, but for those from elsewhere
abbrev pub JumpsOut : List Instr → ℕ → Type 0
JumpsOut code at = JumpIsRight code at × LoopIsRight code at

-- an instruction jumps back to a loop that ends before it
abbrev pub JumpsLate : List Instr → ℕ → ℕ → Type 0
JumpsLate code from at = JumpsTo code from at × (at ≤ from) × ((e : EachLoop) × IsLoop code at e × (e.end ≤ from))

-- an instruction makes jumps wrong at a place
abbrev pub Spoils : List Instr → ℕ → ℕ → Type 0
Spoils code from at = ((at ≡ from) × (JumpsOut code from → ⊥)) ⊎ JumpsLate code from at

-- one of the first so many instructions makes jumps wrong at the place
abbrev pub IsSpoilt : List Instr → ℕ → ℕ → Type 0
IsSpoilt code count at = (from : ℕ) × (from < count) × Spoils code from at

-- the slots and texts that the instruction at a place names are there
abbrev pub NamesFit : Code → ℕ → Type 0
NamesFit code at = (i : Instr) → slice_get code.instrs.items at ≡ Some i
    → AreBelow code.slots (slots_of i) × AreBelow (length code.texts.items) (texts_of i)

-- a place, or the number of instructions where there is none
abbrev pub or_count : ℕ → Option ℕ → ℕ
or_count count None = count
or_count count (Some at) = at

-- the end of the places at which wrong heights would be told: those up to the first wrong jump, and to the first wrong slot with it
abbrev pub limit_up_to : ℕ → Option ℕ → ℕ
limit_up_to jump None = jump
limit_up_to jump (Some slot) = cond (nat_lt slot jump) (slot + 1) jump

abbrev pub limit_of : ℕ → Option ℕ → Option ℕ → ℕ
limit_of count jump slot = limit_up_to (or_count count jump) slot
