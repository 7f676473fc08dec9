-- How many values each instruction takes from the stack and puts there: the table that testing, compiling and documents share.
use Rattle.std.specs.Prelude.{ℕ}
use Rattle.pie_signature.specs.Signatures.{arity_of}
use Rattle.pie_code.specs.declared.instr.Instr.{Instr}
use Rattle.pie_code.specs.declared.instr.Instr.TheVariants.{Tick, Push, PushText, Load, Store, Drop, Unary, Binary, Jump, JumpIfNot, Each, ListPush}
use Rattle.pie_code.specs.declared.instr.Instr.TheVariants.{TuplePush, Proj, Call, Observe, Write, Require, Fail, Return}

-- how many values it takes
abbrev pub pops : Instr → ℕ
pops Tick = 0
pops (Push c) = 0
pops (PushText n) = 0
pops (Load n) = 0
pops (Store n) = 1
pops Drop = 1
pops (Unary o) = 1
pops (Binary o) = 2
pops (Jump b) = 0
pops (JumpIfNot b) = 1
pops (Each e) = 0
pops ListPush = 2
pops TuplePush = 2
pops (Proj n) = 1
pops (Call which) = arity_of which
pops (Observe o) = 1
pops Write = 2
pops (Require r) = r.count
pops Fail = 1
pops Return = 1

-- how many values it puts there
abbrev pub pushes : Instr → ℕ
pushes Tick = 0
pushes (Push c) = 1
pushes (PushText n) = 1
pushes (Load n) = 1
pushes (Store n) = 0
pushes Drop = 0
pushes (Unary o) = 1
pushes (Binary o) = 1
pushes (Jump b) = 0
pushes (JumpIfNot b) = 0
pushes (Each e) = 0
pushes ListPush = 1
pushes TuplePush = 1
pushes (Proj n) = 1
pushes (Call which) = 1
pushes (Observe o) = 1
pushes Write = 1
pushes (Require r) = 1
pushes Fail = 0
pushes Return = 0
