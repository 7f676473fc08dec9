-- A part as often as it comes.
use Rattle.std.specs.Prelude.{◌≡◌, ℕ, zero, suc, List, [], ◌∷◌, ◌++◌, length, Option, Some, None, Result, Ok, Err}
use Rattle.pie_parser.specs.declared.error.ParseFault.{ParseFault}
use Rattle.pie_parser.specs.declared.error.ParseFault.TheVariants.{Expected, TooDeep, OutOfMemory}
use Rattle.pie_parser.specs.At.{At}
use Rattle.pie_parser.specs.Places.{Parsed, Got, Miss, Parser, then_on}

-- a turn: no part comes here, or one is read
pub data Turn (A : Type 0) : Type 0 where
  Stop : Turn A
  Part : Parsed A → Turn A

-- an answer of the code is that of the turn, unless out of memory
abbrev pub Turns : {A : Type 0} → Result (Option A) ParseFault → At → At → Turn A → Type 0
Turns (Ok None) old new t = (t ≡ Stop) × (new ≡ old)
Turns (Ok (Some x)) old new t = t ≡ Part (Got x new)
Turns (Err OutOfMemory) old new t = Unit {0}
Turns (Err e) old new t = t ≡ Part (Miss e new)

-- a part and all after it
abbrev pub on_turn : {A : Type 0} → Turn A → At → (At → Parsed (List A)) → Parsed (List A)
on_turn Stop s again = Got [] s
on_turn (Part p) s again = then_on p (λ x m. then_on (again m) (λ xs k. Got (x ∷ xs) k))

-- the parts that come, no more than so many
abbrev pub many : {A : Type 0} → (At → Turn A) → ℕ → Parser (List A)
many turn zero s = Got [] s
many turn (suc n) s = on_turn (turn s) s (many turn n)

-- these before those that were read
abbrev pub onto : {A : Type 0} → List A → Parsed (List A) → Parsed (List A)
onto xs (Got ys m) = Got (xs ++ ys) m
onto xs (Miss e m) = Miss e m

-- these, and the parts that come behind them
abbrev pub all_behind : {A : Type 0} → List A → (At → Turn A) → Parser (List A)
all_behind xs turn s = onto xs (many turn (length s.rest) s)
