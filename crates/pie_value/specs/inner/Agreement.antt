-- When an answer of the program is what is read.
use Rattle.std.specs.Prelude.{◌≡◌, ℕ, ◌≤◌, List, length, drop, Result, Ok, Err}
use Rattle.pie_value.specs.declared.value_fault.ValueFault.{ValueFault}
use Rattle.pie_value.specs.declared.value_fault.ValueFault.TheVariants.{OutOfMemory}
use Rattle.pie_value.specs.Reading.{Parsed}

-- an answer is what is read, being out of memory left free
abbrev pub ValueAgrees : {A B : Type 0} → (A → B) → Result A ValueFault → List ℕ → Parsed B → Type 0
ValueAgrees f (Ok a) rest p = p ≡ Ok (f a, rest)
ValueAgrees f (Err OutOfMemory) rest p = Unit {0}
ValueAgrees f (Err e) rest p = p ≡ Err e

-- an answer is what is read and how many bytes it takes
abbrev pub ValueAgreesOnPrefix : {A B : Type 0} → (A → B) → Result (A × ℕ) ValueFault → List ℕ → Parsed B → Type 0
ValueAgreesOnPrefix f (Ok a) bs p = (p ≡ Ok (f a.0, drop a.1 bs)) × (a.1 ≤ length bs)
ValueAgreesOnPrefix f (Err OutOfMemory) bs p = Unit {0}
ValueAgreesOnPrefix f (Err e) bs p = p ≡ Err e

-- an answer that refuses the bytes, which out of memory isn't
abbrev pub Refuses : {A : Type 0} → Result A ValueFault → Type 0
Refuses (Ok a) = ⊥
Refuses (Err OutOfMemory) = ⊥
Refuses (Err e) = Unit {0}
