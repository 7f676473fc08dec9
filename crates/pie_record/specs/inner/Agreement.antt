-- When an answer of the program is what is read.
use Rattle.std.specs.Prelude.{◌≡◌, ℕ, ◌≤◌, List, length, drop, Result, Ok, Err, Option, Some, None}
use Rattle.pie_value.specs.declared.task.Task.{Task}
use Rattle.pie_record.specs.declared.record_fault.RecordFault.{RecordFault}
use Rattle.pie_record.specs.declared.record_fault.RecordFault.TheVariants.{OutOfMemory}
use Rattle.pie_record.specs.Reading.{Parsed, task_at}

-- an answer is what is read, being out of memory left free
abbrev pub RowAgrees : {A B : Type 0} → (A → B) → Result A RecordFault → List ℕ → Parsed B → Type 0
RowAgrees f (Ok a) rest p = p ≡ Ok (f a, rest)
RowAgrees f (Err OutOfMemory) rest p = Unit {0}
RowAgrees f (Err e) rest p = p ≡ Err e

-- an answer is what is read and how many bytes it takes
abbrev pub RowAgreesOnPrefix : {A B : Type 0} → (A → B) → Result (A × ℕ) RecordFault → List ℕ → Parsed B → Type 0
RowAgreesOnPrefix f (Ok a) bs p = (p ≡ Ok (f a.0, drop a.1 bs)) × (a.1 ≤ length bs)
RowAgreesOnPrefix f (Err OutOfMemory) bs p = Unit {0}
RowAgreesOnPrefix f (Err e) bs p = p ≡ Err e

-- an answer that refuses the bytes, which out of memory isn't
abbrev pub Refuses : {A : Type 0} → Result A RecordFault → Type 0
Refuses (Ok a) = ⊥
Refuses (Err OutOfMemory) = ⊥
Refuses (Err e) = Unit {0}

-- a task that was met, and what is left behind it; where none was, nothing is taken
abbrev pub Meets : Option Task → List ℕ → List ℕ → Type 0
Meets None bs rest = rest ≡ bs
Meets (Some t) bs rest = task_at bs ≡ Ok (t, rest)
