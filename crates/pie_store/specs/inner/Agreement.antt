-- When an answer of the program is what is read.
use Rattle.std.specs.Prelude.{◌≡◌, ℕ, List, Result, Ok, Err}
use Rattle.pie_store.specs.declared.image.StoreImage.{StoreImage}
use Rattle.pie_store.specs.declared.store_fault.StoreFault.{StoreFault}
use Rattle.pie_store.specs.declared.store_fault.StoreFault.TheVariants.{OutOfMemory}
use Rattle.pie_store.specs.inner.Reading.{Parsed}

-- an answer is what is read, being out of memory left free
abbrev pub StoreAgrees : {A B : Type 0} → (A → B) → Result A StoreFault → List ℕ → Parsed B → Type 0
StoreAgrees f (Ok a) rest p = p ≡ Ok (f a, rest)
StoreAgrees f (Err OutOfMemory) rest p = Unit {0}
StoreAgrees f (Err e) rest p = p ≡ Err e

-- an answer is what a store says
abbrev pub AgreesWhole : Result StoreImage StoreFault → Result StoreImage StoreFault → Type 0
AgreesWhole (Ok image) r = r ≡ Ok image
AgreesWhole (Err OutOfMemory) r = Unit {0}
AgreesWhole (Err e) r = r ≡ Err e

-- an answer that refuses the bytes, which out of memory isn't
abbrev pub Refuses : Result StoreImage StoreFault → Type 0
Refuses (Ok image) = ⊥
Refuses (Err OutOfMemory) = ⊥
Refuses (Err e) = Unit {0}
