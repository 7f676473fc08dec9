-- When an answer of the program is what is read.
use Rattle.std.specs.Prelude.{◌≡◌, ℕ, List, Result, Ok, Err}
use Rattle.pie_scan.specs.declared.manifest.Manifest.{Manifest}
use Rattle.pie_scan.specs.declared.manifest_fault.ManifestFault.{ManifestFault}
use Rattle.pie_scan.specs.declared.manifest_fault.ManifestFault.TheVariants.{OutOfMemory}
use Rattle.pie_scan.specs.Reading.{Parsed}

-- an answer is what is read, being out of memory left free
abbrev pub ManifestAgrees : {A B : Type 0} → (A → B) → Result A ManifestFault → List ℕ → Parsed B → Type 0
ManifestAgrees f (Ok a) rest p = p ≡ Ok (f a, rest)
ManifestAgrees f (Err OutOfMemory) rest p = Unit {0}
ManifestAgrees f (Err e) rest p = p ≡ Err e

-- an answer is what a manifest says
abbrev pub AgreesWhole : Result Manifest ManifestFault → Result Manifest ManifestFault → Type 0
AgreesWhole (Ok m) r = r ≡ Ok m
AgreesWhole (Err OutOfMemory) r = Unit {0}
AgreesWhole (Err e) r = r ≡ Err e

-- an answer that refuses the bytes, which out of memory isn't
abbrev pub Refuses : Result Manifest ManifestFault → Type 0
Refuses (Ok m) = ⊥
Refuses (Err OutOfMemory) = ⊥
Refuses (Err e) = Unit {0}
