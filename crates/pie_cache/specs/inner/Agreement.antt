-- When an answer of the program is what is read.
use Rattle.std.specs.Prelude.{◌≡◌, ℕ, List, map, Result, Ok, Err, Vec}
use Rattle.std.specs.Global.{Global}
use Rattle.pie_store.specs.declared.offers.Offer.{Offer}
use Rattle.pie_store.specs.inner.Offers.{Offered, offered}
use Rattle.pie_cache.specs.declared.cache_fault.CacheFault.{CacheFault}
use Rattle.pie_cache.specs.declared.cache_fault.CacheFault.TheVariants.{OutOfMemory}
use Rattle.pie_cache.specs.inner.Reading.{Parsed}

-- an answer is what is read, being out of memory left free
abbrev pub CacheAgrees : {A B : Type 0} → (A → B) → Result A CacheFault → List ℕ → Parsed B → Type 0
CacheAgrees f (Ok a) rest p = p ≡ Ok (f a, rest)
CacheAgrees f (Err OutOfMemory) rest p = Unit {0}
CacheAgrees f (Err e) rest p = p ≡ Err e

-- an answer is what a cache file says
abbrev pub AgreesWhole : Result (Vec Offer Global) CacheFault → Result (List Offered) CacheFault → Type 0
AgreesWhole (Ok es) r = r ≡ Ok (map offered es.items)
AgreesWhole (Err OutOfMemory) r = Unit {0}
AgreesWhole (Err e) r = r ≡ Err e

-- an answer that refuses the bytes, which out of memory isn't
abbrev pub Refuses : Result (Vec Offer Global) CacheFault → Type 0
Refuses (Ok es) = ⊥
Refuses (Err OutOfMemory) = ⊥
Refuses (Err e) = Unit {0}
