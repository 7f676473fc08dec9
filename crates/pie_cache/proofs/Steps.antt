-- Steps of reading: what they gave, and how they fail.
use Rattle.std.proofs.Common.{◌≡◌, ◌≢◌, ℕ, List, Ok, Err, refl, ap, inl, inr}
use Rattle.std.specs.Prelude.{◌⊎◌}
use Rattle.pie_record.specs.declared.record_fault.RecordFault.{RecordFault}
use Rattle.pie_record.specs.declared.record_fault.RecordFault.TheVariants.{Short as NoMore, BadTag, BadPath, BadValue, OutOfMemory as NoMemory}
use Rattle.pie_record.specs.Reading.{Parsed as Part}
use Rattle.pie_cache.specs.declared.cache_fault.CacheFault.{CacheFault}
use Rattle.pie_cache.specs.declared.cache_fault.CacheFault.TheVariants.{Short, Magic, Version, Digest, Count, Entry, Rest, OutOfMemory}
use Rattle.pie_cache.specs.inner.Agreement.{CacheAgrees}
use Rattle.pie_cache.specs.inner.Reading.{Parsed, then_on, placed}

abbrev pub pair : {A : Type 0} → A → List ℕ → Parsed A
pair a rest = Ok (a, rest)

found : {A : Type 0} → A × List ℕ → Parsed A
found p = Ok p

same_pair : {A : Type 0} (p q : A × List ℕ) → found p ≡ found q → p ≡ q
unfolding found
same_pair p q e = cc

pub same_value : {A : Type 0} (a b : A) (x y : List ℕ) → pair a x ≡ pair b y → a ≡ b
unfolding found
same_value {A = A} a b x y e = ap (λ (p : A × List ℕ). p.0) (same_pair (a, x) (b, y) e)

pub same_rest : {A : Type 0} (a b : A) (x y : List ℕ) → pair a x ≡ pair b y → x ≡ y
unfolding found
same_rest {A = A} a b x y e = ap (λ (p : A × List ℕ). p.1) (same_pair (a, x) (b, y) e)

-- the first of two steps didn't fail
pub then_ok : {A B : Type 0} (p : Parsed A) (k : A → List ℕ → Parsed B) (b : B) (rest : List ℕ) → then_on p k ≡ Ok (b, rest)
    → (a : A) × (mid : List ℕ) × (p ≡ Ok (a, mid)) × (k a mid ≡ Ok (b, rest))
then_ok (Ok q) k b rest e = (q.0, q.1, refl, e)
then_ok (Err d) k b rest e = absurd (cc)

-- one of two steps failed
pub then_err : {A B : Type 0} (p : Parsed A) (k : A → List ℕ → Parsed B) (e : CacheFault) → then_on p k ≡ Err e
    → (p ≡ Err e) ⊎ ((a : A) × (mid : List ℕ) × (p ≡ Ok (a, mid)) × (k a mid ≡ Err e))
then_err (Ok q) k e f = inr (q.0, q.1, refl, f)
then_err (Err d) k e f = inl (cc)

pub placed_ok : {A : Type 0} (at : ℕ) (p : Part A) (a : A) (rest : List ℕ) → placed at p ≡ Ok (a, rest) → p ≡ Ok (a, rest)
placed_ok {A} at (Ok q) a rest e = λ i. Ok (same_value q.0 a q.1 rest e i, same_rest q.0 a q.1 rest e i)
placed_ok at (Err d) a rest e = absurd (cc)

-- out of memory isn't a fault of the bytes
abbrev pub Named : CacheFault → Type 0
Named e = e ≢ OutOfMemory

pub placed_err : {A : Type 0} (at : ℕ) (p : Part A) (e : CacheFault) → Named e → placed at p ≡ Err e
    → (e ≡ Entry at) × ((d : RecordFault) × (p ≡ Err d))
placed_err at (Ok q) e n f = absurd (cc)
placed_err at (Err NoMore) e n f = (cc, (NoMore, refl))
placed_err at (Err BadTag) e n f = (cc, (BadTag, refl))
placed_err at (Err BadPath) e n f = (cc, (BadPath, refl))
placed_err at (Err BadValue) e n f = (cc, (BadValue, refl))
placed_err at (Err NoMemory) e n f = absurd (n (cc))

-- a fault that is handed on
pub fault_goes : {A B C D : Type 0} (f : A → B) (g : C → D) (d : CacheFault) (x y : List ℕ) (p : Parsed B) (q : Parsed D)
    → (p ≡ Err d → q ≡ Err d) → CacheAgrees {A = A} f (Err d) x p → CacheAgrees {A = C} g (Err d) y q
fault_goes f g Short x y p q k h = k h
fault_goes f g Magic x y p q k h = k h
fault_goes f g Version x y p q k h = k h
fault_goes f g Digest x y p q k h = k h
fault_goes f g Count x y p q k h = k h
fault_goes f g (Entry at) x y p q k h = k h
fault_goes f g Rest x y p q k h = k h
fault_goes f g OutOfMemory x y p q k h = tt
