-- Reading things one after another.
use Rattle.std.proofs.Common.{◌≡◌, ℕ, suc, ◌+◌, ◌-◌, ◌<◌, List, [], ◌∷◌, ◌++◌, Ok, Err, sym, ap, ◌∙◌, arith}
use Rattle.pie_record.specs.Reading.{Parsed as Part}
use Rattle.pie_scan.specs.declared.manifest_fault.ManifestFault.{ManifestFault}
use Rattle.pie_scan.specs.declared.manifest_fault.ManifestFault.TheVariants.{Short, Magic, Version, Digest, Entry, Order, Rest, OutOfMemory}
use Rattle.pie_scan.specs.inner.Agreement.{ManifestAgrees}
use Rattle.pie_scan.specs.Reading.{Parsed, then_on, part_at, next_at, some_at, list_at}

abbrev pub pair : {A : Type 0} → A → List ℕ → Parsed A
pair a rest = Ok (a, rest)

left_is : (n i : ℕ) → i < n → n - i ≡ suc (n - (i + 1))
left_is n i h = omega arith

-- one more
pub one_more : {A : Type 0} (one : List A → List ℕ → Parsed A) (n i : ℕ) (xs : List A) (bs : List ℕ) (x : A) (rest : List ℕ) → i < n
    → one xs bs ≡ Ok (x, rest) → some_at one (n - i) xs bs ≡ some_at one (n - (i + 1)) (xs ++ x ∷ []) rest
one_more {A} one n i xs bs x rest h e =
    ap (λ (k : ℕ). some_at one k xs bs) (left_is n i h)
    ∙ ap (λ (p : Parsed A). then_on p (λ y after. some_at one (n - (i + 1)) (xs ++ y ∷ []) after)) e

-- one that can't be read
pub one_fails : {A : Type 0} (one : List A → List ℕ → Parsed A) (n i : ℕ) (xs : List A) (bs : List ℕ) (d : ManifestFault) → i < n
    → one xs bs ≡ Err d → some_at one (n - i) xs bs ≡ Err d
one_fails {A} one n i xs bs d h e =
    ap (λ (k : ℕ). some_at one k xs bs) (left_is n i h)
    ∙ ap (λ (p : Parsed A). then_on p (λ y after. some_at one (n - (i + 1)) (xs ++ y ∷ []) after)) e

found : {A : Type 0} → A × List ℕ → Parsed A
found p = Ok p

same_pair : {A : Type 0} (p q : A × List ℕ) → found p ≡ found q → p ≡ q
unfolding found
same_pair p q e = cc

pub same_value : {A : Type 0} (a b : A) (x y : List ℕ) → pair a x ≡ pair b y → a ≡ b
unfolding found
same_value {A = A} a b x y e = ap (λ (p : A × List ℕ). p.0) (same_pair (a, x) (b, y) e)

pub same_rest : {A : Type 0} (a b : A) (x y : List ℕ) → pair a x ≡ pair b y → x ≡ y
unfolding found
same_rest {A = A} a b x y e = ap (λ (p : A × List ℕ). p.1) (same_pair (a, x) (b, y) e)

-- things behind their number, one of which can't be read
pub list_fails : {A : Type 0} (end : ℕ) (count : List ℕ → Part ℕ) (key : A → List ℕ) (one : List ℕ → Part A) (n i : ℕ) (xs : List A)
    (bs start mid : List ℕ) (d : ManifestFault) → i < n
    → part_at end count bs ≡ Ok (n, start) → some_at (next_at end key one) (n - i) xs mid ≡ some_at (next_at end key one) n [] start
    → next_at end key one xs mid ≡ Err d → list_at end count key one bs ≡ Err d
list_fails end count key one n i xs bs start mid d h e inv f =
    ap (λ (p : Parsed ℕ). then_on p (λ m rest. some_at (next_at end key one) m [] rest)) e ∙ sym inv ∙ one_fails (next_at end key one) n i xs mid d h f

-- a fault that is handed on
pub fault_goes : {A B C D : Type 0} (f : A → B) (g : C → D) (d : ManifestFault) (x y : List ℕ) (p : Parsed B) (q : Parsed D)
    → (p ≡ Err d → q ≡ Err d) → ManifestAgrees {A = A} f (Err d) x p → ManifestAgrees {A = C} g (Err d) y q
fault_goes f g Short x y p q k h = k h
fault_goes f g Magic x y p q k h = k h
fault_goes f g Version x y p q k h = k h
fault_goes f g Digest x y p q k h = k h
fault_goes f g (Entry at) x y p q k h = k h
fault_goes f g (Order at) x y p q k h = k h
fault_goes f g Rest x y p q k h = k h
fault_goes f g OutOfMemory x y p q k h = tt
