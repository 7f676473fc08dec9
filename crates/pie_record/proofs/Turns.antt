-- Reading things one after another.
use Rattle.std.proofs.Common.{◌≡◌, ℕ, suc, ◌+◌, ◌-◌, ◌<◌, List, [], ◌∷◌, ◌++◌, Ok, Err, sym, ap, ◌∙◌, arith}
use Rattle.pie_record.specs.declared.record_fault.RecordFault.{RecordFault}
use Rattle.pie_record.specs.declared.record_fault.RecordFault.TheVariants.{Short, BadTag, BadPath, BadValue, OutOfMemory}
use Rattle.pie_record.specs.inner.Agreement.{RowAgrees}
use Rattle.pie_record.specs.Reading.{Parsed, then_on, number_at, many_at, list_at}

left_is : (n i : ℕ) → i < n → n - i ≡ suc (n - (i + 1))
left_is n i h = omega arith

-- one more
pub one_more : {A : Type 0} (one : List ℕ → Parsed A) (n i : ℕ) (xs : List A) (bs : List ℕ) (x : A) (rest : List ℕ) → i < n
    → one bs ≡ Ok (x, rest) → many_at one (n - i) xs bs ≡ many_at one (n - (i + 1)) (xs ++ x ∷ []) rest
one_more {A} one n i xs bs x rest h e =
    ap (λ (k : ℕ). many_at one k xs bs) (left_is n i h)
    ∙ ap (λ (p : Parsed A). then_on p (λ y after. many_at one (n - (i + 1)) (xs ++ y ∷ []) after)) e

-- one that can't be read
pub one_fails : {A : Type 0} (one : List ℕ → Parsed A) (n i : ℕ) (xs : List A) (bs : List ℕ) (d : RecordFault) → i < n
    → one bs ≡ Err d → many_at one (n - i) xs bs ≡ Err d
one_fails {A} one n i xs bs d h e =
    ap (λ (k : ℕ). many_at one k xs bs) (left_is n i h)
    ∙ ap (λ (p : Parsed A). then_on p (λ y after. many_at one (n - (i + 1)) (xs ++ y ∷ []) after)) e

-- things behind their number, one of which can't be read
pub list_fails : {A : Type 0} (one : List ℕ → Parsed A) (n i : ℕ) (xs : List A) (bs start mid : List ℕ) (d : RecordFault) → i < n
    → number_at bs ≡ Ok (n, start) → many_at one (n - i) xs mid ≡ many_at one n [] start → one mid ≡ Err d → list_at one bs ≡ Err d
list_fails {A} one n i xs bs start mid d h e inv f =
    ap (λ (p : Parsed ℕ). then_on p (λ m rest. many_at one m [] rest)) e ∙ sym inv ∙ one_fails one n i xs mid d h f

-- a fault that is handed on
pub fault_goes : {A B C D : Type 0} (f : A → B) (g : C → D) (d : RecordFault) (x y : List ℕ) (p : Parsed B) (q : Parsed D)
    → (p ≡ Err d → q ≡ Err d) → RowAgrees {A = A} f (Err d) x p → RowAgrees {A = C} g (Err d) y q
fault_goes f g Short x y p q k h = k h
fault_goes f g BadTag x y p q k h = k h
fault_goes f g BadPath x y p q k h = k h
fault_goes f g BadValue x y p q k h = k h
fault_goes f g OutOfMemory x y p q k h = tt
