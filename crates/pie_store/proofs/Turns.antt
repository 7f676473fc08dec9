-- Reading things one after another.
use Rattle.std.proofs.Common.{◌≡◌, ℕ, suc, ◌+◌, ◌-◌, ◌<◌, List, [], ◌∷◌, ◌++◌, length, Ok, Err, sym, ap, ◌∙◌, arith}
use Rattle.std.proofs.lemmas.List.{length_push}
use Rattle.pie_record.specs.Reading.{number_at}
use Rattle.pie_store.specs.declared.store_fault.StoreFault.{StoreFault}
use Rattle.pie_store.specs.declared.store_fault.StoreFault.TheVariants.{Short, Magic, Version, Digest, Row, Order, Rest, OutOfMemory}
use Rattle.pie_store.specs.inner.Agreement.{StoreAgrees}
use Rattle.pie_store.specs.inner.Reading.{Parsed, then_on, part_at, some_at, grown, list_at}

abbrev pub pair : {A : Type 0} → A → List ℕ → Parsed A
pair a rest = Ok (a, rest)

left_is : (n i : ℕ) → i < n → n - i ≡ suc (n - (i + 1))
left_is n i h = omega arith

-- one more
pub one_more : {A : Type 0} (one : List A → List ℕ → Parsed A) (n i : ℕ) (xs : List A) (bs : List ℕ) (x : A) (rest : List ℕ) → i < n
    → one xs bs ≡ Ok (x, rest) → some_at one (n - i) xs bs ≡ some_at one (n - (i + 1)) (xs ++ x ∷ []) rest
one_more {A} one n i xs bs x rest h e =
    ap (λ (k : ℕ). some_at one k xs bs) (left_is n i h)
    ∙ ap (λ (p : Parsed A). then_on p (λ y after. some_at one (n - (i + 1)) (xs ++ y ∷ []) after)) e

-- one that can't be read
pub one_fails : {A : Type 0} (one : List A → List ℕ → Parsed A) (n i : ℕ) (xs : List A) (bs : List ℕ) (d : StoreFault) → i < n
    → one xs bs ≡ Err d → some_at one (n - i) xs bs ≡ Err d
one_fails {A} one n i xs bs d h e =
    ap (λ (k : ℕ). some_at one k xs bs) (left_is n i h)
    ∙ ap (λ (p : Parsed A). then_on p (λ y after. some_at one (n - (i + 1)) (xs ++ y ∷ []) after)) e

found : {A : Type 0} → A × List ℕ → Parsed A
found p = Ok p

same_pair : {A : Type 0} (p q : A × List ℕ) → found p ≡ found q → p ≡ q
unfolding found
same_pair p q e = cc

pub same_value : {A : Type 0} (a b : A) (x y : List ℕ) → pair a x ≡ pair b y → a ≡ b
unfolding found
same_value {A = A} a b x y e = ap (λ (p : A × List ℕ). p.0) (same_pair (a, x) (b, y) e)

pub same_rest : {A : Type 0} (a b : A) (x y : List ℕ) → pair a x ≡ pair b y → x ≡ y
unfolding found
same_rest {A = A} a b x y e = ap (λ (p : A × List ℕ). p.1) (same_pair (a, x) (b, y) e)

-- the same, of the whole list so far
grown_by : {A : Type 0} (p : Parsed A) (one : List A → List ℕ → Parsed A) (k : ℕ) (xs ys : List A) (rest : List ℕ)
    → then_on p (λ x after. pair (xs ++ x ∷ []) after) ≡ Ok (ys, rest)
    → then_on p (λ x after. some_at one k (xs ++ x ∷ []) after) ≡ some_at one k ys rest
grown_by {A} (Ok q) one k xs ys rest e = ap (λ (p : Parsed (List A)). then_on p (λ l after. some_at one k l after)) e
grown_by (Err d) one k xs ys rest e = absurd (cc)

stuck_by : {A : Type 0} (p : Parsed A) (one : List A → List ℕ → Parsed A) (k : ℕ) (xs : List A) (d : StoreFault)
    → then_on p (λ x after. pair (xs ++ x ∷ []) after) ≡ Err d → then_on p (λ x after. some_at one k (xs ++ x ∷ []) after) ≡ Err d
stuck_by (Ok q) one k xs d e = absurd (cc)
stuck_by {A} (Err f) one k xs d e = ap (λ (p : Parsed (List A)). then_on p (λ l after. some_at one k l after)) e

pub one_grown : {A : Type 0} (one : List A → List ℕ → Parsed A) (n i : ℕ) (xs ys : List A) (bs rest : List ℕ) → i < n
    → grown one xs bs ≡ Ok (ys, rest) → some_at one (n - i) xs bs ≡ some_at one (n - (i + 1)) ys rest
one_grown {A} one n i xs ys bs rest h e = ap (λ (k : ℕ). some_at one k xs bs) (left_is n i h) ∙ grown_by (one xs bs) one (n - (i + 1)) xs ys rest e

pub grown_fails : {A : Type 0} (end : ℕ) (one : List A → List ℕ → Parsed A) (n i : ℕ) (xs : List A) (bs start mid : List ℕ) (d : StoreFault) → i < n
    → part_at end number_at bs ≡ Ok (n, start) → some_at one (n - i) xs mid ≡ some_at one n [] start → grown one xs mid ≡ Err d
    → list_at end one bs ≡ Err d
grown_fails {A} end one n i xs bs start mid d h e inv f =
    ap (λ (p : Parsed ℕ). then_on p (λ m rest. some_at one m [] rest)) e ∙ sym inv
    ∙ ap (λ (k : ℕ). some_at one k xs mid) (left_is n i h) ∙ stuck_by (one xs mid) one (n - (i + 1)) xs d f

-- the list so far has one more
pub grown_long : {A : Type 0} (one : List A → List ℕ → Parsed A) (xs ys : List A) (bs rest : List ℕ) → grown one xs bs ≡ Ok (ys, rest)
    → length ys ≡ length xs + 1
grown_long {A} one xs ys bs rest e = by (one xs bs) e
  where
    by : (p : Parsed A) → then_on p (λ x after. pair (xs ++ x ∷ []) after) ≡ pair ys rest → length ys ≡ length xs + 1
    by (Ok q) h = sym (ap length (same_value (xs ++ q.0 ∷ []) ys q.1 rest h)) ∙ length_push xs q.0
    by (Err d) h = absurd (cc)

-- things behind their number, one of which can't be read
pub list_fails : {A : Type 0} (end : ℕ) (one : List A → List ℕ → Parsed A) (n i : ℕ) (xs : List A) (bs start mid : List ℕ) (d : StoreFault) → i < n
    → part_at end number_at bs ≡ Ok (n, start) → some_at one (n - i) xs mid ≡ some_at one n [] start → one xs mid ≡ Err d
    → list_at end one bs ≡ Err d
list_fails {A} end one n i xs bs start mid d h e inv f =
    ap (λ (p : Parsed ℕ). then_on p (λ m rest. some_at one m [] rest)) e ∙ sym inv ∙ one_fails one n i xs mid d h f

-- a fault that is handed on
pub fault_goes : {A B C D : Type 0} (f : A → B) (g : C → D) (d : StoreFault) (x y : List ℕ) (p : Parsed B) (q : Parsed D)
    → (p ≡ Err d → q ≡ Err d) → StoreAgrees {A = A} f (Err d) x p → StoreAgrees {A = C} g (Err d) y q
fault_goes f g Short x y p q k h = k h
fault_goes f g Magic x y p q k h = k h
fault_goes f g Version x y p q k h = k h
fault_goes f g Digest x y p q k h = k h
fault_goes f g (Row at) x y p q k h = k h
fault_goes f g (Order at) x y p q k h = k h
fault_goes f g Rest x y p q k h = k h
fault_goes f g OutOfMemory x y p q k h = tt
