-- Bytes that have a fault in a list are refused with it.
use Rattle.std.proofs.Common.{◌≡◌, ℕ, zero, suc, ◌+◌, ◌-◌, ◌<◌, ◌≤◌, Bool, true, false, List, [], ◌∷◌, ◌++◌, length}
use Rattle.std.proofs.Common.{Result, Ok, Err, refl, ap, subst, ◌∙◌, arith, inl, inr}
use Rattle.std.specs.Prelude.{All, ◌⊎◌}
use Rattle.std.specs.List.{flat_map}
use Rattle.std.proofs.lemmas.List.{get_or-append-add, length-append}
use Rattle.std.proofs.lemmas.List.Elements.{All-push}
use Rattle.pie_value.proofs.Taking.{IsBytes}
use Rattle.pie_record.specs.declared.record_fault.RecordFault.{RecordFault}
use Rattle.pie_record.specs.declared.record_fault.RecordFault.TheVariants.{Short as NoMore, BadTag, BadPath, BadValue, OutOfMemory as NoMemory}
use Rattle.pie_record.specs.Reading.{Parsed as Part}
use Rattle.pie_record.proofs.Steps.{Codec}
use Rattle.pie_scan.specs.declared.manifest_fault.ManifestFault.{ManifestFault}
use Rattle.pie_scan.specs.declared.manifest_fault.ManifestFault.TheVariants.{Entry as BadEntry, Order, OutOfMemory}
use Rattle.pie_scan.specs.inner.Faults.{Begins, NoneInFront, Unreadable, Misplaced}
use Rattle.pie_scan.specs.Reading.{Parsed, then_on, part_fault, placed, part_at, is_last, ordered, next_at, some_at, list_at}
use Rattle.pie_scan.proofs.Turns.{same_value, same_rest}
use Rattle.pie_scan.proofs.Lists.{then_ok, part_again, some_again}
use Rattle.pie_scan.proofs.Pairs.{Rising, rising_push}

-- it ends in a fault, or out of memory
abbrev pub Comes : {A : Type 0} → Result A ManifestFault → ManifestFault → Type 0
Comes {A} r e = (r ≡ Err e) ⊎ (r ≡ Err OutOfMemory)

pub comes_by : {A : Type 0} (r q : Result A ManifestFault) (e : ManifestFault) → r ≡ q → Comes q e → Comes r e
comes_by r q e s (inl h) = inl (s ∙ h)
comes_by r q e s (inr h) = inr (s ∙ h)

pub comes_at : {A : Type 0} (r : Result A ManifestFault) (e d : ManifestFault) → e ≡ d → Comes r e → Comes r d
comes_at {A} r e d s h = subst (λ (x : ManifestFault). Comes r x) s h

pub then_comes : {A B : Type 0} (p : Parsed A) (k : A → List ℕ → Parsed B) (e : ManifestFault) → Comes p e → Comes (then_on p k) e
then_comes {A} p k e (inl h) = inl (ap (λ (q : Parsed A). then_on q k) h)
then_comes {A} p k e (inr h) = inr (ap (λ (q : Parsed A). then_on q k) h)

fault_comes : {A : Type 0} (at : ℕ) (d : RecordFault) → Comes {A = A} (Err (part_fault at d)) (BadEntry at)
fault_comes at NoMore = inl refl
fault_comes at BadTag = inl refl
fault_comes at BadPath = inl refl
fault_comes at BadValue = inl refl
fault_comes at NoMemory = inr refl

pub back_bytes : (xs ys : List ℕ) → IsBytes (xs ++ ys) → IsBytes ys
back_bytes xs ys h i = subst (λ (b : ℕ). b < 256) (get_or-append-add xs ys i 0) (h (length xs + i))

module _ {A : Type 0} {one : List ℕ → Part A} {bytes : A → List ℕ} {Fits : A → Type 0} (c : Codec one bytes Fits) (end : ℕ) where
  -- a part that isn't in front isn't read
  pub part_comes : (bs : List ℕ) → IsBytes bs → NoneInFront bytes Fits bs → Comes (part_at end one bs) (BadEntry (end - length bs))
  part_comes bs fits none = by (one bs) refl
    where
      by : (p : Part A) → one bs ≡ p → Comes (part_at end one bs) (BadEntry (end - length bs))
      by (Ok q) e = let t = c.taken bs q.0 q.1 fits e in absurd (none q.0 q.1 t.1 t.0.parts)
      by (Err d) e = comes_by _ _ _ (ap (λ (p : Part A). placed (end - length bs) p) e) (fault_comes {A = A × List ℕ} (end - length bs) d)

module _ {A : Type 0} (key : A → List ℕ) {one : List ℕ → Part A} {bytes : A → List ℕ} {Fits : A → Type 0} (c : Codec one bytes Fits) (end : ℕ) where
  -- so many things, and then more
  some_more : (n m k : ℕ) (xs ys : List A) (bs rest : List ℕ) → k ≡ n + m → some_at (next_at end key one) n xs bs ≡ Ok (ys, rest)
      → some_at (next_at end key one) k xs bs ≡ some_at (next_at end key one) m ys rest
  some_more zero m k xs ys bs rest e f =
      let same : k ≡ m = omega (arith, e) in
      ap (λ (j : ℕ). some_at (next_at end key one) j xs bs) same ∙ ap (λ (l : List A). some_at (next_at end key one) m l bs) (same_value xs ys bs rest f)
      ∙ ap (λ (t : List ℕ). some_at (next_at end key one) m ys t) (same_rest xs ys bs rest f)
  some_more (suc n) m zero xs ys bs rest e f = absurd (omega (arith, e))
  some_more (suc n) m (suc k) xs ys bs rest e f =
      let q = then_ok (next_at end key one xs bs) (λ x after. some_at (next_at end key one) n (xs ++ x ∷ []) after) ys rest f in
      ap (λ (p : Parsed A). then_on p (λ x after. some_at (next_at end key one) k (xs ++ x ∷ []) after)) q.2
      ∙ some_more n m k (xs ++ q.0 ∷ []) ys q.1 rest (omega (arith, e)) q.3

  module _ {count : List ℕ → Part ℕ} {number : ℕ → List ℕ} {Few : ℕ → Type 0} (k : Codec count number Few) (size : ℕ)
      (sized : (n : ℕ) → length (number n) ≡ size) (Good : List A → Type 0) (good_of : (xs : List A) → All Fits xs → Rising key xs → Good xs)
      (rising_of : (xs : List A) → Good xs → Rising key xs) (fit_of : (xs : List A) → Good xs → All Fits xs) where
    list_comes : (bs : List ℕ) (before : List A) (rest : List ℕ) (e : ManifestFault) → Begins number Few bytes Good bs before rest
        → Comes (next_at end key one before rest) e → Comes (list_at end count key one bs) e
    list_comes bs before rest e b fails =
        let m = b.count - length before - 1 in
        let left : b.count ≡ length before + suc m = omega (arith, b.more) in
        let read = some_again key c end before (fit_of before b.good) (rising_of before b.good) before [] rest refl in
        comes_by (list_at end count key one bs) (some_at (next_at end key one) (suc m) before rest) e
        (ap (λ (t : List ℕ). list_at end count key one t) b.parts
        ∙ ap (λ (p : Parsed ℕ). then_on p (λ n after. some_at (next_at end key one) n [] after))
        (part_again k end b.count (flat_map bytes before ++ rest) b.few)
        ∙ some_more (length before) (suc m) b.count [] before (flat_map bytes before ++ rest) rest left read)
        (then_comes (next_at end key one before rest) (λ x after. some_at (next_at end key one) m (before ++ x ∷ []) after) e fails)

    place_is : (bs : List ℕ) (before : List A) (rest : List ℕ) (j : ℕ) → Begins number Few bytes Good bs before rest → length bs ≤ end
        → j ≡ size + length (flat_map bytes before) → end - length rest ≡ (end - length bs) + j
    place_is bs before rest j b le e =
        omega (
          arith,
          le,
          e,
          ap length b.parts,
          length-append (number b.count) (flat_map bytes before ++ rest),
          length-append (flat_map bytes before) rest,
          sized b.count,
        )

    begun_bytes : (bs : List ℕ) (before : List A) (rest : List ℕ) → Begins number Few bytes Good bs before rest → IsBytes bs → IsBytes rest
    begun_bytes bs before rest b fits =
        back_bytes (flat_map bytes before) rest (back_bytes (number b.count) (flat_map bytes before ++ rest) (subst IsBytes b.parts fits))

    pub list_unread : (bs : List ℕ) (j : ℕ) → IsBytes bs → length bs ≤ end → Unreadable size number Few bytes Fits Good bs j
        → Comes (list_at end count key one bs) (BadEntry ((end - length bs) + j))
    unfolding next_at
    list_unread bs j fits le (inl h) =
        let same : end - length bs ≡ (end - length bs) + j = omega (arith, h.1) in
        comes_at _ _ _ (ap (λ (m : ℕ). BadEntry m) same)
        (then_comes (part_at end count bs) (λ n after. some_at (next_at end key one) n [] after) (BadEntry (end - length bs))
        (part_comes k end bs fits (λ n after few same_bytes.
        absurd (omega (arith, h.0, ap length same_bytes, length-append (number n) after, sized n)))))
    list_unread bs j fits le (inr h) =
        let before = h.0 in
        let rest = h.1 in
        let b = h.2 in
        let fails : Comes (next_at end key one before rest) (BadEntry (end - length rest)) =
        then_comes (part_at end one rest) (λ x after. ordered (end - length rest) (is_last key before x) x after) (BadEntry (end - length rest))
        (part_comes c end rest (begun_bytes bs before rest b fits) h.3) in
        comes_at _ _ _ (ap (λ (m : ℕ). BadEntry m) (place_is bs before rest j b le h.4))
        (list_comes bs before rest (BadEntry (end - length rest)) b fails)

    pub list_misplaced : (bs : List ℕ) (j : ℕ) → length bs ≤ end → Misplaced size number Few bytes Fits Good bs j
        → Comes (list_at end count key one bs) (Order ((end - length bs) + j))
    unfolding next_at
    list_misplaced bs j le h =
        let before = h.0 in
        let x = h.1 in
        let rest = bytes x ++ h.2 in
        let b = h.3 in
        let at = end - length rest in
        let fails : next_at end key one before rest ≡ Err (Order at) =
        ap (λ (p : Parsed A). then_on p (λ y left. ordered at (is_last key before y) y left)) (part_again c end x h.2 h.4)
        ∙ ap (λ (last : Bool). ordered at last x h.2) (not_last (is_last key before x) refl) in
        comes_at _ _ _ (ap (λ (m : ℕ). Order m) (place_is bs before rest j b le h.6)) (list_comes bs before rest (Order at) b (inl fails))
      where
        not_last : (last : Bool) → is_last key h.0 h.1 ≡ last → is_last key h.0 h.1 ≡ false
        not_last true e =
            absurd (h.5 (good_of (h.0 ++ h.1 ∷ []) (All-push Fits h.0 h.1 (fit_of h.0 h.3.good) h.4) (rising_push key h.0 h.1 (rising_of h.0 h.3.good) e)))
        not_last false e = e
