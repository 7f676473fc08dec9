-- Where reading a list stops: what was read before, and why the next thing isn't read.
use Rattle.std.proofs.Common.{◌≡◌, ◌≢◌, ℕ, zero, suc, ◌+◌, ◌-◌, ◌<◌, ◌≤◌, Bool, true, false, List, [], ◌∷◌, ◌++◌, length}
use Rattle.std.proofs.Common.{Ok, Err, refl, sym, ap, subst, ◌∙◌, append_assoc, append-nil, arith, inl, inr}
use Rattle.std.specs.Prelude.{All, ◌⊎◌}
use Rattle.std.specs.List.{flat_map}
use Rattle.std.proofs.lemmas.List.{length-append}
use Rattle.std.proofs.lemmas.List.Elements.{All-nil, All-push}
use Rattle.pie_value.proofs.Taking.{IsBytes}
use Rattle.pie_record.specs.declared.record_fault.RecordFault.{RecordFault}
use Rattle.pie_record.specs.declared.record_fault.RecordFault.TheVariants.{Short as NoMore, BadTag, BadPath, BadValue, OutOfMemory as NoMemory}
use Rattle.pie_record.specs.Reading.{Parsed as Part}
use Rattle.pie_record.proofs.Steps.{Codec}
use Rattle.pie_scan.specs.declared.manifest_fault.ManifestFault.{ManifestFault}
use Rattle.pie_scan.specs.declared.manifest_fault.ManifestFault.TheVariants.{Entry as BadEntry, Order, OutOfMemory}
use Rattle.pie_scan.specs.inner.Faults.{NoneInFront, Unreadable, Misplaced}
use Rattle.pie_scan.specs.Reading.{Parsed, then_on, placed, part_at, is_last, ordered, next_at, some_at, list_at}
use Rattle.pie_scan.proofs.Lists.{placed_ok, next_taken}
use Rattle.pie_scan.proofs.Pairs.{Rising, rising_push, not_rising}

-- ---- steps

pub then_err : {A B : Type 0} (p : Parsed A) (k : A → List ℕ → Parsed B) (e : ManifestFault) → then_on p k ≡ Err e
    → (p ≡ Err e) ⊎ ((a : A) × (mid : List ℕ) × (p ≡ Ok (a, mid)) × (k a mid ≡ Err e))
then_err (Ok q) k e f = inr (q.0, q.1, refl, f)
then_err (Err d) k e f = inl (cc)

-- out of memory isn't a fault of the bytes
abbrev pub Named : ManifestFault → Type 0
Named e = e ≢ OutOfMemory

pub placed_err : {A : Type 0} (at : ℕ) (p : Part A) (e : ManifestFault) → Named e → placed at p ≡ Err e
    → (e ≡ BadEntry at) × ((d : RecordFault) × (p ≡ Err d))
placed_err at (Ok q) e n f = absurd (cc)
placed_err at (Err NoMore) e n f = (cc, (NoMore, refl))
placed_err at (Err BadTag) e n f = (cc, (BadTag, refl))
placed_err at (Err BadPath) e n f = (cc, (BadPath, refl))
placed_err at (Err BadValue) e n f = (cc, (BadValue, refl))
placed_err at (Err NoMemory) e n f = absurd (n (cc))

module _ {A : Type 0} (key : A → List ℕ) {one : List ℕ → Part A} {bytes : A → List ℕ} {Fits : A → Type 0} (c : Codec one bytes Fits) (end : ℕ) where
  -- what can't be read has nothing in front that would be read again
  none_in_front : (bs : List ℕ) (d : RecordFault) → one bs ≡ Err d → NoneInFront bytes Fits bs
  none_in_front bs d e x after fits same =
      let g = sym e ∙ ap one same ∙ c.again x after fits in absurd (cc (g))

  abbrev Unfit : List A → List ℕ → ManifestFault → Type 0
  Unfit xs bs e = ((e ≡ BadEntry (end - length bs)) × NoneInFront bytes Fits bs)
      ⊎ ((e ≡ Order (end - length bs)) × ((x : A) × (after : List ℕ) × (part_at end one bs ≡ Ok (x, after)) × (is_last key xs x ≡ false)))

  next_fails : (xs : List A) (bs : List ℕ) (e : ManifestFault) → Named e → next_at end key one xs bs ≡ Err e → Unfit xs bs e
  unfolding next_at
  next_fails xs bs e n f = by (then_err (part_at end one bs) (λ x rest. ordered (end - length bs) (is_last key xs x) x rest) e f)
    where
      late : (b : Bool) (x : A) (mid : List ℕ) → part_at end one bs ≡ Ok (x, mid) → is_last key xs x ≡ b
          → ordered (end - length bs) b x mid ≡ Err e → Unfit xs bs e
      late true x mid r l y = absurd (cc)
      late false x mid r l y = inr (cc, (x, mid, r, l))

      by : (part_at end one bs ≡ Err e) ⊎ ((x : A) × (mid : List ℕ) × (part_at end one bs ≡ Ok (x, mid))
          × (ordered (end - length bs) (is_last key xs x) x mid ≡ Err e)) → Unfit xs bs e
      by (inl g) = let h = placed_err (end - length bs) (one bs) e n g in inl (h.0, none_in_front bs h.1.0 h.1.1)
      by (inr h) = late (is_last key xs h.0) h.0 h.1 h.2 refl h.3

  -- what was read of some things, and what isn't
  record SomeStop (n : ℕ) (xs : List A) (bs : List ℕ) (e : ManifestFault) : Type 0 where
    more : List A
    rest : List ℕ
    fewer : length more < n
    parts : bs ≡ flat_map bytes more ++ rest
    fit : All Fits (xs ++ more)
    rising : Rising key (xs ++ more)
    fits : IsBytes rest
    fails : next_at end key one (xs ++ more) rest ≡ Err e

  some_stop : (n : ℕ) (xs : List A) (bs : List ℕ) (e : ManifestFault) → IsBytes bs → All Fits xs → Rising key xs
      → some_at (next_at end key one) n xs bs ≡ Err e → SomeStop n xs bs e
  some_stop zero xs bs e fits fit up f = absurd (cc)
  some_stop (suc n) xs bs e fits fit up f =
      by (then_err (next_at end key one xs bs) (λ x after. some_at (next_at end key one) n (xs ++ x ∷ []) after) e f)
      (λ x mid g q.
      let t = next_taken key c end xs bs x mid fits g in
      some_stop n (xs ++ x ∷ []) mid e t.0.rest_fits (All-push Fits xs x fit t.1) (rising_push key xs x up t.2) q)
    where
      Next : Type 0
      Next = (x : A) × (mid : List ℕ) × (next_at end key one xs bs ≡ Ok (x, mid)) × (some_at (next_at end key one) n (xs ++ x ∷ []) mid ≡ Err e)

      by : (next_at end key one xs bs ≡ Err e) ⊎ Next
          → ((x : A) (mid : List ℕ) → next_at end key one xs bs ≡ Ok (x, mid) → some_at (next_at end key one) n (xs ++ x ∷ []) mid ≡ Err e
          → SomeStop n (xs ++ x ∷ []) mid e)
          → SomeStop (suc n) xs bs e
      by (inl g) again = record {
        more = [];
        rest = bs;
        fewer = omega arith;
        parts = refl;
        fit = subst (All Fits) (sym (append-nil xs)) fit;
        rising = subst (Rising key) (sym (append-nil xs)) up;
        fits = fits;
        fails = ap (λ (l : List A). next_at end key one l bs) (append-nil xs) ∙ g;
      }
      by (inr h) again =
          let q = again h.0 h.1 h.2 h.3 in
          let t = next_taken key c end xs bs h.0 h.1 fits h.2 in
          let same : (xs ++ h.0 ∷ []) ++ q.more ≡ xs ++ h.0 ∷ q.more = append_assoc xs (h.0 ∷ []) q.more in
          record {
            more = h.0 ∷ q.more;
            rest = q.rest;
            fewer = omega (arith, q.fewer);
            parts = t.0.parts ∙ ap (λ (l : List ℕ). bytes h.0 ++ l) q.parts ∙ sym (append_assoc (bytes h.0) (flat_map bytes q.more) q.rest);
            fit = subst (All Fits) same q.fit;
            rising = subst (Rising key) same q.rising;
            fits = q.fits;
            fails = ap (λ (l : List A). next_at end key one l q.rest) (sym same) ∙ q.fails;
          }

  module _ {count : List ℕ → Part ℕ} {number : ℕ → List ℕ} {Few : ℕ → Type 0} (k : Codec count number Few) (size : ℕ)
      (sized : (n : ℕ) → length (number n) ≡ size) (short : (bs : List ℕ) (d : RecordFault) → count bs ≡ Err d → length bs < size)
      (Good : List A → Type 0) (good_of : (xs : List A) → All Fits xs → Rising key xs → Good xs) (rising_of : (xs : List A) → Good xs → Rising key xs) where
    -- what a list has that isn't read
    abbrev pub ListFault : ℕ → List ℕ → ManifestFault → Type 0
    ListFault at bs e =
        ((j : ℕ) × (e ≡ BadEntry (at + j)) × Unreadable size number Few bytes Fits Good bs j)
        ⊎ ((j : ℕ) × (e ≡ Order (at + j)) × Misplaced size number Few bytes Fits Good bs j)

    -- the offset of what isn't read
    pub stop_place : (n : ℕ) (before : List A) (bs rest : List ℕ) → length bs ≤ end → bs ≡ number n ++ (flat_map bytes before ++ rest)
        → end - length rest ≡ (end - length bs) + (size + length (flat_map bytes before))
    stop_place n before bs rest le e =
        omega (arith, le, ap length e, length-append (number n) (flat_map bytes before ++ rest), length-append (flat_map bytes before) rest, sized n)

    pub list_fault : (bs : List ℕ) (e : ManifestFault) → IsBytes bs → length bs ≤ end → Named e → list_at end count key one bs ≡ Err e
        → ListFault (end - length bs) bs e
    list_fault bs e fits le n f =
        by (then_err (part_at end count bs) (λ m rest. some_at (next_at end key one) m [] rest) e f)
      where
        Start : Type 0
        Start = (m : ℕ) × (mid : List ℕ) × (part_at end count bs ≡ Ok (m, mid)) × (some_at (next_at end key one) m [] mid ≡ Err e)

        by : (part_at end count bs ≡ Err e) ⊎ Start → ListFault (end - length bs) bs e
        by (inl g) =
            let h = placed_err (end - length bs) (count bs) e n g in
            let same : end - length bs ≡ (end - length bs) + 0 = omega arith in
            inl (0, h.0 ∙ ap (λ (m : ℕ). BadEntry m) same, inl (short bs h.1.0 h.1.1, refl))
        by (inr h) =
            let t = k.taken bs h.0 h.1 fits (placed_ok (end - length bs) (count bs) h.0 h.1 h.2) in
            let s = some_stop h.0 [] h.1 e t.0.rest_fits (All-nil Fits) (λ i j d lt inside. absurd (omega (arith, inside))) h.3 in
            let parts : bs ≡ number h.0 ++ (flat_map bytes s.more ++ s.rest) = t.0.parts ∙ ap (λ (l : List ℕ). number h.0 ++ l) s.parts in
            let place = stop_place h.0 s.more bs s.rest le parts in
            let at = size + length (flat_map bytes s.more) in
            let good : Good s.more = good_of s.more s.fit s.rising in
            elim (next_fails s.more s.rest e n s.fails) [
              | inl u ↦ inl (
                at,
                u.0 ∙ ap (λ (m : ℕ). BadEntry m) place,
                inr (s.more, s.rest, record { count = h.0; few = t.1; more = s.fewer; parts = parts; good = good }, u.1, refl),
              )
              | inr u ↦
                  let x = c.taken s.rest u.1.0 u.1.1 s.fits (placed_ok (end - length s.rest) (one s.rest) u.1.0 u.1.1 u.1.2) in
                  inr (
                    at,
                    u.0 ∙ ap (λ (m : ℕ). Order m) place,
                    (
                      s.more,
                      u.1.0,
                      u.1.1,
                      record {
                        count = h.0;
                        few = t.1;
                        more = s.fewer;
                        parts = parts ∙ ap (λ (l : List ℕ). number h.0 ++ (flat_map bytes s.more ++ l)) x.0.parts;
                        good = good;
                      },
                      x.1,
                      λ together. not_rising key s.more u.1.0 u.1.3 (rising_of (s.more ++ u.1.0 ∷ []) together),
                      refl,
                    ),
                  )
            ]
