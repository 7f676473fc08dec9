-- Bytes that have a fault are refused with it.
use Rattle.std.proofs.Common.{◌≡◌, ◌≢◌, ℕ, suc, ◌+◌, ◌-◌, ◌<◌, ◌≤◌, Bool, true, false, cond, List, [], ◌∷◌, ◌++◌, length, take, drop}
use Rattle.std.proofs.Common.{Result, Ok, Err, refl, sym, ap, subst, ◌∙◌, arith, inl, inr, Vec, Global}
use Rattle.std.specs.Prelude.{All, slice_index, ◌==◌, ◌⊎◌}
use Rattle.std.specs.List.{flat_map}
use Rattle.std.specs.Str.{bytes_eq}
use Rattle.std.proofs.lemmas.Slice.Eq.{bytes_eq-Decides}
use Rattle.std.proofs.lemmas.Bool.{lt-ltb, le-ltb, eqb-true, eq-eqb}
use Rattle.std.proofs.lemmas.List.{get_or-append-add, length-append}
use Rattle.sha2.specs.Sha256.{sha256}
use Rattle.pie_value.proofs.Taking.{IsBytes}
use Rattle.pie_record.specs.declared.record_fault.RecordFault.{RecordFault}
use Rattle.pie_record.specs.declared.record_fault.RecordFault.TheVariants.{Short as NoMore, BadTag, BadPath, BadValue, OutOfMemory as NoMemory}
use Rattle.pie_record.specs.Reading.{Parsed as Part}
use Rattle.pie_store.specs.declared.offers.Offer.{Offer}
use Rattle.pie_store.specs.inner.Offers.{Offered}
use Rattle.pie_cache.specs.declared.cache_fault.CacheFault.{CacheFault}
use Rattle.pie_cache.specs.declared.cache_fault.CacheFault.TheVariants.{Short, Magic, Version, Digest, Count, Entry, Rest, OutOfMemory}
use Rattle.pie_cache.specs.inner.Texts.{magic, enc_entry, IsCount, IsEntry}
use Rattle.pie_cache.specs.inner.Agreement.{AgreesWhole}
use Rattle.pie_cache.specs.inner.Faults.{NoneInFront, FaultInside, HasFault, RefusesWith}
use Rattle.pie_cache.specs.inner.Faults.{other_count, entry_unread, left_over}
use Rattle.pie_cache.specs.inner.Faults.{too_short, other_magic, other_version, other_digest, fault_inside}
use Rattle.pie_cache.specs.inner.Frame.{framed, sealed}
use Rattle.pie_cache.specs.inner.Reading.{Parsed, then_on, part_fault, placed, part_at, entry_part, some_at, closed, then_closed, is_count, counted_says}
use Rattle.pie_cache.specs.inner.Reading.{on_body, cache_says}
use Rattle.pie_cache.proofs.Lists.{some_more}
use Rattle.pie_cache.proofs.Parts.{entry_codec}
use Rattle.pie_cache.proofs.Wholes.{count_is, count_on, some_zero, inside_bytes, says_inside}

-- it ends in a fault, or out of memory
abbrev Comes : {A : Type 0} → Result A CacheFault → CacheFault → Type 0
Comes {A} r e = (r ≡ Err e) ⊎ (r ≡ Err OutOfMemory)

comes_by : {A : Type 0} (r q : Result A CacheFault) (e : CacheFault) → r ≡ q → Comes q e → Comes r e
comes_by r q e s (inl h) = inl (s ∙ h)
comes_by r q e s (inr h) = inr (s ∙ h)

then_comes : {A B : Type 0} (p : Parsed A) (k : A → List ℕ → Parsed B) (e : CacheFault) → Comes p e → Comes (then_on p k) e
then_comes {A} p k e (inl h) = inl (ap (λ (q : Parsed A). then_on q k) h)
then_comes {A} p k e (inr h) = inr (ap (λ (q : Parsed A). then_on q k) h)

closed_comes : (p : Parsed (List Offered)) (e : CacheFault) → Comes p e → Comes (then_closed p) e
closed_comes p e (inl h) = inl (ap then_closed h)
closed_comes p e (inr h) = inr (ap then_closed h)

fault_comes : (at : ℕ) (d : RecordFault) → Comes {A = Offered × List ℕ} (Err (part_fault at d)) (Entry at)
fault_comes at NoMore = inl refl
fault_comes at BadTag = inl refl
fault_comes at BadPath = inl refl
fault_comes at BadValue = inl refl
fault_comes at NoMemory = inr refl

back_bytes : (xs ys : List ℕ) → IsBytes (xs ++ ys) → IsBytes ys
back_bytes xs ys h i = subst (λ (b : ℕ). b < 256) (get_or-append-add xs ys i 0) (h (length xs + i))

-- where no entry stands in front, none is read
part_comes : (end : ℕ) (bs : List ℕ) → IsBytes bs → NoneInFront bs → Comes (part_at end entry_part bs) (Entry (end - length bs))
part_comes end bs fits none = by (entry_part bs) refl
  where
    by : (p : Part Offered) → entry_part bs ≡ p → Comes (part_at end entry_part bs) (Entry (end - length bs))
    by (Ok q) e = let t = entry_codec.taken bs q.0 q.1 fits e in absurd (none q.0 q.1 t.1 t.0.parts)
    by (Err d) e = comes_by _ _ _ (ap (λ (p : Part Offered). placed (end - length bs) p) e) (fault_comes (end - length bs) d)

-- ---- what stands behind the version

-- a number that may be is followed by entries
counted_on : (end n : ℕ) (inside : List ℕ) → IsCount n → counted_says end n inside ≡ then_closed (some_at end n [] inside)
counted_on end n inside count = ap (λ (b : Bool). cond b (then_closed (some_at end n [] inside)) (Err Count)) (count_on n count)

no_count : (n : ℕ) → ¬ (IsCount n) → is_count n ≡ false
no_count n not_so = by (is_count n) refl
  where
    by : (b : Bool) → is_count n ≡ b → is_count n ≡ false
    by true e = absurd (not_so (count_is n e))
    by false e = e

more_comes : (entries : List Offered) (rest : List ℕ) → 0 < length rest → Comes (closed entries rest) Rest
more_comes entries [] lt = absurd (omega (arith, lt))
more_comes entries (b ∷ rest) lt = inl refl

unread_comes : (n : ℕ) (inside : List ℕ) (before : List Offered) (rest : List ℕ) → IsBytes inside → length before < n → All IsEntry before
    → inside ≡ flat_map enc_entry before ++ rest → NoneInFront rest
    → Comes (some_at (6 + length inside) n [] inside) (Entry (6 + length (flat_map enc_entry before)))
unread_comes n inside before rest fits fewer fit parts none =
    let end = 6 + length inside in
    let m = n - length before - 1 in
    let left : n ≡ length before + suc m = omega (arith, fewer) in
    let at : end - length rest ≡ 6 + length (flat_map enc_entry before) =
    omega (arith, ap length parts, length-append (flat_map enc_entry before) rest) in
    comes_by (some_at end n [] inside) (some_at end (suc m) before rest) (Entry (6 + length (flat_map enc_entry before)))
    (ap (λ (bs : List ℕ). some_at end n [] bs) parts ∙ ap (λ (k : ℕ). some_at end k [] (flat_map enc_entry before ++ rest)) left
    ∙ some_more end before [] (suc m) rest fit)
    (then_comes (part_at end entry_part rest) (λ x after. some_at end m (before ++ x ∷ []) after) (Entry (6 + length (flat_map enc_entry before)))
    (subst (λ (k : ℕ). Comes (part_at end entry_part rest) (Entry k)) at
    (part_comes end rest (back_bytes (flat_map enc_entry before) rest (subst IsBytes parts fits)) none)))

inside_comes : (n : ℕ) (inside : List ℕ) {e : CacheFault} → IsBytes inside → FaultInside n inside e → Comes (counted_says (6 + length inside) n inside) e
inside_comes n inside fits (other_count h) =
    inl (ap (λ (b : Bool). cond b (then_closed (some_at (6 + length inside) n [] inside)) (Err Count)) (no_count n h))
inside_comes n inside fits (entry_unread before rest count fewer fit parts none) =
    comes_by _ _ _ (counted_on (6 + length inside) n inside count)
    (closed_comes (some_at (6 + length inside) n [] inside) _ (unread_comes n inside before rest fits fewer fit parts none))
inside_comes n inside fits (left_over entries rest count number fit parts lt) =
    comes_by _ (closed entries rest) _
    (counted_on (6 + length inside) n inside count
    ∙ ap (λ (bs : List ℕ). then_closed (some_at (6 + length inside) n [] bs)) parts
    ∙ ap (λ (k : ℕ). then_closed (some_at (6 + length inside) k [] (flat_map enc_entry entries ++ rest))) (sym number)
    ∙ ap then_closed (some_zero entries (6 + length inside) rest fit))
    (more_comes entries rest lt)

-- ---- the frame, and the whole

unlike : (xs ys : List ℕ) → xs ≢ ys → bytes_eq xs ys ≡ false
unlike xs ys n = by (bytes_eq xs ys) refl
  where
    by : (b : Bool) → bytes_eq xs ys ≡ b → b ≡ false
    by true e = absurd (n ((bytes_eq-Decides xs ys).0 e))
    by false e = refl

other : (n m : ℕ) → n ≢ m → (n == m) ≡ false
other n m d = by (n == m) refl
  where
    by : (b : Bool) → (n == m) ≡ b → b ≡ false
    by true e = absurd (d (eqb-true n m e))
    by false e = refl

-- bytes that are long enough and begin well
begun : (bs : List ℕ) (r : Result (List ℕ) CacheFault) → 38 ≤ length bs → take 4 bs ≡ magic
    → cond (slice_index bs 4 == 1) (sealed bs) (Err Version) ≡ r → framed bs ≡ r
begun bs r long m e =
    ap (λ (b : Bool). cond b (Err Short) (cond (bytes_eq (take 4 bs) magic) (cond (slice_index bs 4 == 1) (sealed bs) (Err Version)) (Err Magic)))
    (le-ltb (length bs) 38 long)
    ∙ ap (λ (b : Bool). cond b (cond (slice_index bs 4 == 1) (sealed bs) (Err Version)) (Err Magic)) ((bytes_eq-Decides (take 4 bs) magic).1 m) ∙ e

has_comes : (bs : List ℕ) {e : CacheFault} → IsBytes bs → HasFault bs e → Comes (cache_says bs) e
has_comes bs fits (too_short l) =
    inl (ap on_body (ap (λ (b : Bool). cond b (Err Short)
    (cond (bytes_eq (take 4 bs) magic) (cond (slice_index bs 4 == 1) (sealed bs) (Err Version)) (Err Magic))) (lt-ltb (length bs) 38 l)))
has_comes bs fits (other_magic l m) =
    inl (ap on_body
    (ap (λ (b : Bool). cond b (Err Short) (cond (bytes_eq (take 4 bs) magic) (cond (slice_index bs 4 == 1) (sealed bs) (Err Version)) (Err Magic)))
    (le-ltb (length bs) 38 l)
    ∙ ap (λ (b : Bool). cond b (cond (slice_index bs 4 == 1) (sealed bs) (Err Version)) (Err Magic)) (unlike (take 4 bs) magic m)))
has_comes bs fits (other_version l m v) =
    inl (ap on_body (begun bs (Err Version) l m (ap (λ (b : Bool). cond b (sealed bs) (Err Version)) (other (slice_index bs 4) 1 v))))
has_comes bs fits (other_digest l m v d) =
    inl (ap on_body (begun bs (Err Digest) l m
    (ap (λ (b : Bool). cond b (sealed bs) (Err Version)) (eq-eqb (slice_index bs 4) 1 v)
    ∙ ap (λ (b : Bool). cond b (Ok (take (length bs - 32) bs)) (Err Digest)) (unlike (sha256 (take (length bs - 32) bs)) (drop (length bs - 32) bs) d))))
has_comes bs fits (fault_inside n inside e parts x) =
    comes_by (cache_says bs) (counted_says (6 + length inside) n inside) e (says_inside bs n inside parts)
    (inside_comes n inside (inside_bytes bs n inside fits parts) x)

pub refuses_with : (r : Result (Vec Offer Global) CacheFault) (bs : List ℕ) → IsBytes bs → AgreesWhole r (cache_says bs) → (e : CacheFault)
    → HasFault bs e → RefusesWith r e
refuses_with r bs fits h e x = by r h (has_comes bs fits x)
  where
    by : (r : Result (Vec Offer Global) CacheFault) → AgreesWhole r (cache_says bs) → Comes (cache_says bs) e → RefusesWith r e
    by (Ok es) g (inl c) = absurd (cc (g, c))
    by (Ok es) g (inr c) = absurd (cc (g, c))
    by (Err OutOfMemory) g c = tt
    by (Err Short) g (inl c) = cc (g, c)
    by (Err Short) g (inr c) = absurd (cc (g, c))
    by (Err Magic) g (inl c) = cc (g, c)
    by (Err Magic) g (inr c) = absurd (cc (g, c))
    by (Err Version) g (inl c) = cc (g, c)
    by (Err Version) g (inr c) = absurd (cc (g, c))
    by (Err Digest) g (inl c) = cc (g, c)
    by (Err Digest) g (inr c) = absurd (cc (g, c))
    by (Err Count) g (inl c) = cc (g, c)
    by (Err Count) g (inr c) = absurd (cc (g, c))
    by (Err (Entry at)) g (inl c) = cc (g, c)
    by (Err (Entry at)) g (inr c) = absurd (cc (g, c))
    by (Err Rest) g (inl c) = cc (g, c)
    by (Err Rest) g (inr c) = absurd (cc (g, c))
