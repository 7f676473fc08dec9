-- The fault that is answered is one that the bytes have.
use Rattle.std.proofs.Common.{◌≡◌, ◌≢◌, ℕ, ◌+◌, ◌-◌, ◌<◌, ◌≤◌, Bool, true, false, cond, List, [], ◌∷◌, length, take, drop}
use Rattle.std.proofs.Common.{Result, Ok, Err, refl, sym, ap, subst, ◌∙◌, arith, inl, inr, Vec, Global}
use Rattle.std.specs.Prelude.{nat_lt, slice_index, ◌==◌, ◌⊎◌}
use Rattle.std.specs.List.{flat_map}
use Rattle.std.specs.Str.{bytes_eq}
use Rattle.std.proofs.lemmas.Slice.Eq.{bytes_eq-Decides}
use Rattle.std.proofs.lemmas.Bool.{ltb-true, ltb-false, eqb-true, eqb-false}
use Rattle.std.proofs.lemmas.List.{length-append}
use Rattle.sha2.specs.Sha256.{sha256}
use Rattle.pie_value.proofs.Taking.{IsBytes}
use Rattle.pie_store.specs.declared.offers.Offer.{Offer}
use Rattle.pie_store.specs.inner.Offers.{Offered}
use Rattle.pie_cache.specs.declared.cache_fault.CacheFault.{CacheFault}
use Rattle.pie_cache.specs.declared.cache_fault.CacheFault.TheVariants.{Short, Magic, Version, Digest, Count, Entry, Rest, OutOfMemory}
use Rattle.pie_cache.specs.inner.Texts.{magic, enc_entry, IsCount}
use Rattle.pie_cache.specs.inner.Agreement.{AgreesWhole}
use Rattle.pie_cache.specs.inner.Faults.{FaultInside, HasFault, TellsFault}
use Rattle.pie_cache.specs.inner.Faults.{other_count, entry_unread, left_over}
use Rattle.pie_cache.specs.inner.Faults.{too_short, other_magic, other_version, other_digest, fault_inside}
use Rattle.pie_cache.specs.inner.Frame.{framed, sealed}
use Rattle.pie_cache.specs.inner.Reading.{Parsed, some_at, closed, then_closed, is_count, counted_says, on_body, cache_says}
use Rattle.pie_cache.proofs.Lists.{some_taken, some_stop}
use Rattle.pie_cache.proofs.Steps.{Named}
use Rattle.pie_cache.proofs.Wholes.{count_is, count_on, frame_ok, framed_by, inside_bytes, says_inside}

-- ---- what stands behind the version

closed_err : (entries : List Offered) (rest : List ℕ) (e : CacheFault) → closed entries rest ≡ Err e → (e ≡ Rest) × (0 < length rest)
closed_err entries [] e f = absurd (cc)
closed_err entries (b ∷ rest) e f = (cc, omega arith)

-- reading fails, or something is left
then_closed_err : (p : Parsed (List Offered)) (e : CacheFault) → then_closed p ≡ Err e
    → (p ≡ Err e) ⊎ ((entries : List Offered) × (rest : List ℕ) × (p ≡ Ok (entries, rest)) × (e ≡ Rest) × (0 < length rest))
then_closed_err (Ok q) e f = let c = closed_err q.0 q.1 e f in inr (q.0, q.1, refl, c.0, c.1)
then_closed_err (Err d) e f = inl (cc)

entries_fault : (n : ℕ) (inside : List ℕ) (e : CacheFault) → IsBytes inside → Named e → IsCount n
    → then_closed (some_at (6 + length inside) n [] inside) ≡ Err e → FaultInside n inside e
entries_fault n inside e fits named count f = elim (then_closed_err (some_at (6 + length inside) n [] inside) e f) [
  | inl g ↦
      let s = some_stop (6 + length inside) n [] inside e fits named g in
      let at : 6 + length inside - length s.rest ≡ 6 + length (flat_map enc_entry s.more) =
      omega (arith, ap length s.parts, length-append (flat_map enc_entry s.more) s.rest) in
      subst (FaultInside n inside) (sym (s.is ∙ ap (λ (k : ℕ). Entry k) at)) (entry_unread s.more s.rest count s.fewer s.fit s.parts s.none)
  | inr g ↦
      let q = some_taken (6 + length inside) n [] inside g.0 g.1 fits g.2 in
      subst (FaultInside n inside) (sym g.3) (left_over q.more g.1 count q.count q.fit q.takes.parts g.4)
]

inside_fault : (n : ℕ) (inside : List ℕ) (e : CacheFault) → IsBytes inside → Named e → counted_says (6 + length inside) n inside ≡ Err e
    → FaultInside n inside e
inside_fault n inside e fits named f = by (is_count n) refl f
  where
    by : (b : Bool) → is_count n ≡ b → cond b (then_closed (some_at (6 + length inside) n [] inside)) (Err Count) ≡ Err e → FaultInside n inside e
    by true t g = entries_fault n inside e fits named (count_is n t) g
    by false t g =
        let is : Count ≡ e = cc in
        subst (FaultInside n inside) is (other_count (λ few. absurd (cc (t, count_on n few))))

-- ---- the frame

sealed_err : (bs : List ℕ) (e : CacheFault) → sealed bs ≡ Err e → (e ≡ Digest) × (sha256 (take (length bs - 32) bs) ≢ drop (length bs - 32) bs)
sealed_err bs e f = by (bytes_eq (sha256 (take (length bs - 32) bs)) (drop (length bs - 32) bs)) refl f
  where
    by : (b : Bool) → bytes_eq (sha256 (take (length bs - 32) bs)) (drop (length bs - 32) bs) ≡ b
        → cond b (Ok (take (length bs - 32) bs)) (Err Digest) ≡ Err e
        → (e ≡ Digest) × (sha256 (take (length bs - 32) bs) ≢ drop (length bs - 32) bs)
    by true y g = absurd (cc)
    by false y g = (cc, λ same. absurd (cc (y, (bytes_eq-Decides (sha256 (take (length bs - 32) bs)) (drop (length bs - 32) bs)).1 same)))

frame_fault : (bs : List ℕ) (e : CacheFault) → framed bs ≡ Err e → HasFault bs e
frame_fault bs e f = length_first (nat_lt (length bs) 38) refl f
  where
    version : 38 ≤ length bs → take 4 bs ≡ magic → (b : Bool) → (slice_index bs 4 == 1) ≡ b → cond b (sealed bs) (Err Version) ≡ Err e → HasFault bs e
    version l m true y g = let d = sealed_err bs e g in subst (HasFault bs) (sym d.0) (other_digest l m (eqb-true (slice_index bs 4) 1 y) d.1)
    version l m false y g = let is : Version ≡ e = cc in subst (HasFault bs) is (other_version l m (eqb-false (slice_index bs 4) 1 y))

    magic_next : 38 ≤ length bs → (b : Bool) → bytes_eq (take 4 bs) magic ≡ b
        → cond b (cond (slice_index bs 4 == 1) (sealed bs) (Err Version)) (Err Magic) ≡ Err e → HasFault bs e
    magic_next l true y g = version l ((bytes_eq-Decides (take 4 bs) magic).0 y) (slice_index bs 4 == 1) refl g
    magic_next l false y g =
        let is : Magic ≡ e = cc in
        subst (HasFault bs) is (other_magic l (λ same. absurd (cc (y, (bytes_eq-Decides (take 4 bs) magic).1 same))))

    length_first : (b : Bool) → nat_lt (length bs) 38 ≡ b
        → cond b (Err Short) (cond (bytes_eq (take 4 bs) magic) (cond (slice_index bs 4 == 1) (sealed bs) (Err Version)) (Err Magic)) ≡ Err e → HasFault bs e
    length_first true y g = let is : Short ≡ e = cc in subst (HasFault bs) is (too_short (ltb-true (length bs) 38 y))
    length_first false y g = magic_next (ltb-false (length bs) 38 y) (bytes_eq (take 4 bs) magic) refl g

-- ---- the whole

cache_fault : (bs : List ℕ) (e : CacheFault) → IsBytes bs → Named e → cache_says bs ≡ Err e → HasFault bs e
cache_fault bs e fits n f = by (framed bs) refl f
  where
    by : (r : Result (List ℕ) CacheFault) → framed bs ≡ r → on_body r ≡ Err e → HasFault bs e
    by (Err d) g x = let is : d ≡ e = cc in subst (HasFault bs) is (frame_fault bs d g)
    by (Ok body) g x =
        let h = frame_ok bs body g in
        let parts = framed_by bs body h in
        fault_inside h.number h.inside e parts
        (inside_fault h.number h.inside e (inside_bytes bs h.number h.inside fits parts) n (sym (says_inside bs h.number h.inside parts) ∙ f))

pub tells_fault : (r : Result (Vec Offer Global) CacheFault) (bs : List ℕ) → IsBytes bs → AgreesWhole r (cache_says bs) → TellsFault r bs
tells_fault (Ok es) bs fits h = tt
tells_fault (Err OutOfMemory) bs fits h = tt
tells_fault (Err Short) bs fits h = cache_fault bs Short fits (λ x. absurd (cc (x))) h
tells_fault (Err Magic) bs fits h = cache_fault bs Magic fits (λ x. absurd (cc (x))) h
tells_fault (Err Version) bs fits h = cache_fault bs Version fits (λ x. absurd (cc (x))) h
tells_fault (Err Digest) bs fits h = cache_fault bs Digest fits (λ x. absurd (cc (x))) h
tells_fault (Err Count) bs fits h = cache_fault bs Count fits (λ x. absurd (cc (x))) h
tells_fault (Err (Entry at)) bs fits h = cache_fault bs (Entry at) fits (λ x. absurd (cc (x))) h
tells_fault (Err Rest) bs fits h = cache_fault bs Rest fits (λ x. absurd (cc (x))) h
