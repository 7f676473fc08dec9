-- The fault that is answered is one that the bytes have, and bytes with a fault are refused with it.
use Rattle.std.proofs.Common.{◌≡◌, ◌≢◌, ℕ, suc, ◌+◌, ◌-◌, ◌<◌, ◌≤◌, Bool, true, false, cond, List, [], ◌∷◌, ◌++◌, length, take, drop}
use Rattle.std.proofs.Common.{Result, Ok, Err, refl, sym, ap, subst, ◌∙◌, arith, inl, inr}
use Rattle.std.specs.Prelude.{All, nat_le, nat_lt, slice_index, ◌==◌, ◌⊎◌}
use Rattle.std.specs.List.{flat_map}
use Rattle.std.specs.List.Sorted.{IsStrictlySortedBy}
use Rattle.std.specs.Str.{bytes_eq}
use Rattle.std.proofs.lemmas.Slice.Eq.{bytes_eq-Decides}
use Rattle.std.proofs.lemmas.Bool.{leb-false, ltb-true, ltb-false, lt-ltb, le-ltb, eqb-true, eqb-false, eq-eqb}
use Rattle.std.proofs.lemmas.List.{length-append}
use Rattle.sha2.specs.Sha256.{sha256}
use Rattle.sha2.proofs.Facts256.{length-sha256}
use Rattle.pie_value.specs.Canonical.{be32, counted}
use Rattle.pie_value.specs.Reading.{number_of}
use Rattle.pie_value.proofs.Taking.{IsBytes}
use Rattle.pie_record.specs.declared.record_fault.RecordFault.{RecordFault}
use Rattle.pie_record.specs.Canonical.{be64, IsTruePath}
use Rattle.pie_record.specs.Reading.{bytes_at, path_at, number_at, mark_at}
use Rattle.pie_record.proofs.Codecs.{number_codec, mark_codec, bytes_codec, path_codec}
use Rattle.pie_scan.specs.declared.entry.Entry.{Entry}
use Rattle.pie_scan.specs.declared.manifest.Manifest.{Manifest}
use Rattle.pie_scan.specs.declared.manifest_fault.ManifestFault.{ManifestFault}
use Rattle.pie_scan.specs.declared.manifest_fault.ManifestFault.TheVariants.{Short, Magic, Version, Digest, Entry as BadEntry, Order, Rest as More, OutOfMemory}
use Rattle.pie_scan.specs.Entries.{path_cmp}
use Rattle.pie_scan.specs.Texts.{magic}
use Rattle.pie_scan.specs.inner.Agreement.{AgreesWhole}
use Rattle.pie_scan.specs.inner.Faults.{FitsEntry, AreTops, AreEntries, Store, Tops, entries_at, FaultInside, HasFault, TellsFault, RefusesWith}
use Rattle.pie_scan.specs.inner.Faults.{top_unread, top_misplaced, entry_unread, entry_misplaced, left_over}
use Rattle.pie_scan.specs.inner.Faults.{too_short, other_magic, other_version, other_digest, fault_inside}
use Rattle.pie_scan.specs.Frame.{framed, sealed}
use Rattle.pie_scan.specs.Reading.{Parsed, part_at, list_at, path_key, entry_key, entry_part, closed, then_manifest, after_tops, after_store, contents}
use Rattle.pie_scan.specs.Reading.{body_says, on_body, manifest_says}
use Rattle.pie_scan.proofs.Coming.{Comes, comes_by, comes_at, list_unread, list_misplaced, back_bytes}
use Rattle.pie_scan.proofs.Lists.{placed_ok, part_again, list_taken, list_again}
use Rattle.pie_scan.proofs.Pairs.{Rising, rising_sorted, sorted_rising}
use Rattle.pie_scan.proofs.Parts.{entry_codec}
use Rattle.pie_scan.proofs.Stopping.{Named, placed_err, list_fault}
use Rattle.pie_scan.proofs.Wholes.{map_path, frame_ok, frame_again, front_bytes, inside_bytes}

-- ---- tops and entries as lists

tops_good : (xs : List (List ℕ)) → All IsTruePath xs → Rising path_key xs → AreTops xs
tops_good xs fit up = (fit, subst (IsStrictlySortedBy path_cmp) (map_path xs) (rising_sorted path_key xs up))

tops_rising : (xs : List (List ℕ)) → AreTops xs → Rising path_key xs
tops_rising xs h = sorted_rising path_key xs (subst (IsStrictlySortedBy path_cmp) (sym (map_path xs)) h.1)

tops_fit : (xs : List (List ℕ)) → AreTops xs → All IsTruePath xs
tops_fit xs h = h.0

entries_good : (xs : List Entry) → All FitsEntry xs → Rising entry_key xs → AreEntries xs
entries_good xs fit up = (fit, rising_sorted entry_key xs up)

entries_rising : (xs : List Entry) → AreEntries xs → Rising entry_key xs
entries_rising xs h = sorted_rising entry_key xs h.1

entries_fit : (xs : List Entry) → AreEntries xs → All FitsEntry xs
entries_fit xs h = h.0

sized_4 : (n : ℕ) → length (be32 n) ≡ 4
unfolding be32
sized_4 n = refl

sized_8 : (n : ℕ) → length (be64 n) ≡ 8
unfolding be64
sized_8 n = refl

short_4 : (bs : List ℕ) (d : RecordFault) → number_at bs ≡ Err d → length bs < 4
unfolding number_of
short_4 bs d e = by (nat_le 4 (length bs)) refl e
  where
    by : (b : Bool) → nat_le 4 (length bs) ≡ b → number_at bs ≡ Err d → length bs < 4
    by true y f = absurd (cc (y, f))
    by false y f = omega (arith, leb-false 4 (length bs) y)

short_8 : (bs : List ℕ) (d : RecordFault) → mark_at bs ≡ Err d → length bs < 8
unfolding mark_at
short_8 bs d e = by (nat_le 8 (length bs)) refl e
  where
    by : (b : Bool) → nat_le 8 (length bs) ≡ b → mark_at bs ≡ Err d → length bs < 8
    by true y f = absurd (cc (y, f))
    by false y f = omega (arith, leb-false 8 (length bs) y)

short_32 : (bs : List ℕ) (d : RecordFault) → bytes_at 32 bs ≡ Err d → length bs < 32
short_32 bs d e = by (nat_le 32 (length bs)) refl e
  where
    by : (b : Bool) → nat_le 32 (length bs) ≡ b → bytes_at 32 bs ≡ Err d → length bs < 32
    by true y f = absurd (cc (y, f))
    by false y f = omega (arith, leb-false 32 (length bs) y)

-- ---- what stands behind the version: which fault it has

then_manifest_err : {A : Type 0} (p : Parsed A) (k : A → List ℕ → Result Manifest ManifestFault) (e : ManifestFault) → then_manifest p k ≡ Err e
    → (p ≡ Err e) ⊎ ((a : A) × (mid : List ℕ) × (p ≡ Ok (a, mid)) × (k a mid ≡ Err e))
then_manifest_err (Ok q) k e f = inr (q.0, q.1, refl, f)
then_manifest_err (Err d) k e f = inl (cc)

closed_err : (rest : List ℕ) (m : Manifest) (e : ManifestFault) → closed rest m ≡ Err e → (e ≡ More) × (0 < length rest)
closed_err [] m e f = absurd (cc)
closed_err (b ∷ rest) m e f = (cc, omega arith)

module _ (inside : List ℕ) (e : ManifestFault) (fits : IsBytes inside) (n : Named e) where
  end : ℕ
  end = 5 + length inside

  entries_fault : (s : Store inside) (t : Tops s.rest) → IsBytes t.rest → after_tops end s.hash t.tops t.rest ≡ Err e → FaultInside inside e
  unfolding end
  entries_fault s t good f =
      let at : end - length t.rest ≡ entries_at t =
      omega (
        arith,
        ap length s.parts,
        length-append s.hash s.rest,
        s.long,
        ap length t.parts,
        length-append (be32 (length t.tops) ++ flat_map counted t.tops) t.rest,
      ) in
      let le : length t.rest ≤ end =
      omega (
        arith,
        ap length s.parts,
        length-append s.hash s.rest,
        ap length t.parts,
        length-append (be32 (length t.tops) ++ flat_map counted t.tops) t.rest,
      ) in
      elim (then_manifest_err (list_at end mark_at entry_key entry_part t.rest)
      (λ entries rest. closed rest (record { store = s.hash; tops = t.tops; entries = entries })) e f) [
        | inl g ↦ elim (list_fault entry_key entry_codec end mark_codec 8 sized_8 short_8 AreEntries entries_good entries_rising t.rest e good le n g) [
          | inl y ↦ subst (FaultInside inside) (sym (y.1 ∙ ap (λ (m : ℕ). BadEntry (m + y.0)) at)) (entry_unread s t y.0 y.2)
          | inr y ↦ subst (FaultInside inside) (sym (y.1 ∙ ap (λ (m : ℕ). Order (m + y.0)) at)) (entry_misplaced s t y.0 y.2)
        ]
        | inr g ↦
            let q = list_taken entry_key entry_codec end mark_codec t.rest g.0 g.1 good g.2 in
            let c = closed_err g.1 (record { store = s.hash; tops = t.tops; entries = g.0 }) e g.3 in
            subst (FaultInside inside) (sym c.0) (left_over s t
            (record { entries = g.0; rest = g.1; few = q.few; good = entries_good g.0 q.fit q.rising; parts = q.takes.parts }) c.1)
      ]

  tops_fault : (s : Store inside) → IsBytes s.rest → after_store end s.hash s.rest ≡ Err e → FaultInside inside e
  unfolding end
  tops_fault s good f =
      let at : end - length s.rest ≡ 37 = omega (arith, ap length s.parts, length-append s.hash s.rest, s.long) in
      let le : length s.rest ≤ end = omega (arith, ap length s.parts, length-append s.hash s.rest) in
      elim (then_manifest_err (list_at end number_at path_key path_at s.rest) (after_tops end s.hash) e f) [
        | inl g ↦ elim (list_fault path_key path_codec end number_codec 4 sized_4 short_4 AreTops tops_good tops_rising s.rest e good le n g) [
          | inl y ↦ subst (FaultInside inside) (sym (y.1 ∙ ap (λ (m : ℕ). BadEntry (m + y.0)) at)) (top_unread s y.0 y.2)
          | inr y ↦ subst (FaultInside inside) (sym (y.1 ∙ ap (λ (m : ℕ). Order (m + y.0)) at)) (top_misplaced s y.0 y.2)
        ]
        | inr g ↦
            let q = list_taken path_key path_codec end number_codec s.rest g.0 g.1 good g.2 in
            entries_fault s (record { tops = g.0; rest = g.1; few = q.few; good = tops_good g.0 q.fit q.rising; parts = q.takes.parts })
            q.takes.rest_fits g.3
      ]

  contents_fault : 44 ≤ length inside → contents end inside ≡ Err e → FaultInside inside e
  contents_fault long f = elim (then_manifest_err (part_at end (bytes_at 32) inside) (after_store end) e f) [
    | inl g ↦
        let d = placed_err (end - length inside) (bytes_at 32 inside) e n g in
        absurd (omega (arith, short_32 inside d.1.0 d.1.1, long))
    | inr g ↦
        let p = (bytes_codec 32).taken inside g.0 g.1 fits (placed_ok (end - length inside) (bytes_at 32 inside) g.0 g.1 g.2) in
        tops_fault (record { hash = g.0; rest = g.1; long = p.1; parts = p.0.parts }) p.0.rest_fits g.3
  ]

-- ---- what stands behind the version: it is refused with its fault

then_manifest_comes : {A : Type 0} (p : Parsed A) (k : A → List ℕ → Result Manifest ManifestFault) (e : ManifestFault) → Comes p e
    → Comes (then_manifest p k) e
then_manifest_comes {A} p k e (inl h) = inl (ap (λ (q : Parsed A). then_manifest q k) h)
then_manifest_comes {A} p k e (inr h) = inr (ap (λ (q : Parsed A). then_manifest q k) h)

module _ (inside : List ℕ) (fits : IsBytes inside) where
  last : ℕ
  last = 5 + length inside

  store_read : (s : Store inside) → contents last inside ≡ after_store last s.hash s.rest
  store_read s =
      ap (contents last) s.parts
      ∙ ap (λ (p : Parsed (List ℕ)). then_manifest p (after_store last)) (part_again (bytes_codec 32) last s.hash s.rest s.long)

  tops_read : (s : Store inside) (t : Tops s.rest) → after_store last s.hash s.rest ≡ after_tops last s.hash t.tops t.rest
  tops_read s t =
      ap (after_store last s.hash) t.parts
      ∙ ap (λ (p : Parsed (List (List ℕ))). then_manifest p (after_tops last s.hash))
      (list_again path_key path_codec last number_codec t.tops t.rest (tops_fit t.tops t.good) (tops_rising t.tops t.good) t.few)

  store_bytes : (s : Store inside) → IsBytes s.rest
  store_bytes s = back_bytes s.hash s.rest (subst IsBytes s.parts fits)

  tops_bytes : (s : Store inside) (t : Tops s.rest) → IsBytes t.rest
  tops_bytes s t = back_bytes (be32 (length t.tops) ++ flat_map counted t.tops) t.rest (subst IsBytes t.parts (store_bytes s))

  store_place : (s : Store inside) → (last - length s.rest ≡ 37) × (length s.rest ≤ last)
  unfolding last
  store_place s = (
    omega (arith, ap length s.parts, length-append s.hash s.rest, s.long),
    omega (arith, ap length s.parts, length-append s.hash s.rest),
  )

  tops_place : (s : Store inside) (t : Tops s.rest) → (last - length t.rest ≡ entries_at t) × (length t.rest ≤ last)
  unfolding last
  tops_place s t = (
    omega (
      arith,
      ap length s.parts,
      length-append s.hash s.rest,
      s.long,
      ap length t.parts,
      length-append (be32 (length t.tops) ++ flat_map counted t.tops) t.rest,
    ),
    omega (
      arith,
      ap length s.parts,
      length-append s.hash s.rest,
      ap length t.parts,
      length-append (be32 (length t.tops) ++ flat_map counted t.tops) t.rest,
    ),
  )

  in_tops : (s : Store inside) (e d : ManifestFault) → e ≡ d → Comes (list_at last number_at path_key path_at s.rest) e → Comes (contents last inside) d
  in_tops s e d same c =
      comes_at _ e d same (comes_by _ (after_store last s.hash s.rest) e (store_read s)
      (then_manifest_comes (list_at last number_at path_key path_at s.rest) (after_tops last s.hash) e c))

  in_entries : (s : Store inside) (t : Tops s.rest) (e d : ManifestFault) → e ≡ d → Comes (list_at last mark_at entry_key entry_part t.rest) e
      → Comes (contents last inside) d
  in_entries s t e d same c =
      comes_at _ e d same (comes_by _ (after_tops last s.hash t.tops t.rest) e (store_read s ∙ tops_read s t)
      (then_manifest_comes (list_at last mark_at entry_key entry_part t.rest)
      (λ entries rest. closed rest (record { store = s.hash; tops = t.tops; entries = entries })) e c))

  inside_comes : {e : ManifestFault} → FaultInside inside e → Comes (contents last inside) e
  inside_comes (top_unread s k u) =
      let at = store_place s in
      in_tops s (BadEntry ((last - length s.rest) + k)) (BadEntry (37 + k)) (ap (λ (m : ℕ). BadEntry (m + k)) at.0)
      (list_unread path_key path_codec last number_codec 4 sized_4 AreTops tops_good tops_rising tops_fit s.rest k (store_bytes s) at.1 u)
  inside_comes (top_misplaced s k u) =
      let at = store_place s in
      in_tops s (Order ((last - length s.rest) + k)) (Order (37 + k)) (ap (λ (m : ℕ). Order (m + k)) at.0)
      (list_misplaced path_key path_codec last number_codec 4 sized_4 AreTops tops_good tops_rising tops_fit s.rest k at.1 u)
  inside_comes (entry_unread s t k u) =
      let at = tops_place s t in
      in_entries s t (BadEntry ((last - length t.rest) + k)) (BadEntry (entries_at t + k)) (ap (λ (m : ℕ). BadEntry (m + k)) at.0)
      (list_unread entry_key entry_codec last mark_codec 8 sized_8 AreEntries entries_good entries_rising entries_fit t.rest k (tops_bytes s t) at.1 u)
  inside_comes (entry_misplaced s t k u) =
      let at = tops_place s t in
      in_entries s t (Order ((last - length t.rest) + k)) (Order (entries_at t + k)) (ap (λ (m : ℕ). Order (m + k)) at.0)
      (list_misplaced entry_key entry_codec last mark_codec 8 sized_8 AreEntries entries_good entries_rising entries_fit t.rest k at.1 u)
  inside_comes (left_over s t w lt) =
      let m : Manifest = record { store = s.hash; tops = t.tops; entries = w.entries } in
      comes_by _ (closed w.rest m) More
      (store_read s ∙ tops_read s t
      ∙ ap (after_tops last s.hash t.tops) w.parts
      ∙ ap (λ (p : Parsed (List Entry)). then_manifest p (λ entries rest. closed rest (record { store = s.hash; tops = t.tops; entries = entries })))
      (list_again entry_key entry_codec last mark_codec w.entries w.rest (entries_fit w.entries w.good) (entries_rising w.entries w.good) w.few))
      (more_comes w.rest m lt)
    where
      more_comes : (rest : List ℕ) (m : Manifest) → 0 < length rest → Comes (closed rest m) More
      more_comes [] m lt = absurd (omega (arith, lt))
      more_comes (b ∷ rest) m lt = inl refl

-- ---- the frame

sealed_err : (bs : List ℕ) (e : ManifestFault) → sealed bs ≡ Err e → (e ≡ Digest) × (sha256 (take (length bs - 32) bs) ≢ drop (length bs - 32) bs)
sealed_err bs e f = by (bytes_eq (sha256 (take (length bs - 32) bs)) (drop (length bs - 32) bs)) refl f
  where
    by : (b : Bool) → bytes_eq (sha256 (take (length bs - 32) bs)) (drop (length bs - 32) bs) ≡ b
        → cond b (Ok (take (length bs - 32) bs)) (Err Digest) ≡ Err e
        → (e ≡ Digest) × (sha256 (take (length bs - 32) bs) ≢ drop (length bs - 32) bs)
    by true y g = absurd (cc)
    by false y g = (cc, λ same. absurd (cc (y, (bytes_eq-Decides (sha256 (take (length bs - 32) bs)) (drop (length bs - 32) bs)).1 same)))

frame_fault : (bs : List ℕ) (e : ManifestFault) → framed bs ≡ Err e → HasFault bs e
frame_fault bs e f = length_first (nat_lt (length bs) 81) refl f
  where
    version : 81 ≤ length bs → take 4 bs ≡ magic → (b : Bool) → (slice_index bs 4 == 1) ≡ b → cond b (sealed bs) (Err Version) ≡ Err e → HasFault bs e
    version l m true y g = let d = sealed_err bs e g in subst (HasFault bs) (sym d.0) (other_digest l m (eqb-true (slice_index bs 4) 1 y) d.1)
    version l m false y g = let is : Version ≡ e = cc in subst (HasFault bs) is (other_version l m (eqb-false (slice_index bs 4) 1 y))

    magic_next : 81 ≤ length bs → (b : Bool) → bytes_eq (take 4 bs) magic ≡ b
        → cond b (cond (slice_index bs 4 == 1) (sealed bs) (Err Version)) (Err Magic) ≡ Err e → HasFault bs e
    magic_next l true y g = version l ((bytes_eq-Decides (take 4 bs) magic).0 y) (slice_index bs 4 == 1) refl g
    magic_next l false y g =
        let is : Magic ≡ e = cc in
        subst (HasFault bs) is (other_magic l (λ same. absurd (cc (y, (bytes_eq-Decides (take 4 bs) magic).1 same))))

    length_first : (b : Bool) → nat_lt (length bs) 81 ≡ b
        → cond b (Err Short) (cond (bytes_eq (take 4 bs) magic) (cond (slice_index bs 4 == 1) (sealed bs) (Err Version)) (Err Magic)) ≡ Err e → HasFault bs e
    length_first true y g = let is : Short ≡ e = cc in subst (HasFault bs) is (too_short (ltb-true (length bs) 81 y))
    length_first false y g = magic_next (ltb-false (length bs) 81 y) (bytes_eq (take 4 bs) magic) refl g

-- ---- the whole

body_is : (inside : List ℕ) → body_says (magic ++ (1 ∷ inside)) ≡ contents (5 + length inside) inside
body_is inside =
    let same : length (magic ++ (1 ∷ inside)) ≡ 5 + length inside = omega arith in
    ap (λ (n : ℕ). contents n inside) same

manifest_fault : (bs : List ℕ) (e : ManifestFault) → IsBytes bs → Named e → manifest_says bs ≡ Err e → HasFault bs e
unfolding end
manifest_fault bs e fits n f = by (framed bs) refl f
  where
    by : (r : Result (List ℕ) ManifestFault) → framed bs ≡ r → on_body r ≡ Err e → HasFault bs e
    by (Err d) g x = let is : d ≡ e = cc in subst (HasFault bs) is (frame_fault bs d g)
    by (Ok body) g x =
        let h = frame_ok bs body g in
        let parts : bs ≡ (magic ++ (1 ∷ h.inside)) ++ sha256 (magic ++ (1 ∷ h.inside)) = h.bytes ∙ ap (λ (l : List ℕ). l ++ sha256 l) h.body_is in
        let long : 44 ≤ length h.inside =
        omega (arith, h.long, ap length h.bytes, length-append body (sha256 body), length-sha256 body, ap length h.body_is) in
        fault_inside h.inside e h.long parts
        (contents_fault h.inside e (inside_bytes bs body fits h) n long (sym (body_is h.inside) ∙ sym (ap body_says h.body_is) ∙ x))

pub tells_fault : (r : Result Manifest ManifestFault) (bs : List ℕ) → IsBytes bs → AgreesWhole r (manifest_says bs) → TellsFault r bs
tells_fault (Ok m) bs fits h = tt
tells_fault (Err OutOfMemory) bs fits h = tt
tells_fault (Err Short) bs fits h = manifest_fault bs Short fits (λ x. absurd (cc (x))) h
tells_fault (Err Magic) bs fits h = manifest_fault bs Magic fits (λ x. absurd (cc (x))) h
tells_fault (Err Version) bs fits h = manifest_fault bs Version fits (λ x. absurd (cc (x))) h
tells_fault (Err Digest) bs fits h = manifest_fault bs Digest fits (λ x. absurd (cc (x))) h
tells_fault (Err (BadEntry at)) bs fits h = manifest_fault bs (BadEntry at) fits (λ x. absurd (cc (x))) h
tells_fault (Err (Order at)) bs fits h = manifest_fault bs (Order at) fits (λ x. absurd (cc (x))) h
tells_fault (Err More) bs fits h = manifest_fault bs More fits (λ x. absurd (cc (x))) h

unlike : (xs ys : List ℕ) → xs ≢ ys → bytes_eq xs ys ≡ false
unlike xs ys n = by (bytes_eq xs ys) refl
  where
    by : (b : Bool) → bytes_eq xs ys ≡ b → b ≡ false
    by true e = absurd (n ((bytes_eq-Decides xs ys).0 e))
    by false e = refl

other : (n m : ℕ) → n ≢ m → (n == m) ≡ false
other n m d = by (n == m) refl
  where
    by : (b : Bool) → (n == m) ≡ b → b ≡ false
    by true e = absurd (d (eqb-true n m e))
    by false e = refl

-- bytes that are long enough and begin well
begun : (bs : List ℕ) (r : Result (List ℕ) ManifestFault) → 81 ≤ length bs → take 4 bs ≡ magic
    → cond (slice_index bs 4 == 1) (sealed bs) (Err Version) ≡ r → framed bs ≡ r
begun bs r long m e =
    ap (λ (b : Bool). cond b (Err Short) (cond (bytes_eq (take 4 bs) magic) (cond (slice_index bs 4 == 1) (sealed bs) (Err Version)) (Err Magic)))
    (le-ltb (length bs) 81 long)
    ∙ ap (λ (b : Bool). cond b (cond (slice_index bs 4 == 1) (sealed bs) (Err Version)) (Err Magic)) ((bytes_eq-Decides (take 4 bs) magic).1 m) ∙ e

has_comes : (bs : List ℕ) {e : ManifestFault} → IsBytes bs → HasFault bs e → Comes (manifest_says bs) e
unfolding last
has_comes bs fits (too_short l) =
    inl (ap on_body (ap (λ (b : Bool). cond b (Err Short)
    (cond (bytes_eq (take 4 bs) magic) (cond (slice_index bs 4 == 1) (sealed bs) (Err Version)) (Err Magic))) (lt-ltb (length bs) 81 l)))
has_comes bs fits (other_magic l m) =
    inl (ap on_body
    (ap (λ (b : Bool). cond b (Err Short) (cond (bytes_eq (take 4 bs) magic) (cond (slice_index bs 4 == 1) (sealed bs) (Err Version)) (Err Magic)))
    (le-ltb (length bs) 81 l)
    ∙ ap (λ (b : Bool). cond b (cond (slice_index bs 4 == 1) (sealed bs) (Err Version)) (Err Magic)) (unlike (take 4 bs) magic m)))
has_comes bs fits (other_version l m v) =
    inl (ap on_body (begun bs (Err Version) l m (ap (λ (b : Bool). cond b (sealed bs) (Err Version)) (other (slice_index bs 4) 1 v))))
has_comes bs fits (other_digest l m v d) =
    inl (ap on_body (begun bs (Err Digest) l m
    (ap (λ (b : Bool). cond b (sealed bs) (Err Version)) (eq-eqb (slice_index bs 4) 1 v)
    ∙ ap (λ (b : Bool). cond b (Ok (take (length bs - 32) bs)) (Err Digest)) (unlike (sha256 (take (length bs - 32) bs)) (drop (length bs - 32) bs) d))))
has_comes bs fits (fault_inside inside e l parts x) =
    let body = magic ++ (1 ∷ inside) in
    let long : 44 ≤ length inside = omega (arith, l, ap length parts, length-append body (sha256 body), length-sha256 body) in
    let good : IsBytes inside = λ i. front_bytes body (sha256 body) (subst IsBytes parts fits) (suc (suc (suc (suc (suc i))))) in
    comes_by (manifest_says bs) (contents (5 + length inside) inside) e (ap on_body (ap framed parts ∙ frame_again inside long) ∙ body_is inside)
    (inside_comes inside good x)

pub refuses_with : (r : Result Manifest ManifestFault) (bs : List ℕ) → IsBytes bs → AgreesWhole r (manifest_says bs) → (e : ManifestFault) → HasFault bs e
    → RefusesWith r e
refuses_with r bs fits h e x = by r h (has_comes bs fits x)
  where
    by : (r : Result Manifest ManifestFault) → AgreesWhole r (manifest_says bs) → Comes (manifest_says bs) e → RefusesWith r e
    by (Ok m) g (inl c) = absurd (cc (g, c))
    by (Ok m) g (inr c) = absurd (cc (g, c))
    by (Err OutOfMemory) g c = tt
    by (Err Short) g (inl c) = cc (g, c)
    by (Err Short) g (inr c) = absurd (cc (g, c))
    by (Err Magic) g (inl c) = cc (g, c)
    by (Err Magic) g (inr c) = absurd (cc (g, c))
    by (Err Version) g (inl c) = cc (g, c)
    by (Err Version) g (inr c) = absurd (cc (g, c))
    by (Err Digest) g (inl c) = cc (g, c)
    by (Err Digest) g (inr c) = absurd (cc (g, c))
    by (Err (BadEntry at)) g (inl c) = cc (g, c)
    by (Err (BadEntry at)) g (inr c) = absurd (cc (g, c))
    by (Err (Order at)) g (inl c) = cc (g, c)
    by (Err (Order at)) g (inr c) = absurd (cc (g, c))
    by (Err More) g (inl c) = cc (g, c)
    by (Err More) g (inr c) = absurd (cc (g, c))
