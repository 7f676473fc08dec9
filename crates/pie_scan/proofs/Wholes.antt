-- A manifest as a whole: what is read is what these bytes are the text of, and its text is read again.
use Rattle.std.proofs.Common.{◌≡◌, ℕ, suc, ◌+◌, ◌-◌, ◌^◌, ◌<◌, ◌≤◌, Bool, true, false, cond, List, [], ◌∷◌, ◌++◌, length, take, drop}
use Rattle.std.proofs.Common.{Result, Ok, Err, IfOk, refl, sym, ap, subst, ◌∙◌, append-nil, arith, inl, inr}
use Rattle.std.specs.Prelude.{All, ◌==◌, ◌⊎◌, map, nat_lt, slice_index}
use Rattle.std.specs.List.{flat_map}
use Rattle.std.specs.Str.{bytes_eq}
use Rattle.std.proofs.lemmas.Slice.Eq.{bytes_eq-Decides}
use Rattle.std.proofs.lemmas.Bool.{ltb-false, le-ltb, eqb-true, cases_lt}
use Rattle.std.proofs.lemmas.List.{take-append-drop, take_at, drop_at, drop_more, length-append, get_or_append_left, get_or_past}
use Rattle.std.specs.List.Sorted.{IsStrictlySortedBy}
use Rattle.sha2.specs.Sha256.{sha256}
use Rattle.sha2.proofs.Facts256.{length-sha256}
use Rattle.pie_value.specs.Canonical.{be32, counted}
use Rattle.pie_value.proofs.Taking.{IsBytes}
use Rattle.pie_record.specs.Canonical.{be64, listed, IsTruePath}
use Rattle.pie_record.specs.Reading.{bytes_at, path_at, number_at, mark_at}
use Rattle.pie_record.proofs.Codecs.{number_codec, mark_codec, bytes_codec, path_codec}
use Rattle.pie_scan.specs.declared.entry.Entry.{Entry}
use Rattle.pie_scan.specs.declared.manifest.Manifest.{Manifest}
use Rattle.pie_scan.specs.declared.manifest_fault.ManifestFault.{ManifestFault}
use Rattle.pie_scan.specs.declared.manifest_fault.ManifestFault.TheVariants.{Short, Magic, Version, Digest, Entry as BadEntry, Order, Rest as More, OutOfMemory}
use Rattle.pie_scan.specs.Entries.{path_cmp}
use Rattle.pie_scan.specs.Texts.{magic, enc_entry, enc_entries, enc_body, IsWritable, IsTrueEntry, IsManifest, IsManifestText}
use Rattle.pie_scan.specs.inner.Agreement.{AgreesWhole, Refuses}
use Rattle.pie_scan.specs.Frame.{framed, sealed}
use Rattle.pie_scan.specs.Reading.{Parsed, part_at, list_at, path_key, entry_key, entry_part, closed, then_manifest, after_tops, after_store, contents}
use Rattle.pie_scan.specs.Reading.{body_says, on_body, manifest_says}
use Rattle.pie_scan.proofs.Lists.{placed_ok, part_again, list_taken, list_again}
use Rattle.pie_scan.proofs.Pairs.{rising_sorted, sorted_rising}
use Rattle.pie_scan.proofs.Parts.{entry_codec}

-- ---- what stands after the version

pub then_manifest_ok : {A : Type 0} (p : Parsed A) (k : A → List ℕ → Result Manifest ManifestFault) (m : Manifest) → then_manifest p k ≡ Ok m
    → (a : A) × (mid : List ℕ) × (p ≡ Ok (a, mid)) × (k a mid ≡ Ok m)
then_manifest_ok (Ok q) k m e = (q.0, q.1, refl, e)
then_manifest_ok (Err d) k m e = absurd (cc)

closed_ok : (rest : List ℕ) (m n : Manifest) → closed rest m ≡ Ok n → (rest ≡ []) × (m ≡ n)
closed_ok [] m n e = (refl, cc)
closed_ok (b ∷ rest) m n e = absurd (cc)

-- paths and entries in order
pub map_path : (tops : List (List ℕ)) → map path_key tops ≡ tops
map_path [] = refl
map_path (t ∷ tops) = ap (λ (l : List (List ℕ)). t ∷ l) (map_path tops)

-- what stands after the version says a manifest, and is its bytes
record IsContents (bs : List ℕ) (m : Manifest) : Type 0 where
  manifest : IsManifest m
  bytes : bs ≡ m.store ++ (listed counted m.tops ++ enc_entries m.entries)

contents_taken : (end : ℕ) (bs : List ℕ) (m : Manifest) → IsBytes bs → contents end bs ≡ Ok m → IsContents bs m
contents_taken end bs m fits e =
    let h = then_manifest_ok (part_at end (bytes_at 32) bs) (after_store end) m e in
    let p = (bytes_codec 32).taken bs h.0 h.1 fits (placed_ok (end - length bs) (bytes_at 32 bs) h.0 h.1 h.2) in
    let i = then_manifest_ok (list_at end number_at path_key path_at h.1) (after_tops end h.0) m h.3 in
    let q = list_taken path_key path_codec end number_codec h.1 i.0 i.1 p.0.rest_fits i.2 in
    let j = then_manifest_ok (list_at end mark_at entry_key entry_part i.1)
    (λ entries rest. closed rest (record { store = h.0; tops = i.0; entries = entries })) m i.3 in
    let r = list_taken entry_key entry_codec end mark_codec i.1 j.0 j.1 q.takes.rest_fits j.2 in
    let c = closed_ok j.1 (record { store = h.0; tops = i.0; entries = j.0 }) m j.3 in
    subst (IsContents bs) c.1 (record {
      manifest = record {
        writable = record {
          few = q.few;
          tops = subst (IsStrictlySortedBy path_cmp) (map_path i.0) (rising_sorted path_key i.0 q.rising);
          entries = rising_sorted entry_key j.0 r.rising;
          marks = λ k d lt. (r.fit k d lt).1;
        };
        store = p.1;
        tops = q.fit;
        few = r.few;
        entries = λ k d lt. (r.fit k d lt).0;
      };
      bytes =
          p.0.parts ∙ ap (λ (l : List ℕ). h.0 ++ l) (q.takes.parts ∙ ap (λ (l : List ℕ). listed counted i.0 ++ l)
          (r.takes.parts ∙ ap (λ (l : List ℕ). enc_entries j.0 ++ l) c.0 ∙ append-nil (enc_entries j.0)));
    })

contents_again : (end : ℕ) (m : Manifest) → IsManifest m → contents end (m.store ++ (listed counted m.tops ++ enc_entries m.entries)) ≡ Ok m
contents_again end m h =
    let tail = enc_entries m.entries in
    let last : list_at end mark_at entry_key entry_part tail ≡ Ok (m.entries, []) =
    ap (list_at end mark_at entry_key entry_part) (sym (append-nil tail))
    ∙ list_again entry_key entry_codec end mark_codec m.entries [] (λ k d lt. (h.entries k d lt, h.writable.marks k d lt))
    (sorted_rising entry_key m.entries h.writable.entries) h.few in
    let tops : list_at end number_at path_key path_at (listed counted m.tops ++ tail) ≡ Ok (m.tops, tail) =
    list_again path_key path_codec end number_codec m.tops tail h.tops
    (sorted_rising path_key m.tops
    (subst (IsStrictlySortedBy path_cmp) (sym (map_path m.tops)) h.writable.tops)) h.writable.few in
    ap (λ (p : Parsed (List ℕ)). then_manifest p (after_store end)) (part_again (bytes_codec 32) end m.store (listed counted m.tops ++ tail) h.store)
    ∙ ap (λ (p : Parsed (List (List ℕ))). then_manifest p (after_tops end m.store)) tops
    ∙ ap (λ (p : Parsed (List Entry)). then_manifest p (λ entries rest. closed rest (record { store = m.store; tops = m.tops; entries = entries }))) last

-- ---- the frame

-- what a good frame says of the bytes
pub record IsFrame (bs body : List ℕ) : Type 0 where
  pub inside : List ℕ
  pub body_is : body ≡ magic ++ (1 ∷ inside)
  pub long : 81 ≤ length bs
  pub bytes : bs ≡ body ++ sha256 body

cond_ok : (b : Bool) (r q : Result (List ℕ) ManifestFault) (body : List ℕ) → cond b r q ≡ Ok body → ((b ≡ true) × (r ≡ Ok body))
    ⊎ ((b ≡ false) × (q ≡ Ok body))
cond_ok true r q body e = inl (refl, e)
cond_ok false r q body e = inr (refl, e)

sealed_ok : (bs body : List ℕ) → sealed bs ≡ Ok body → (body ≡ take (length bs - 32) bs) × (bs ≡ body ++ sha256 body)
sealed_ok bs body e = elim (cond_ok (bytes_eq (sha256 (take (length bs - 32) bs)) (drop (length bs - 32) bs)) (Ok (take (length bs - 32) bs))
    (Err Digest) body e) [
      | inl h ↦
          let front = take (length bs - 32) bs in
          let back = drop (length bs - 32) bs in
          let b : front ≡ body = cc (h.1) in
          let d : sha256 front ≡ back = (bytes_eq-Decides (sha256 front) back).0 h.0 in
          (sym b, sym (take-append-drop (length bs - 32) bs) ∙ ap (λ (t : List ℕ). front ++ t) (sym d) ∙ ap (λ (t : List ℕ). t ++ sha256 t) b)
      | inr h ↦ absurd (cc (h.1))
    ]

five : (bs : List ℕ) → 81 ≤ length bs → take 4 bs ≡ magic → bs ≡ magic ++ (slice_index bs 4 ∷ drop 5 bs)
five bs long e =
    sym (take-append-drop 4 bs) ∙ ap (λ (t : List ℕ). t ++ drop 4 bs) e ∙ ap (λ (t : List ℕ). magic ++ t) (drop_more bs 4 0 (omega (arith, long)))

cut : (n v : ℕ) (t : List ℕ) → 5 ≤ n → take n (magic ++ (v ∷ t)) ≡ magic ++ (v ∷ take (n - 5) t)
cut n v t le =
    let e : n ≡ suc (suc (suc (suc (suc (n - 5))))) = omega (arith, le) in
    ap (λ (k : ℕ). take k (magic ++ (v ∷ t))) e

pub frame_ok : (bs body : List ℕ) → framed bs ≡ Ok body → IsFrame bs body
frame_ok bs body e = elim (cond_ok (nat_lt (length bs) 81) (Err Short)
    (cond (bytes_eq (take 4 bs) magic) (cond (slice_index bs 4 == 1) (sealed bs) (Err Version)) (Err Magic)) body e) [
      | inl h ↦ absurd (cc (h.1))
      | inr h ↦ elim (cond_ok (bytes_eq (take 4 bs) magic) (cond (slice_index bs 4 == 1) (sealed bs) (Err Version)) (Err Magic) body h.1) [
        | inl m ↦ elim (cond_ok (slice_index bs 4 == 1) (sealed bs) (Err Version) body m.1) [
          | inl v ↦ made (ltb-false (length bs) 81 h.0) ((bytes_eq-Decides (take 4 bs) magic).0 m.0) (eqb-true (slice_index bs 4) 1 v.0) v.1
          | inr v ↦ absurd (cc (v.1))
        ]
        | inr m ↦ absurd (cc (m.1))
      ]
    ]
  where
    made : 81 ≤ length bs → take 4 bs ≡ magic → slice_index bs 4 ≡ 1 → sealed bs ≡ Ok body → IsFrame bs body
    made n m v s =
        let k = sealed_ok bs body s in
        record {
          inside = take (length bs - 32 - 5) (drop 5 bs);
          body_is =
              k.0 ∙ ap (λ (t : List ℕ). take (length bs - 32) t) (five bs n m) ∙ cut (length bs - 32) (slice_index bs 4) (drop 5 bs) (omega (arith, n))
              ∙ ap (λ (b : ℕ). magic ++ (b ∷ take (length bs - 32 - 5) (drop 5 bs))) v;
          long = n;
          bytes = k.1;
        }

pub front_bytes : (xs ys : List ℕ) → IsBytes (xs ++ ys) → IsBytes xs
front_bytes xs ys h i = elim (cases_lt i (length xs)) [
  | inl lt ↦ subst (λ (b : ℕ). b < 256) (get_or_append_left xs ys 0 i lt) (h i)
  | inr le ↦ rw (get_or_past xs i 0 le) (omega arith)
]

-- what stands behind the version is bytes
pub inside_bytes : (bs body : List ℕ) → IsBytes bs → (f : IsFrame bs body) → IsBytes f.inside
inside_bytes bs body fits f =
    λ i. subst IsBytes f.body_is (front_bytes body (sha256 body) (subst IsBytes f.bytes fits)) (suc (suc (suc (suc (suc i)))))

pub sealed_again : (body : List ℕ) → sealed (body ++ sha256 body) ≡ Ok body
sealed_again body =
    let bs = body ++ sha256 body in
    let n : length body ≡ length bs - 32 = omega (arith, length-append body (sha256 body), length-sha256 body) in
    let front : take (length bs - 32) bs ≡ body = take_at body (sha256 body) (length bs - 32) n in
    let back : drop (length bs - 32) bs ≡ sha256 body = drop_at body (sha256 body) (length bs - 32) n in
    let same : bytes_eq (sha256 (take (length bs - 32) bs)) (drop (length bs - 32) bs) ≡ true =
    (bytes_eq-Decides (sha256 (take (length bs - 32) bs)) (drop (length bs - 32) bs)).1 (ap sha256 front ∙ sym back) in
    ap (λ (b : Bool). cond b (Ok (take (length bs - 32) bs)) (Err Digest)) same ∙ ap (λ (t : List ℕ). Ok t) front

pub frame_again : (inside : List ℕ) → 44 ≤ length inside
    → framed ((magic ++ (1 ∷ inside)) ++ sha256 (magic ++ (1 ∷ inside))) ≡ Ok (magic ++ (1 ∷ inside))
frame_again inside long =
    let body = magic ++ (1 ∷ inside) in
    let bs = body ++ sha256 body in
    let n : length bs ≡ length inside + 37 = omega (arith, length-append body (sha256 body), length-sha256 body) in
    ap (λ (b : Bool). cond b (Err Short) (cond (bytes_eq (take 4 bs) magic) (cond (slice_index bs 4 == 1) (sealed bs) (Err Version)) (Err Magic)))
    (le-ltb (length bs) 81 (omega (arith, n, long)))
    ∙ sealed_again body

-- ---- the whole

on_body_ok : (r : Result (List ℕ) ManifestFault) (m : Manifest) → on_body r ≡ Ok m → (body : List ℕ) × (r ≡ Ok body) × (body_says body ≡ Ok m)
on_body_ok (Ok body) m e = (body, refl, e)
on_body_ok (Err d) m e = absurd (cc)

-- what is read is what the bytes are the text of
manifest_text : (bs : List ℕ) (m : Manifest) → IsBytes bs → manifest_says bs ≡ Ok m → IsManifestText m bs
manifest_text bs m fits e =
    let h = on_body_ok (framed bs) m e in
    let f = frame_ok bs h.0 h.1 in
    let c = contents_taken (length (magic ++ (1 ∷ f.inside))) f.inside m (inside_bytes bs h.0 fits f) (sym (ap body_says f.body_is) ∙ h.2) in
    let body : h.0 ≡ enc_body m = f.body_is ∙ ap (λ (t : List ℕ). magic ++ (1 ∷ t)) c.bytes in
    record { manifest = c.manifest; bytes = f.bytes ∙ ap (λ (t : List ℕ). t ++ sha256 t) body }

long_inside : (m : Manifest) → IsManifest m → 44 ≤ length (m.store ++ (listed counted m.tops ++ enc_entries m.entries))
unfolding be32 be64
long_inside m h =
    let tops = listed counted m.tops in
    let entries = enc_entries m.entries in
    omega (
      arith,
      length-append m.store (tops ++ entries),
      length-append tops entries,
      h.store,
      length-append (be32 (length m.tops)) (flat_map counted m.tops),
      length-append (be64 (length m.entries)) (flat_map enc_entry m.entries),
    )

-- the text of a manifest says the manifest
pub read_again : (m : Manifest) (bs : List ℕ) → IsManifestText m bs → manifest_says bs ≡ Ok m
read_again m bs t =
    let inside = m.store ++ (listed counted m.tops ++ enc_entries m.entries) in
    ap manifest_says t.bytes ∙ ap on_body (frame_again inside (long_inside m t.manifest))
    ∙ contents_again (length (magic ++ (1 ∷ inside))) m t.manifest

-- ---- answers

pub decoded_text : (r : Result Manifest ManifestFault) (bs : List ℕ) → IsBytes bs → AgreesWhole r (manifest_says bs) → IfOk r (λ m. IsManifestText m bs)
decoded_text (Ok m) bs fits h = manifest_text bs m fits h
decoded_text (Err e) bs fits h = tt

-- what is refused is the text of no manifest
pub refused_none : (r : Result Manifest ManifestFault) (bs : List ℕ) → AgreesWhole r (manifest_says bs) → Refuses r → (m : Manifest) → ¬ (IsManifestText m bs)
refused_none (Ok n) bs h x m t = x
refused_none (Err OutOfMemory) bs h x m t = x
refused_none (Err Short) bs h x m t = absurd (cc (read_again m bs t, h))
refused_none (Err Magic) bs h x m t = absurd (cc (read_again m bs t, h))
refused_none (Err Version) bs h x m t = absurd (cc (read_again m bs t, h))
refused_none (Err Digest) bs h x m t = absurd (cc (read_again m bs t, h))
refused_none (Err (BadEntry at)) bs h x m t = absurd (cc (read_again m bs t, h))
refused_none (Err (Order at)) bs h x m t = absurd (cc (read_again m bs t, h))
refused_none (Err More) bs h x m t = absurd (cc (read_again m bs t, h))

-- an answer is the only manifest with this text
pub only_one : (r : Result Manifest ManifestFault) (bs : List ℕ) → AgreesWhole r (manifest_says bs)
    → IfOk r (λ m. (n : Manifest) → IsManifestText n bs → n ≡ m)
only_one (Ok m) bs h = λ n t. cc (read_again n bs t, h)
only_one (Err e) bs h = tt

-- what can be written, with the parts that it has by its types
pub written_parts : (m : Manifest) → IsWritable m → length m.store ≡ 32 → All IsTruePath m.tops → length m.entries < 2 ^ 64 → All IsTrueEntry m.entries
    → IsManifest m
written_parts m writable store tops few entries = record { writable = writable; store = store; tops = tops; few = few; entries = entries }
