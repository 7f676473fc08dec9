-- Bytes that have a fault are refused with it: the whole.
use Rattle.std.proofs.Common.{◌≡◌, ◌≢◌, ℕ, suc, ◌+◌, ◌-◌, ◌≤◌, Bool, true, false, cond, List, [], ◌∷◌, ◌++◌, length, take, drop}
use Rattle.std.proofs.Common.{Result, Ok, Err, refl, sym, ap, subst, ◌∙◌, arith, inl, inr}
use Rattle.std.specs.Prelude.{Option, Some, None, nat_lt, slice_index, ◌==◌, ◌⊎◌}
use Rattle.std.specs.Str.{bytes_eq}
use Rattle.std.proofs.lemmas.Slice.Eq.{bytes_eq-Decides}
use Rattle.std.proofs.lemmas.Bool.{lt-ltb, le-ltb, eqb-true}
use Rattle.std.proofs.lemmas.List.{length-append}
use Rattle.sha2.specs.Sha256.{sha256}
use Rattle.sha2.proofs.Facts256.{length-sha256}
use Rattle.pie_value.proofs.Taking.{IsBytes}
use Rattle.pie_record.specs.Canonical.{listed}
use Rattle.pie_record.specs.Reading.{bytes_at}
use Rattle.pie_record.proofs.Codecs.{bytes_codec}
use Rattle.pie_store.specs.declared.image.StoreImage.{StoreImage}
use Rattle.pie_store.specs.declared.store_fault.StoreFault.{StoreFault}
use Rattle.pie_store.specs.declared.store_fault.StoreFault.TheVariants.{Short, Magic, Version, Digest, Row, Order, Rest as More, OutOfMemory}
use Rattle.pie_store.specs.Frame.{magic, sealed, versioned, framed}
use Rattle.pie_store.specs.Canonical.{enc_func, enc_head}
use Rattle.pie_store.specs.Ranks.{knows}
use Rattle.pie_store.specs.Texts.{IsFormat}
use Rattle.pie_store.specs.inner.Agreement.{AgreesWhole}
use Rattle.pie_store.specs.inner.Reading.{Parsed, part_at, list_at, next_func, then_image, tail_of}
use Rattle.pie_store.specs.inner.Reading.{contents_1, contents_2, body_says, on_body, store_says}
use Rattle.pie_store.specs.Faults.{Head, FaultInside, HasFault, RefusesWith}
use Rattle.pie_store.specs.Faults.{func_unread, func_misplaced, root_unread, row_unread, row_misplaced, root_missing, left_over}
use Rattle.pie_store.specs.Faults.{too_short, other_magic, other_version, too_short_for_1, other_digest, fault_inside}
use Rattle.pie_store.proofs.StoreTexts.{front_bytes}
use Rattle.pie_store.proofs.ReadAgain.{part_again, list_again, funcs_read}
use Rattle.pie_store.proofs.WholeAgain.{frame_again}
use Rattle.pie_store.proofs.Stops.{KnownIs}
use Rattle.pie_store.proofs.Faulting.{table_known, any_known}
use Rattle.pie_store.proofs.FaultLists.{Comes, comes_by, comes_at, table_funcs, back_bytes, funcs_unread, funcs_misplaced}
use Rattle.pie_store.proofs.FaultTail.{then_image_comes, Placed, TailComes, tail_root, tail_row, tail_misplaced, tail_missing, tail_left}

-- ---- what stands behind the version

says : ℕ → List ℕ → Result StoreImage StoreFault
says version inside = cond (version == 1) (contents_1 (5 + length inside) inside) (contents_2 (5 + length inside) inside)

head_placed : (version : ℕ) (inside : List ℕ) (h : Head version inside) → IsBytes inside → Placed h (5 + length inside)
head_placed version inside h fits =
    let shorter : length inside ≡ length (enc_head h.pipeline h.funcs) + length h.rest = ap length h.parts
    ∙ length-append (enc_head h.pipeline h.funcs) h.rest in
    record {
      fits = back_bytes (enc_head h.pipeline h.funcs) h.rest (subst IsBytes h.parts fits);
      within = omega (arith, shorter);
      at = omega (arith, shorter);
    }

head_comes : (version : ℕ) (inside : List ℕ) (h : Head version inside) (e : StoreFault) → TailComes h (5 + length inside) e → Comes (says version inside) e
unfolding says
head_comes version inside h e t = by h.pipeline refl
  where
    by : (o : Option (List ℕ)) → h.pipeline ≡ o → Comes (says version inside) e
    by None none =
        let end = 5 + length inside in
        let two : version ≡ 2 = subst (λ (o : Option (List ℕ)). IsFormat version o h.funcs) none h.format in
        let parts : inside ≡ listed enc_func h.funcs ++ h.rest = h.parts ∙ ap (λ (o : Option (List ℕ)). enc_head o h.funcs ++ h.rest) none in
        let known : KnownIs (knows (Some h.funcs)) h.pipeline h.funcs =
        subst (λ (o : Option (List ℕ)). KnownIs (knows (Some h.funcs)) o h.funcs) (sym none) (table_known h.funcs) in
        let read : list_at end (next_func end) inside ≡ Ok (h.funcs, h.rest) =
        ap (list_at end (next_func end)) parts
        ∙ list_again end (next_func end) enc_func h.funcs h.rest (funcs_read end h.funcs (table_funcs h.funcs h.table h.few) h.table.0) h.few in
        comes_by _ (tail_of end (knows (Some h.funcs)) 2 None h.funcs h.rest) e
        (ap (λ (v : ℕ). says v inside) two
        ∙ ap (λ (x : Parsed (List (List ℕ × List ℕ))). then_image x (λ funcs rest. tail_of end (knows (Some funcs)) 2 None funcs rest)) read)
        (t (knows (Some h.funcs)) 2 None h.funcs known)
    by (Some digest) some =
        let end = 5 + length inside in
        let f : (version ≡ 1) × (length digest ≡ 32) × (h.funcs ≡ []) = subst (λ (o : Option (List ℕ)). IsFormat version o h.funcs) some h.format in
        let parts : inside ≡ digest ++ h.rest = h.parts ∙ ap (λ (o : Option (List ℕ)). enc_head o h.funcs ++ h.rest) some in
        let known : KnownIs (knows None) h.pipeline h.funcs =
        subst (λ (o : Option (List ℕ)). KnownIs (knows None) o h.funcs) (sym some)
        (subst (λ (fs : List (List ℕ × List ℕ)). KnownIs (knows None) (Some digest) fs) (sym f.2) (any_known digest)) in
        comes_by _ (tail_of end (knows None) 1 (Some digest) [] h.rest) e
        (ap (λ (v : ℕ). says v inside) f.0
        ∙ ap (λ (bs : List ℕ). then_image (part_at end (bytes_at 32) bs) (λ d rest. tail_of end (knows None) 1 (Some d) [] rest)) parts
        ∙ ap (λ (x : Parsed (List ℕ)). then_image x (λ d rest. tail_of end (knows None) 1 (Some d) [] rest))
        (part_again (bytes_codec 32) end digest h.rest f.1))
        (t (knows None) 1 (Some digest) [] known)

five_more : (n : ℕ) → (5 + n) - n ≡ 5
five_more n = omega arith

-- a fault in the table
table_comes : (version : ℕ) (inside : List ℕ) (e d : StoreFault) → version ≡ 2 → e ≡ d
    → Comes (list_at (5 + length inside) (next_func (5 + length inside)) inside) e
    → Comes (says version inside) d
unfolding says
table_comes version inside e d two same c =
    let end = 5 + length inside in
    comes_at _ e d same
    (comes_by _ (contents_2 end inside) e (ap (λ (v : ℕ). says v inside) two)
    (then_image_comes (list_at end (next_func end) inside) (λ funcs rest. tail_of end (knows (Some funcs)) 2 None funcs rest) e c))

inside_comes : (version : ℕ) (inside : List ℕ) {e : StoreFault} → IsBytes inside → FaultInside version inside e → Comes (says version inside) e
inside_comes version inside fits (func_unread k two u) =
    let end = 5 + length inside in
    table_comes version inside (Row ((end - length inside) + k)) (Row (5 + k)) two (ap (λ (m : ℕ). Row (m + k)) (five_more (length inside)))
    (funcs_unread end inside k fits (omega arith) u)
inside_comes version inside fits (func_misplaced k two u) =
    let end = 5 + length inside in
    table_comes version inside (Order ((end - length inside) + k)) (Order (5 + k)) two (ap (λ (m : ℕ). Order (m + k)) (five_more (length inside)))
    (funcs_misplaced end inside k (omega arith) u)
inside_comes version inside fits (root_unread h k u) =
    head_comes version inside h _ (tail_root version inside h (5 + length inside) k (head_placed version inside h fits) u)
inside_comes version inside fits (row_unread h r k u) =
    head_comes version inside h _ (tail_row version inside h r (5 + length inside) k (head_placed version inside h fits) u)
inside_comes version inside fits (row_misplaced h r k u) =
    head_comes version inside h _ (tail_misplaced version inside h r (5 + length inside) k (head_placed version inside h fits) u)
inside_comes version inside fits (root_missing h r w before root after split found absent) =
    head_comes version inside h _ (tail_missing version inside h r w before root after (5 + length inside)
    (head_placed version inside h fits) split found absent)
inside_comes version inside fits (left_over h r w found lt) = head_comes version inside h _ (tail_left version inside h r w (5 + length inside) found lt)

-- ---- the frame

unlike : (xs ys : List ℕ) → xs ≢ ys → bytes_eq xs ys ≡ false
unlike xs ys n = by (bytes_eq xs ys) refl
  where
    by : (b : Bool) → bytes_eq xs ys ≡ b → b ≡ false
    by true e = absurd (n ((bytes_eq-Decides xs ys).0 e))
    by false e = refl

other : (n m : ℕ) → n ≢ m → (n == m) ≡ false
other n m d = by (n == m) refl
  where
    by : (b : Bool) → (n == m) ≡ b → b ≡ false
    by true e = absurd (d (eqb-true n m e))
    by false e = refl

framed_on : (bs : List ℕ) (r : Result (List ℕ) StoreFault) → 49 ≤ length bs → take 4 bs ≡ magic → versioned (slice_index bs 4) bs ≡ r → framed bs ≡ r
framed_on bs r long m e =
    ap (λ (b : Bool). cond b (Err Short) (cond (bytes_eq (take 4 bs) magic) (versioned (slice_index bs 4) bs) (Err Magic))) (le-ltb (length bs) 49 long)
    ∙ ap (λ (b : Bool). cond b (versioned (slice_index bs 4) bs) (Err Magic)) ((bytes_eq-Decides (take 4 bs) magic).1 m) ∙ e

sealed_off : (bs : List ℕ) → sha256 (take (length bs - 32) bs) ≢ drop (length bs - 32) bs → sealed bs ≡ Err Digest
sealed_off bs d =
    ap (λ (b : Bool). cond b (Ok (take (length bs - 32) bs)) (Err Digest)) (unlike (sha256 (take (length bs - 32) bs)) (drop (length bs - 32) bs) d)

of_version_1 : (bs : List ℕ) (r : Result (List ℕ) StoreFault) → slice_index bs 4 ≡ 1 → 77 ≤ length bs → sealed bs ≡ r → versioned (slice_index bs 4) bs ≡ r
of_version_1 bs r one long e =
    ap (λ (v : ℕ). versioned v bs) one ∙ ap (λ (b : Bool). cond b (Err Short) (sealed bs)) (le-ltb (length bs) 77 long) ∙ e

of_version_2 : (bs : List ℕ) (r : Result (List ℕ) StoreFault) → slice_index bs 4 ≡ 2 → sealed bs ≡ r → versioned (slice_index bs 4) bs ≡ r
of_version_2 bs r two e = ap (λ (v : ℕ). versioned v bs) two ∙ e

digest_versioned : (bs : List ℕ) → ((slice_index bs 4 ≡ 1) × (77 ≤ length bs)) ⊎ (slice_index bs 4 ≡ 2) → sealed bs ≡ Err Digest
    → versioned (slice_index bs 4) bs ≡ Err Digest
digest_versioned bs (inl h) e = of_version_1 bs (Err Digest) h.0 h.1 e
digest_versioned bs (inr h) e = of_version_2 bs (Err Digest) h e

long_inside : (v n m : ℕ) → ((v ≡ 1) × (77 ≤ n)) ⊎ ((v ≡ 2) × (49 ≤ n)) → n ≡ m + 37 → ((v ≡ 1) × (40 ≤ m)) ⊎ ((v ≡ 2) × (12 ≤ m))
long_inside v n m (inl h) e = inl (h.0, omega (arith, h.1, e))
long_inside v n m (inr h) e = inr (h.0, omega (arith, h.1, e))

body_is : (version : ℕ) (inside : List ℕ) → body_says (magic ++ (version ∷ inside)) ≡ says version inside
unfolding says
body_is version inside =
    let same : length (magic ++ (version ∷ inside)) ≡ 5 + length inside = omega arith in
    ap (λ (end : ℕ). cond (version == 1) (contents_1 end inside) (contents_2 end inside)) same

fault_comes : (bs : List ℕ) {e : StoreFault} → IsBytes bs → HasFault bs e → Comes (store_says bs) e
fault_comes bs fits (too_short l) =
    inl (ap on_body (ap (λ (b : Bool). cond b (Err Short) (cond (bytes_eq (take 4 bs) magic) (versioned (slice_index bs 4) bs) (Err Magic)))
    (lt-ltb (length bs) 49 l)))
fault_comes bs fits (other_magic l m) =
    inl (ap on_body
    (ap (λ (b : Bool). cond b (Err Short) (cond (bytes_eq (take 4 bs) magic) (versioned (slice_index bs 4) bs) (Err Magic))) (le-ltb (length bs) 49 l)
    ∙ ap (λ (b : Bool). cond b (versioned (slice_index bs 4) bs) (Err Magic)) (unlike (take 4 bs) magic m)))
fault_comes bs fits (other_version l m one two) =
    inl (ap on_body (framed_on bs (Err Version) l m
    (ap (λ (b : Bool). cond b (cond (nat_lt (length bs) 77) (Err Short) (sealed bs)) (cond (slice_index bs 4 == 2) (sealed bs) (Err Version)))
    (other (slice_index bs 4) 1 one)
    ∙ ap (λ (b : Bool). cond b (sealed bs) (Err Version)) (other (slice_index bs 4) 2 two))))
fault_comes bs fits (too_short_for_1 l m one few) =
    inl (ap on_body (framed_on bs (Err Short) l m
    (ap (λ (v : ℕ). versioned v bs) one ∙ ap (λ (b : Bool). cond b (Err Short) (sealed bs)) (lt-ltb (length bs) 77 few))))
fault_comes bs fits (other_digest l m v d) = inl (ap on_body (framed_on bs (Err Digest) l m (digest_versioned bs v (sealed_off bs d))))
fault_comes bs fits (fault_inside version inside e f x) =
    let body = magic ++ (version ∷ inside) in
    let long : length bs ≡ length inside + 37 = omega (arith, ap length f.parts, length-append body (sha256 body), length-sha256 body) in
    let framed_is : framed bs ≡ Ok body = ap framed f.parts ∙ frame_again version inside (long_inside version (length bs) (length inside) f.long long) in
    let within : IsBytes body = front_bytes body (sha256 body) (subst IsBytes f.parts fits) in
    comes_by (store_says bs) (says version inside) e (ap on_body framed_is ∙ body_is version inside)
    (inside_comes version inside (λ i. within (suc (suc (suc (suc (suc i)))))) x)

-- ---- answers

pub refuses_with : (r : Result StoreImage StoreFault) (bs : List ℕ) → IsBytes bs → AgreesWhole r (store_says bs) → (e : StoreFault) → HasFault bs e
    → RefusesWith r e
refuses_with r bs fits h e x = by r h (fault_comes bs fits x)
  where
    by : (r : Result StoreImage StoreFault) → AgreesWhole r (store_says bs) → Comes (store_says bs) e → RefusesWith r e
    by (Ok image) g (inl c) = absurd (cc (g, c))
    by (Ok image) g (inr c) = absurd (cc (g, c))
    by (Err OutOfMemory) g c = tt
    by (Err Short) g (inl c) = cc (g, c)
    by (Err Short) g (inr c) = absurd (cc (g, c))
    by (Err Magic) g (inl c) = cc (g, c)
    by (Err Magic) g (inr c) = absurd (cc (g, c))
    by (Err Version) g (inl c) = cc (g, c)
    by (Err Version) g (inr c) = absurd (cc (g, c))
    by (Err Digest) g (inl c) = cc (g, c)
    by (Err Digest) g (inr c) = absurd (cc (g, c))
    by (Err (Row at)) g (inl c) = cc (g, c)
    by (Err (Row at)) g (inr c) = absurd (cc (g, c))
    by (Err (Order at)) g (inl c) = cc (g, c)
    by (Err (Order at)) g (inr c) = absurd (cc (g, c))
    by (Err More) g (inl c) = cc (g, c)
    by (Err More) g (inr c) = absurd (cc (g, c))
