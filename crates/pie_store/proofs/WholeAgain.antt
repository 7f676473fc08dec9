-- The text of a store is read again, as the store.
use Rattle.std.proofs.Common.{◌≡◌, ℕ, zero, suc, ◌+◌, ◌-◌, ◌≤◌, Bool, true, false, cond, List, [], ◌∷◌, ◌++◌, length, get_or, take, drop}
use Rattle.std.proofs.Common.{Result, Ok, Err, IfOk, refl, sym, ap, subst, ◌∙◌, arith, inl, inr}
use Rattle.std.specs.Prelude.{All, Contains, Option, Some, None, ◌==◌, ◌||◌, ◌⊎◌, slice_index}
use Rattle.std.specs.List.{flat_map}
use Rattle.std.specs.Str.{bytes_eq}
use Rattle.std.proofs.lemmas.Slice.Eq.{bytes_eq-Decides}
use Rattle.std.proofs.lemmas.Bool.{le-ltb}
use Rattle.std.proofs.lemmas.List.{take_at, drop_at, length-append}
use Rattle.sha2.specs.Sha256.{sha256}
use Rattle.sha2.proofs.Facts256.{length-sha256}
use Rattle.pie_value.specs.Canonical.{be32, enc_task}
use Rattle.pie_record.specs.Canonical.{listed, enc_record, IsTrueRecord}
use Rattle.pie_record.proofs.Codecs.{bytes_codec}
use Rattle.pie_store.specs.declared.image.StoreImage.{StoreImage}
use Rattle.pie_store.specs.declared.store_fault.StoreFault.{StoreFault}
use Rattle.pie_store.specs.declared.store_fault.StoreFault.TheVariants.{Short, Magic, Version, Digest, Row, Order, Rest, OutOfMemory}
use Rattle.pie_store.specs.Frame.{magic, sealed, versioned, framed, IsSealed}
use Rattle.pie_store.specs.Canonical.{enc_func, enc_head, enc_body, names_of, IsStorableStore}
use Rattle.pie_store.specs.Ranks.{knows, IsStored}
use Rattle.pie_store.specs.Texts.{IsFunc, IsFormat, AreKnown, IsStore, IsStoreText}
use Rattle.pie_store.specs.inner.Agreement.{AgreesWhole, Refuses}
use Rattle.pie_store.specs.inner.Reading.{Parsed, next_func}
use Rattle.pie_store.specs.inner.Reading.{then_image, tail_of, contents_1, contents_2, body_says, on_body, store_says}
use Rattle.pie_store.proofs.ReadAgain.{part_again, list_again, funcs_read}
use Rattle.pie_store.proofs.RowsAgain.{tail_again}

-- ---- what stands after the version

-- a function in the table passes
pub table_knows : (funcs : List (List ℕ × List ℕ)) (name : List ℕ) → Contains (names_of funcs) name → knows (Some funcs) name ≡ true
table_knows [] name c = absurd (omega (arith, c.1))
table_knows (f ∷ funcs) name (zero, lt, is) =
    ap (λ (b : Bool). b || knows (Some funcs) name) ((bytes_eq-Decides name f.0).1 (sym is))
table_knows (f ∷ funcs) name (suc k, lt, is) =
    ap (λ (b : Bool). bytes_eq name f.0 || b) (table_knows funcs name (k, omega (arith, lt), is)) ∙ always (bytes_eq name f.0)
  where
    always : (b : Bool) → (b || true) ≡ true
    always true = refl
    always false = refl

rest_of : StoreImage → List ℕ
rest_of s = listed enc_task s.roots ++ listed enc_record s.rows

contents_2_again : (end : ℕ) (s : StoreImage) → IsStore s → s.pipeline ≡ None → contents_2 end (enc_head s.pipeline s.funcs ++ rest_of s) ≡ Ok s
unfolding rest_of
contents_2_again end s h none =
    let v : s.version ≡ 2 = subst (λ (o : Option (List ℕ)). IsFormat s.version o s.funcs) none h.format in
    let known = subst (λ (o : Option (List ℕ)). AreKnown o s.funcs s.rows) none h.known in
    ap (λ (o : Option (List ℕ)). contents_2 end (enc_head o s.funcs ++ rest_of s)) none
    ∙ ap (λ (p : Parsed (List (List ℕ × List ℕ))). then_image p (λ funcs rest. tail_of end (knows (Some funcs)) 2 None funcs rest))
    (list_again end (next_func end) enc_func s.funcs (rest_of s) (funcs_read end s.funcs h.table h.funcs) h.table.few)
    ∙ tail_again end (knows (Some s.funcs)) s 2 None s.funcs h (sym v) (sym none) refl
    (λ i r lt. table_knows s.funcs (get_or s.rows i r).task.func (known i r lt))

contents_1_again : (end : ℕ) (s : StoreImage) (digest : List ℕ) → IsStore s → s.pipeline ≡ Some digest
    → contents_1 end (enc_head s.pipeline s.funcs ++ rest_of s) ≡ Ok s
unfolding rest_of
contents_1_again end s digest h some =
    let f : (s.version ≡ 1) × (length digest ≡ 32) × (s.funcs ≡ []) = subst (λ (o : Option (List ℕ)). IsFormat s.version o s.funcs) some h.format in
    ap (λ (o : Option (List ℕ)). contents_1 end (enc_head o s.funcs ++ rest_of s)) some
    ∙ ap (λ (p : Parsed (List ℕ)). then_image p (λ d rest. tail_of end (knows None) 1 (Some d) [] rest))
    (part_again (bytes_codec 32) end digest (rest_of s) f.1)
    ∙ tail_again end (knows None) s 1 (Some digest) [] h (sym f.0) (sym some) (sym f.2) (λ i r lt. refl)

-- ---- the frame

-- the version, and the fewest bytes after it
record IsHead (s : StoreImage) : Type 0 where
  one_or_two : ((s.version ≡ 1) × (40 ≤ length (enc_head s.pipeline s.funcs ++ rest_of s)))
      ⊎ ((s.version ≡ 2) × (12 ≤ length (enc_head s.pipeline s.funcs ++ rest_of s)))
  says : body_says (enc_body s) ≡ Ok s

length_be32 : (n : ℕ) → length (be32 n) ≡ 4
unfolding be32
length_be32 n = refl

listed_long : {A : Type 0} (bytes : A → List ℕ) (xs : List A) → 4 ≤ length (listed bytes xs)
listed_long bytes xs = omega (arith, length-append (be32 (length xs)) (flat_map bytes xs), length_be32 (length xs))

rest_long : (s : StoreImage) → 8 ≤ length (rest_of s)
unfolding rest_of
rest_long s =
    omega (arith, length-append (listed enc_task s.roots) (listed enc_record s.rows), listed_long enc_task s.roots, listed_long enc_record s.rows)

head_is : (s : StoreImage) → IsStore s → IsHead s
unfolding rest_of
head_is s h = by s.pipeline refl
  where
    head_long : (o : Option (List ℕ)) (n : ℕ) → s.pipeline ≡ o → n ≤ length (enc_head o s.funcs) → n + 8 ≤ length (enc_head s.pipeline s.funcs ++ rest_of s)
    head_long o n e le =
        let same : length (enc_head s.pipeline s.funcs) ≡ length (enc_head o s.funcs) = ap (λ (x : Option (List ℕ)). length (enc_head x s.funcs)) e in
        omega (arith, length-append (enc_head s.pipeline s.funcs) (rest_of s), rest_long s, same, le)

    by : (o : Option (List ℕ)) → s.pipeline ≡ o → IsHead s
    by None e =
        let v : s.version ≡ 2 = subst (λ (x : Option (List ℕ)). IsFormat s.version x s.funcs) e h.format in
        record {
          one_or_two = inr (v, head_long None 4 e (listed_long enc_func s.funcs));
          says =
              ap (λ (k : ℕ). cond (k == 1) (contents_1 (length (enc_body s)) (enc_head s.pipeline s.funcs ++ rest_of s))
              (contents_2 (length (enc_body s)) (enc_head s.pipeline s.funcs ++ rest_of s))) v
              ∙ contents_2_again (length (enc_body s)) s h e;
        }
    by (Some digest) e =
        let f : (s.version ≡ 1) × (length digest ≡ 32) × (s.funcs ≡ []) = subst (λ (x : Option (List ℕ)). IsFormat s.version x s.funcs) e h.format in
        record {
          one_or_two = inl (f.0, head_long (Some digest) 32 e (omega (arith, f.1)));
          says =
              ap (λ (k : ℕ). cond (k == 1) (contents_1 (length (enc_body s)) (enc_head s.pipeline s.funcs ++ rest_of s))
              (contents_2 (length (enc_body s)) (enc_head s.pipeline s.funcs ++ rest_of s))) f.0
              ∙ contents_1_again (length (enc_body s)) s digest h e;
        }

sealed_again : (body : List ℕ) → sealed (body ++ sha256 body) ≡ Ok body
sealed_again body =
    let bs = body ++ sha256 body in
    let n : length body ≡ length bs - 32 = omega (arith, length-append body (sha256 body), length-sha256 body) in
    let front : take (length bs - 32) bs ≡ body = take_at body (sha256 body) (length bs - 32) n in
    let back : drop (length bs - 32) bs ≡ sha256 body = drop_at body (sha256 body) (length bs - 32) n in
    let same : bytes_eq (sha256 (take (length bs - 32) bs)) (drop (length bs - 32) bs) ≡ true =
    (bytes_eq-Decides (sha256 (take (length bs - 32) bs)) (drop (length bs - 32) bs)).1 (ap sha256 front ∙ sym back) in
    ap (λ (b : Bool). cond b (Ok (take (length bs - 32) bs)) (Err Digest)) same ∙ ap (λ (t : List ℕ). Ok t) front

-- the text of a store ends in the digest of its body
pub text_sealed : (s : StoreImage) (bs : List ℕ) → IsStoreText s bs → IsSealed bs
text_sealed s bs t le =
    let body = enc_body s in
    let n : length body ≡ length bs - 32 = omega (arith, ap length t.bytes, length-append body (sha256 body), length-sha256 body) in
    ap (λ (xs : List ℕ). sha256 (take (length bs - 32) xs)) t.bytes ∙ ap sha256 (take_at body (sha256 body) (length bs - 32) n)
    ∙ sym (drop_at body (sha256 body) (length bs - 32) n) ∙ ap (λ (xs : List ℕ). drop (length bs - 32) xs) (sym t.bytes)

-- a version and the bytes after it, in a frame
pub frame_again : (v : ℕ) (inside : List ℕ) → ((v ≡ 1) × (40 ≤ length inside)) ⊎ ((v ≡ 2) × (12 ≤ length inside))
    → framed ((magic ++ (v ∷ inside)) ++ sha256 (magic ++ (v ∷ inside))) ≡ Ok (magic ++ (v ∷ inside))
frame_again v inside h =
    let body = magic ++ (v ∷ inside) in
    let bs = body ++ sha256 body in
    let long : length bs ≡ length inside + 37 = omega (arith, length-append body (sha256 body), length-sha256 body) in
    ap (λ (b : Bool). cond b (Err Short) (cond (bytes_eq (take 4 bs) magic) (versioned (slice_index bs 4) bs) (Err Magic)))
    (le-ltb (length bs) 49 (enough h (length bs) long))
    ∙ version h long
  where
    enough : ((v ≡ 1) × (40 ≤ length inside)) ⊎ ((v ≡ 2) × (12 ≤ length inside)) → (n : ℕ) → n ≡ length inside + 37 → 49 ≤ n
    enough (inl a) n e = omega (arith, a.1, e)
    enough (inr a) n e = omega (arith, a.1, e)

    version : ((v ≡ 1) × (40 ≤ length inside)) ⊎ ((v ≡ 2) × (12 ≤ length inside))
        → length ((magic ++ (v ∷ inside)) ++ sha256 (magic ++ (v ∷ inside))) ≡ length inside + 37
        → versioned v ((magic ++ (v ∷ inside)) ++ sha256 (magic ++ (v ∷ inside))) ≡ Ok (magic ++ (v ∷ inside))
    version (inl a) long =
        let bs = (magic ++ (v ∷ inside)) ++ sha256 (magic ++ (v ∷ inside)) in
        ap (λ (k : ℕ). versioned k bs) a.0
        ∙ ap (λ (b : Bool). cond b (Err Short) (sealed bs)) (le-ltb (length bs) 77 (omega (arith, a.1, long)))
        ∙ sealed_again (magic ++ (v ∷ inside))
    version (inr a) long =
        let bs = (magic ++ (v ∷ inside)) ++ sha256 (magic ++ (v ∷ inside)) in
        ap (λ (k : ℕ). versioned k bs) a.0 ∙ sealed_again (magic ++ (v ∷ inside))

-- ---- the whole

-- the text of a store says the store
pub read_again : (s : StoreImage) (bs : List ℕ) → IsStoreText s bs → store_says bs ≡ Ok s
unfolding rest_of
read_again s bs t =
    let h = head_is s t.store in
    ap store_says t.bytes ∙ ap on_body (frame_again s.version (enc_head s.pipeline s.funcs ++ rest_of s) h.one_or_two) ∙ h.says

-- what is refused is the text of no store
pub refused_none : (r : Result StoreImage StoreFault) (bs : List ℕ) → AgreesWhole r (store_says bs) → Refuses r → (s : StoreImage) → ¬ (IsStoreText s bs)
refused_none (Ok image) bs h x s t = x
refused_none (Err OutOfMemory) bs h x s t = x
refused_none (Err Short) bs h x s t = absurd (cc (read_again s bs t, h))
refused_none (Err Magic) bs h x s t = absurd (cc (read_again s bs t, h))
refused_none (Err Version) bs h x s t = absurd (cc (read_again s bs t, h))
refused_none (Err Digest) bs h x s t = absurd (cc (read_again s bs t, h))
refused_none (Err (Row at)) bs h x s t = absurd (cc (read_again s bs t, h))
refused_none (Err (Order at)) bs h x s t = absurd (cc (read_again s bs t, h))
refused_none (Err Rest) bs h x s t = absurd (cc (read_again s bs t, h))

-- an answer is the only store with this text
pub only_one : (r : Result StoreImage StoreFault) (bs : List ℕ) → AgreesWhole r (store_says bs)
    → IfOk r (λ image. (s : StoreImage) → IsStoreText s bs → s ≡ image)
only_one (Ok image) bs h = λ s t. cc (read_again s bs t, h)
only_one (Err e) bs h = tt

-- what version 2 says can be written
writable : (s : StoreImage) → IsStore s → s.version ≡ 2 → IsStorableStore s
writable s h v = by s.pipeline refl
  where
    by : (o : Option (List ℕ)) → s.pipeline ≡ o → IsStorableStore s
    by (Some digest) e =
        let f : (s.version ≡ 1) × (length digest ≡ 32) × (s.funcs ≡ []) = subst (λ (x : Option (List ℕ)). IsFormat s.version x s.funcs) e h.format in
        absurd (omega (arith, f.0, v))
    by None e = record {
      version = v;
      table = e;
      funcs = h.table;
      few_roots = h.few_roots;
      roots = λ i d lt. (h.roots i d lt).encodable;
      few_rows = h.few_rows;
      rows = λ i d lt. (h.rows i d lt).storable;
      order = h.order;
      known = subst (λ (o : Option (List ℕ)). AreKnown o s.funcs s.rows) e h.known;
      closed = h.closed;
    }

pub all_writable : (r : Result StoreImage StoreFault) (bs : List ℕ) → IfOk r (λ s. IsStoreText s bs) → IfOk r (λ s. s.version ≡ 2 → IsStorableStore s)
all_writable (Ok s) bs t = writable s t.store
all_writable (Err e) bs t = tt

-- what can be stored, with the parts that it has by its types
pub stored_parts : (s : StoreImage) → IsStorableStore s → All IsFunc s.funcs → All IsStored s.roots → All IsTrueRecord s.rows → IsStore s
stored_parts s h funcs roots rows = record {
  format = subst (λ (o : Option (List ℕ)). IsFormat s.version o s.funcs) (sym h.table) h.version;
  funcs = funcs;
  table = h.funcs;
  few_roots = h.few_roots;
  roots = roots;
  few_rows = h.few_rows;
  rows = λ i d lt. record { storable = h.rows i d lt; parts = rows i d lt; bytes = refl };
  order = h.order;
  known = subst (λ (o : Option (List ℕ)). AreKnown o s.funcs s.rows) (sym h.table) h.known;
  closed = h.closed;
}
