-- A cache file as a whole: what is read is what these bytes are the text of, and its text is read again.
use Rattle.std.proofs.Common.{◌≡◌, ℕ, suc, ◌+◌, ◌-◌, ◌<◌, ◌≤◌, Bool, true, false, cond, List, [], ◌∷◌, ◌++◌, length, take, drop}
use Rattle.std.proofs.Common.{Result, Ok, Err, IfOk, refl, sym, ap, subst, ◌∙◌, append-nil, arith, inl, inr, Vec, Global}
use Rattle.std.specs.Prelude.{All, map, ◌==◌, ◌⊎◌, nat_lt, nat_le, slice_index}
use Rattle.std.specs.List.{flat_map}
use Rattle.std.specs.Str.{bytes_eq}
use Rattle.std.proofs.lemmas.Slice.Eq.{bytes_eq-Decides}
use Rattle.std.proofs.lemmas.Bool.{ltb-false, le-ltb, leb-true, le-leb, eqb-true, cases_lt}
use Rattle.std.proofs.lemmas.List.{take-append-drop, take_at, drop_at, drop_more, length-append, length-map, get_or_append_left, get_or_past}
use Rattle.sha2.specs.Sha256.{sha256}
use Rattle.sha2.proofs.Facts256.{length-sha256}
use Rattle.pie_value.proofs.Taking.{IsBytes}
use Rattle.pie_record.proofs.Steps.{both_true, both_on}
use Rattle.pie_store.specs.declared.offers.Offer.{Offer}
use Rattle.pie_store.specs.inner.Offers.{Offered, offered}
use Rattle.pie_cache.specs.declared.cache_fault.CacheFault.{CacheFault}
use Rattle.pie_cache.specs.declared.cache_fault.CacheFault.TheVariants.{Short, Magic, Version, Digest, Count, Entry, Rest, OutOfMemory}
use Rattle.pie_cache.specs.inner.Texts.{magic, enc_entry, enc_body, IsCount, IsEntry, IsCacheText}
use Rattle.pie_cache.specs.inner.Agreement.{AgreesWhole, Refuses}
use Rattle.pie_cache.specs.inner.Frame.{framed, sealed}
use Rattle.pie_cache.specs.inner.Reading.{Parsed, some_at, closed, then_closed, is_count, counted_says, on_body, cache_says}
use Rattle.pie_cache.proofs.Lists.{some_taken, some_more}
use Rattle.pie_cache.proofs.Steps.{pair}
use Rattle.pie_cache.specs.inner.Contents.{IsKeptOffer}
use Rattle.pie_cache.proofs.Writing.{entries_kept}

-- ---- the number of entries, and they

pub count_is : (n : ℕ) → is_count n ≡ true → IsCount n
count_is n e =
    let h = both_true (nat_le 1 n) (nat_le n 4) e in
    (leb-true 1 n h.0, leb-true n 4 h.1)

pub count_on : (n : ℕ) → IsCount n → is_count n ≡ true
count_on n h = both_on (nat_le 1 n) (nat_le n 4) (le-leb 1 n h.0) (le-leb n 4 h.1)

closed_ok : (entries : List Offered) (rest : List ℕ) (all : List Offered) → closed entries rest ≡ Ok all → (rest ≡ []) × (entries ≡ all)
closed_ok entries [] all e = (refl, cc)
closed_ok entries (b ∷ rest) all e = absurd (cc)

then_closed_ok : (p : Parsed (List Offered)) (all : List Offered) → then_closed p ≡ Ok all → p ≡ Ok (all, [])
then_closed_ok (Ok q) all e =
    let h = closed_ok q.0 q.1 all e in
    ap (λ (l : List ℕ). pair q.0 l) h.0 ∙ ap (λ (l : List Offered). pair l []) h.1
then_closed_ok (Err d) all e = absurd (cc)

-- what stands behind the version says entries, and is their bytes
record IsInside (n : ℕ) (inside : List ℕ) (entries : List Offered) : Type 0 where
  count : IsCount n
  number : length entries ≡ n
  fit : All IsEntry entries
  bytes : inside ≡ flat_map enc_entry entries

inside_taken : (end n : ℕ) (inside : List ℕ) (entries : List Offered) → IsBytes inside → counted_says end n inside ≡ Ok entries
    → IsInside n inside entries
inside_taken end n inside entries fits e = by (is_count n) refl e
  where
    by : (b : Bool) → is_count n ≡ b → cond b (then_closed (some_at end n [] inside)) (Err Count) ≡ Ok entries → IsInside n inside entries
    by false t f = absurd (cc)
    by true t f =
        let q = some_taken end n [] inside entries [] fits (then_closed_ok (some_at end n [] inside) entries f) in
        let made : IsInside n inside q.more = record {
          count = count_is n t;
          number = q.count;
          fit = q.fit;
          bytes = q.takes.parts ∙ append-nil (flat_map enc_entry q.more);
        } in
        subst (IsInside n inside) (sym q.is) made

pub some_zero : (entries : List Offered) (end : ℕ) (rest : List ℕ) → All IsEntry entries
    → some_at end (length entries) [] (flat_map enc_entry entries ++ rest) ≡ Ok (entries, rest)
some_zero entries end rest fit =
    let same : length entries ≡ length entries + 0 = omega arith in
    ap (λ (n : ℕ). some_at end n [] (flat_map enc_entry entries ++ rest)) same ∙ some_more end entries [] 0 rest fit

inside_again : (end : ℕ) (entries : List Offered) → IsCount (length entries) → All IsEntry entries
    → counted_says end (length entries) (flat_map enc_entry entries) ≡ Ok entries
inside_again end entries count fit =
    ap (λ (b : Bool). cond b (then_closed (some_at end (length entries) [] (flat_map enc_entry entries))) (Err Count)) (count_on (length entries) count)
    ∙ ap (λ (bs : List ℕ). then_closed (some_at end (length entries) [] bs)) (sym (append-nil (flat_map enc_entry entries)))
    ∙ ap then_closed (some_zero entries end [] fit)

-- ---- the frame

-- what a good frame says of the bytes
pub record IsFrame (bs body : List ℕ) : Type 0 where
  pub number : ℕ
  pub inside : List ℕ
  pub body_is : body ≡ magic ++ (1 ∷ (number ∷ inside))
  pub bytes : bs ≡ body ++ sha256 body

cond_ok : (b : Bool) (r q : Result (List ℕ) CacheFault) (body : List ℕ) → cond b r q ≡ Ok body → ((b ≡ true) × (r ≡ Ok body))
    ⊎ ((b ≡ false) × (q ≡ Ok body))
cond_ok true r q body e = inl (refl, e)
cond_ok false r q body e = inr (refl, e)

sealed_ok : (bs body : List ℕ) → sealed bs ≡ Ok body → (body ≡ take (length bs - 32) bs) × (bs ≡ body ++ sha256 body)
sealed_ok bs body e = elim (cond_ok (bytes_eq (sha256 (take (length bs - 32) bs)) (drop (length bs - 32) bs)) (Ok (take (length bs - 32) bs))
    (Err Digest) body e) [
      | inl h ↦
          let front = take (length bs - 32) bs in
          let back = drop (length bs - 32) bs in
          let b : front ≡ body = cc (h.1) in
          let d : sha256 front ≡ back = (bytes_eq-Decides (sha256 front) back).0 h.0 in
          (sym b, sym (take-append-drop (length bs - 32) bs) ∙ ap (λ (t : List ℕ). front ++ t) (sym d) ∙ ap (λ (t : List ℕ). t ++ sha256 t) b)
      | inr h ↦ absurd (cc (h.1))
    ]

six : (bs : List ℕ) → 38 ≤ length bs → take 4 bs ≡ magic → bs ≡ magic ++ (slice_index bs 4 ∷ (slice_index bs 5 ∷ drop 6 bs))
six bs long e =
    sym (take-append-drop 4 bs) ∙ ap (λ (t : List ℕ). t ++ drop 4 bs) e ∙ ap (λ (t : List ℕ). magic ++ t) (drop_more bs 4 0 (omega (arith, long)))
    ∙ ap (λ (t : List ℕ). magic ++ (slice_index bs 4 ∷ t)) (drop_more bs 5 0 (omega (arith, long)))

cut : (n v c : ℕ) (t : List ℕ) → 6 ≤ n → take n (magic ++ (v ∷ (c ∷ t))) ≡ magic ++ (v ∷ (c ∷ take (n - 6) t))
cut n v c t le =
    let e : n ≡ suc (suc (suc (suc (suc (suc (n - 6)))))) = omega (arith, le) in
    ap (λ (k : ℕ). take k (magic ++ (v ∷ (c ∷ t)))) e

pub frame_ok : (bs body : List ℕ) → framed bs ≡ Ok body → IsFrame bs body
frame_ok bs body e = elim (cond_ok (nat_lt (length bs) 38) (Err Short)
    (cond (bytes_eq (take 4 bs) magic) (cond (slice_index bs 4 == 1) (sealed bs) (Err Version)) (Err Magic)) body e) [
      | inl h ↦ absurd (cc (h.1))
      | inr h ↦ elim (cond_ok (bytes_eq (take 4 bs) magic) (cond (slice_index bs 4 == 1) (sealed bs) (Err Version)) (Err Magic) body h.1) [
        | inl m ↦ elim (cond_ok (slice_index bs 4 == 1) (sealed bs) (Err Version) body m.1) [
          | inl v ↦ made (ltb-false (length bs) 38 h.0) ((bytes_eq-Decides (take 4 bs) magic).0 m.0) (eqb-true (slice_index bs 4) 1 v.0) v.1
          | inr v ↦ absurd (cc (v.1))
        ]
        | inr m ↦ absurd (cc (m.1))
      ]
    ]
  where
    made : 38 ≤ length bs → take 4 bs ≡ magic → slice_index bs 4 ≡ 1 → sealed bs ≡ Ok body → IsFrame bs body
    made n m v s =
        let k = sealed_ok bs body s in
        record {
          number = slice_index bs 5;
          inside = take (length bs - 32 - 6) (drop 6 bs);
          body_is =
              k.0 ∙ ap (λ (t : List ℕ). take (length bs - 32) t) (six bs n m)
              ∙ cut (length bs - 32) (slice_index bs 4) (slice_index bs 5) (drop 6 bs) (omega (arith, n))
              ∙ ap (λ (b : ℕ). magic ++ (b ∷ (slice_index bs 5 ∷ take (length bs - 32 - 6) (drop 6 bs)))) v;
          bytes = k.1;
        }

front_bytes : (xs ys : List ℕ) → IsBytes (xs ++ ys) → IsBytes xs
front_bytes xs ys h i = elim (cases_lt i (length xs)) [
  | inl lt ↦ subst (λ (b : ℕ). b < 256) (get_or_append_left xs ys 0 i lt) (h i)
  | inr le ↦ rw (get_or_past xs i 0 le) (omega arith)
]

-- what stands behind the number is bytes
pub inside_bytes : (bs : List ℕ) (n : ℕ) (inside : List ℕ) → IsBytes bs
    → bs ≡ (magic ++ (1 ∷ (n ∷ inside))) ++ sha256 (magic ++ (1 ∷ (n ∷ inside))) → IsBytes inside
inside_bytes bs n inside fits e =
    let body = magic ++ (1 ∷ (n ∷ inside)) in
    λ i. front_bytes body (sha256 body) (subst IsBytes e fits) (suc (suc (suc (suc (suc (suc i))))))

-- a frame around a body
pub framed_by : (bs body : List ℕ) (f : IsFrame bs body)
    → bs ≡ (magic ++ (1 ∷ (f.number ∷ f.inside))) ++ sha256 (magic ++ (1 ∷ (f.number ∷ f.inside)))
framed_by bs body f = f.bytes ∙ ap (λ (t : List ℕ). t ++ sha256 t) f.body_is

sealed_again : (body : List ℕ) → sealed (body ++ sha256 body) ≡ Ok body
sealed_again body =
    let bs = body ++ sha256 body in
    let n : length body ≡ length bs - 32 = omega (arith, length-append body (sha256 body), length-sha256 body) in
    let front : take (length bs - 32) bs ≡ body = take_at body (sha256 body) (length bs - 32) n in
    let back : drop (length bs - 32) bs ≡ sha256 body = drop_at body (sha256 body) (length bs - 32) n in
    let same : bytes_eq (sha256 (take (length bs - 32) bs)) (drop (length bs - 32) bs) ≡ true =
    (bytes_eq-Decides (sha256 (take (length bs - 32) bs)) (drop (length bs - 32) bs)).1 (ap sha256 front ∙ sym back) in
    ap (λ (b : Bool). cond b (Ok (take (length bs - 32) bs)) (Err Digest)) same ∙ ap (λ (t : List ℕ). Ok t) front

pub frame_again : (n : ℕ) (inside : List ℕ)
    → framed ((magic ++ (1 ∷ (n ∷ inside))) ++ sha256 (magic ++ (1 ∷ (n ∷ inside)))) ≡ Ok (magic ++ (1 ∷ (n ∷ inside)))
frame_again n inside =
    let body = magic ++ (1 ∷ (n ∷ inside)) in
    let bs = body ++ sha256 body in
    let long : length bs ≡ length inside + 38 = omega (arith, length-append body (sha256 body), length-sha256 body) in
    ap (λ (b : Bool). cond b (Err Short) (cond (bytes_eq (take 4 bs) magic) (cond (slice_index bs 4 == 1) (sealed bs) (Err Version)) (Err Magic)))
    (le-ltb (length bs) 38 (omega (arith, long)))
    ∙ sealed_again body

-- ---- the whole

-- what bytes with a good frame say
pub says_inside : (bs : List ℕ) (n : ℕ) (inside : List ℕ) → bs ≡ (magic ++ (1 ∷ (n ∷ inside))) ++ sha256 (magic ++ (1 ∷ (n ∷ inside)))
    → cache_says bs ≡ counted_says (6 + length inside) n inside
says_inside bs n inside e =
    let same : length (magic ++ (1 ∷ (n ∷ inside))) ≡ 6 + length inside = omega arith in
    ap cache_says e ∙ ap on_body (frame_again n inside) ∙ ap (λ (end : ℕ). counted_says end n inside) same

on_body_ok : (r : Result (List ℕ) CacheFault) (all : List Offered) → on_body r ≡ Ok all → (body : List ℕ) × (r ≡ Ok body)
on_body_ok (Ok body) all e = (body, refl)
on_body_ok (Err d) all e = absurd (cc)

-- what is read is what the bytes are the text of
cache_text : (bs : List ℕ) (entries : List Offered) → IsBytes bs → cache_says bs ≡ Ok entries → IsCacheText entries bs
cache_text bs entries fits e =
    let h = on_body_ok (framed bs) entries e in
    let f = frame_ok bs h.0 h.1 in
    let parts = framed_by bs h.0 f in
    let c = inside_taken (6 + length f.inside) f.number f.inside entries (inside_bytes bs f.number f.inside fits parts)
    (sym (says_inside bs f.number f.inside parts) ∙ e) in
    let body : magic ++ (1 ∷ (f.number ∷ f.inside)) ≡ enc_body entries =
    ap (λ (n : ℕ). magic ++ (1 ∷ (n ∷ f.inside))) (sym c.number) ∙ ap (λ (t : List ℕ). magic ++ (1 ∷ (length entries ∷ t))) c.bytes in
    record {
      count = subst IsCount (sym c.number) c.count;
      each = c.fit;
      bytes = parts ∙ ap (λ (t : List ℕ). t ++ sha256 t) body;
    }

-- the text of a cache file says its entries
pub read_again : (entries : List Offered) (bs : List ℕ) → IsCacheText entries bs → cache_says bs ≡ Ok entries
read_again entries bs t =
    says_inside bs (length entries) (flat_map enc_entry entries) t.bytes
    ∙ inside_again (6 + length (flat_map enc_entry entries)) entries t.count t.each

-- ---- answers

pub decoded_text : (r : Result (Vec Offer Global) CacheFault) (bs : List ℕ) → IsBytes bs → AgreesWhole r (cache_says bs)
    → IfOk r (λ es. IsCacheText (map offered es.items) bs)
decoded_text (Ok es) bs fits h = cache_text bs (map offered es.items) fits h
decoded_text (Err e) bs fits h = tt

-- what is refused is the text of no cache file
pub refused_none : (r : Result (Vec Offer Global) CacheFault) (bs : List ℕ) → AgreesWhole r (cache_says bs) → Refuses r → (other : List Offered)
    → ¬ (IsCacheText other bs)
refused_none (Ok es) bs h x m t = x
refused_none (Err OutOfMemory) bs h x m t = x
refused_none (Err Short) bs h x m t = absurd (cc (read_again m bs t, h))
refused_none (Err Magic) bs h x m t = absurd (cc (read_again m bs t, h))
refused_none (Err Version) bs h x m t = absurd (cc (read_again m bs t, h))
refused_none (Err Digest) bs h x m t = absurd (cc (read_again m bs t, h))
refused_none (Err Count) bs h x m t = absurd (cc (read_again m bs t, h))
refused_none (Err (Entry at)) bs h x m t = absurd (cc (read_again m bs t, h))
refused_none (Err Rest) bs h x m t = absurd (cc (read_again m bs t, h))

-- the entries that are answered are the only ones with this text
pub only_one : (r : Result (Vec Offer Global) CacheFault) (bs : List ℕ) → AgreesWhole r (cache_says bs)
    → IfOk r (λ es. (other : List Offered) → IsCacheText other bs → other ≡ map offered es.items)
only_one (Ok es) bs h = λ other t. cc (read_again other bs t, h)
only_one (Err e) bs h = tt

pub decoded_count : (r : Result (Vec Offer Global) CacheFault) (bs : List ℕ) → IsBytes bs → AgreesWhole r (cache_says bs)
    → IfOk r (λ es. IsCount (length es.items))
decoded_count (Ok es) bs fits h = subst IsCount (length-map es.items offered) (cache_text bs (map offered es.items) fits h).count
decoded_count (Err e) bs fits h = tt

pub decoded_kept : (r : Result (Vec Offer Global) CacheFault) (bs : List ℕ) → IsBytes bs → AgreesWhole r (cache_says bs)
    → IfOk r (λ es. All IsKeptOffer es.items)
decoded_kept (Ok es) bs fits h = entries_kept es.items (cache_text bs (map offered es.items) fits h).each
decoded_kept (Err e) bs fits h = tt
