-- Entries one after another: what is read is what was written, and what was written is read again.
use Rattle.std.proofs.Common.{◌≡◌, ℕ, zero, suc, ◌+◌, ◌-◌, ◌<◌, List, [], ◌∷◌, ◌++◌, length, Ok, Err, refl, sym, ap, subst, ◌∙◌, append_assoc, append-nil, arith, inl, inr}
use Rattle.std.specs.Prelude.{All, ◌⊎◌}
use Rattle.std.specs.List.{flat_map}
use Rattle.std.proofs.lemmas.List.Elements.{All-nil, All-cons, All-head, All-tail}
use Rattle.pie_value.proofs.Taking.{IsBytes, Takes, Takes-then}
use Rattle.pie_record.specs.Reading.{Parsed as Part}
use Rattle.pie_store.specs.inner.Offers.{Offered}
use Rattle.pie_cache.specs.declared.cache_fault.CacheFault.{CacheFault}
use Rattle.pie_cache.specs.declared.cache_fault.CacheFault.TheVariants.{Entry}
use Rattle.pie_cache.specs.inner.Texts.{enc_entry, IsEntry}
use Rattle.pie_cache.specs.inner.Faults.{NoneInFront}
use Rattle.pie_cache.specs.inner.Reading.{Parsed, then_on, placed, part_at, entry_part, some_at}
use Rattle.pie_cache.proofs.Parts.{entry_codec}
use Rattle.pie_cache.proofs.Steps.{same_value, same_rest, then_ok, then_err, placed_ok, Named, placed_err}

module _ (end : ℕ) where
  -- ---- what was read

  pub record ReadsMore (n : ℕ) (bs : List ℕ) (xs ys : List Offered) (rest : List ℕ) : Type 0 where
    pub more : List Offered
    pub is : ys ≡ xs ++ more
    pub count : length more ≡ n
    pub takes : Takes bs (flat_map enc_entry more) rest
    pub fit : All IsEntry more

  pub some_taken : (n : ℕ) (xs : List Offered) (bs : List ℕ) (ys : List Offered) (rest : List ℕ) → IsBytes bs → some_at end n xs bs ≡ Ok (ys, rest)
      → ReadsMore n bs xs ys rest
  some_taken zero xs bs ys rest fits e = record {
    more = [];
    is = sym (same_value xs ys bs rest e) ∙ sym (append-nil xs);
    count = refl;
    takes = record { parts = same_rest xs ys bs rest e; rest_fits = subst IsBytes (same_rest xs ys bs rest e) fits };
    fit = All-nil IsEntry;
  }
  some_taken (suc n) xs bs ys rest fits e =
      let h = then_ok (part_at end entry_part bs) (λ x after. some_at end n (xs ++ x ∷ []) after) ys rest e in
      let p = entry_codec.taken bs h.0 h.1 fits (placed_ok (end - length bs) (entry_part bs) h.0 h.1 h.2) in
      let q = some_taken n (xs ++ h.0 ∷ []) h.1 ys rest p.0.rest_fits h.3 in
      record {
        more = h.0 ∷ q.more;
        is = q.is ∙ append_assoc xs (h.0 ∷ []) q.more;
        count = omega (arith, q.count);
        takes = Takes-then bs (enc_entry h.0) h.1 (flat_map enc_entry q.more) rest p.0 q.takes;
        fit = All-cons IsEntry h.0 q.more p.1 q.fit;
      }

  -- ---- what is read again

  pub entry_on : (x : Offered) (tail : List ℕ) → IsEntry x → part_at end entry_part (enc_entry x ++ tail) ≡ Ok (x, tail)
  entry_on x tail fit = ap (λ (p : Part Offered). placed (end - length (enc_entry x ++ tail)) p) (entry_codec.again x tail fit)

  -- entries in front, and then more
  pub some_more : (more xs : List Offered) (m : ℕ) (rest : List ℕ) → All IsEntry more
      → some_at end (length more + m) xs (flat_map enc_entry more ++ rest) ≡ some_at end m (xs ++ more) rest
  some_more [] xs m rest fit =
      let none : length {A = Offered} [] + m ≡ m = omega arith in
      ap (λ (n : ℕ). some_at end n xs rest) none ∙ ap (λ (l : List Offered). some_at end m l rest) (sym (append-nil xs))
  some_more (x ∷ more) xs m rest fit =
      let one : length (x ∷ more) + m ≡ suc (length more + m) = omega arith in
      ap (λ (n : ℕ). some_at end n xs (flat_map enc_entry (x ∷ more) ++ rest)) one
      ∙ ap (λ (bs : List ℕ). some_at end (suc (length more + m)) xs bs) (append_assoc (enc_entry x) (flat_map enc_entry more) rest)
      ∙ ap (λ (p : Parsed Offered). then_on p (λ y after. some_at end (length more + m) (xs ++ y ∷ []) after))
      (entry_on x (flat_map enc_entry more ++ rest) (All-head IsEntry x more fit))
      ∙ some_more more (xs ++ x ∷ []) m rest (All-tail IsEntry x more fit)
      ∙ ap (λ (l : List Offered). some_at end m l rest) (append_assoc xs (x ∷ []) more)

  -- ---- what isn't read

  -- what can't be read has no entry in front
  none_in_front : (bs : List ℕ) (e : CacheFault) → Named e → part_at end entry_part bs ≡ Err e → (e ≡ Entry (end - length bs)) × NoneInFront bs
  none_in_front bs e n f =
      let h = placed_err (end - length bs) (entry_part bs) e n f in (
        h.0,
        λ x after fit same. let g = sym h.1.1 ∙ ap entry_part same ∙ entry_codec.again x after fit in absurd (cc (g)),
      )

  pub record SomeStop (n : ℕ) (bs : List ℕ) (e : CacheFault) : Type 0 where
    pub more : List Offered
    pub rest : List ℕ
    pub fewer : length more < n
    pub parts : bs ≡ flat_map enc_entry more ++ rest
    pub fit : All IsEntry more
    pub none : NoneInFront rest
    pub is : e ≡ Entry (end - length rest)

  pub some_stop : (n : ℕ) (xs : List Offered) (bs : List ℕ) (e : CacheFault) → IsBytes bs → Named e → some_at end n xs bs ≡ Err e → SomeStop n bs e
  some_stop zero xs bs e fits named f = absurd (cc)
  some_stop (suc n) xs bs e fits named f =
      by (then_err (part_at end entry_part bs) (λ x after. some_at end n (xs ++ x ∷ []) after) e f)
      (λ x mid g q.
      let t = entry_codec.taken bs x mid fits (placed_ok (end - length bs) (entry_part bs) x mid g) in
      some_stop n (xs ++ x ∷ []) mid e t.0.rest_fits named q)
    where
      Next : Type 0
      Next = (x : Offered) × (mid : List ℕ) × (part_at end entry_part bs ≡ Ok (x, mid)) × (some_at end n (xs ++ x ∷ []) mid ≡ Err e)

      by : (part_at end entry_part bs ≡ Err e) ⊎ Next
          → ((x : Offered) (mid : List ℕ) → part_at end entry_part bs ≡ Ok (x, mid) → some_at end n (xs ++ x ∷ []) mid ≡ Err e → SomeStop n mid e)
          → SomeStop (suc n) bs e
      by (inl g) again =
          let h = none_in_front bs e named g in
          record { more = []; rest = bs; fewer = omega arith; parts = refl; fit = All-nil IsEntry; none = h.1; is = h.0 }
      by (inr h) again =
          let q = again h.0 h.1 h.2 h.3 in
          let t = entry_codec.taken bs h.0 h.1 fits (placed_ok (end - length bs) (entry_part bs) h.0 h.1 h.2) in
          record {
            more = h.0 ∷ q.more;
            rest = q.rest;
            fewer = omega (arith, q.fewer);
            parts = t.0.parts ∙ ap (λ (l : List ℕ). enc_entry h.0 ++ l) q.parts ∙ sym (append_assoc (enc_entry h.0) (flat_map enc_entry q.more) q.rest);
            fit = All-cons IsEntry h.0 q.more t.1 q.fit;
            none = q.none;
            is = q.is;
          }
