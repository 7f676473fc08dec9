-- An entry: what is read is what was written, and what was written is read again.
use Rattle.std.proofs.Common.{◌≡◌, ℕ, ◌<◌, ◌^◌, List, [], ◌∷◌, ◌++◌, length, Ok, refl, sym, ap, subst, ◌∙◌, append_assoc, append-nil}
use Rattle.std.specs.List.{flat_map}
use Rattle.std.specs.Str.{bytes_eq}
use Rattle.std.proofs.lemmas.Slice.Eq.{bytes_eq-Decides}
use Rattle.sha2.specs.Sha256.{sha256}
use Rattle.pie_value.specs.Canonical.{counted}
use Rattle.pie_value.specs.Reading.{counted_of}
use Rattle.pie_value.proofs.Taking.{IsBytes, Takes, Takes-then, counted_takes, counted_again}
use Rattle.pie_record.specs.declared.record_fault.RecordFault.TheVariants.{BadValue}
use Rattle.pie_record.specs.declared.task_record.TaskRecord.{TaskRecord}
use Rattle.pie_record.specs.Canonical.{enc_record}
use Rattle.pie_record.specs.Reading.{Parsed, then_on, counted_at, record_at}
use Rattle.pie_record.proofs.RecordCodec.{record_codec}
use Rattle.pie_record.proofs.Steps.{pair, then_ok, same_value, same_rest, told_ok, told_on, guard_ok, guard_on, Codec, step}
use Rattle.pie_store.specs.inner.Offers.{Offered}
use Rattle.pie_cache.specs.inner.Texts.{enc_entry, AreContents, IsEntry}
use Rattle.pie_cache.specs.inner.Reading.{hashed, content_at, contents_at, entry_part}

-- ---- contents

abbrev IsContent : List ℕ → List ℕ → Type 0
IsContent hash c = (sha256 c ≡ hash) × (length c < 2 ^ 32)

content_taken : (hash bs c rest : List ℕ) → IsBytes bs → content_at hash bs ≡ Ok (c, rest) → Takes bs (counted c) rest × IsContent hash c
unfolding content_at
content_taken hash bs c rest fits e =
    let h = then_ok (counted_at bs) (hashed hash) c rest e in
    let g = guard_ok (bytes_eq (sha256 h.0) hash) h.0 h.1 BadValue c rest h.3 in
    let q = counted_takes bs h.0 h.1 fits (told_ok (counted_of bs) h.0 h.1 h.2) in (
      subst (λ (x : List ℕ). Takes bs (counted x) rest) g.1 (subst (Takes bs (counted h.0)) g.2 q.0),
      subst (IsContent hash) g.1 ((bytes_eq-Decides (sha256 h.0) hash).0 g.0, q.1),
    )

content_again : (hash c rest : List ℕ) → IsContent hash c → content_at hash (counted c ++ rest) ≡ Ok (c, rest)
unfolding content_at
content_again hash c rest f =
    ap (λ (p : Parsed (List ℕ)). then_on p (hashed hash)) (told_on (counted_of (counted c ++ rest)) c rest (counted_again c rest f.1))
    ∙ guard_on (bytes_eq (sha256 c) hash) c rest BadValue ((bytes_eq-Decides (sha256 c) hash).1 f.0)

content_codec : (hash : List ℕ) → Codec (content_at hash) counted (IsContent hash)
content_codec hash = record { taken = content_taken hash; again = content_again hash }

-- contents that were read after some
record ReadsContents (writes : List (List ℕ × List ℕ)) (bs : List ℕ) (cs all : List (List ℕ)) (rest : List ℕ) : Type 0 where
  more : List (List ℕ)
  is : all ≡ cs ++ more
  takes : Takes bs (flat_map counted more) rest
  are : AreContents writes more

contents_taken : (writes : List (List ℕ × List ℕ)) (cs : List (List ℕ)) (bs : List ℕ) (all : List (List ℕ)) (rest : List ℕ) → IsBytes bs
    → contents_at writes cs bs ≡ Ok (all, rest) → ReadsContents writes bs cs all rest
contents_taken [] cs bs all rest fits e = record {
  more = [];
  is = sym (same_value cs all bs rest e) ∙ sym (append-nil cs);
  takes = record { parts = same_rest cs all bs rest e; rest_fits = subst IsBytes (same_rest cs all bs rest e) fits };
  are = tt;
}
contents_taken (w ∷ writes) cs bs all rest fits e =
    let h = then_ok (content_at w.1 bs) (λ c after. contents_at writes (cs ++ c ∷ []) after) all rest e in
    let p = content_taken w.1 bs h.0 h.1 fits h.2 in
    let q = contents_taken writes (cs ++ h.0 ∷ []) h.1 all rest p.0.rest_fits h.3 in
    record {
      more = h.0 ∷ q.more;
      is = q.is ∙ append_assoc cs (h.0 ∷ []) q.more;
      takes = Takes-then bs (counted h.0) h.1 (flat_map counted q.more) rest p.0 q.takes;
      are = (p.1.0, p.1.1, q.are);
    }

contents_again : (writes : List (List ℕ × List ℕ)) (more cs : List (List ℕ)) (rest : List ℕ) → AreContents writes more
    → contents_at writes cs (flat_map counted more ++ rest) ≡ Ok (cs ++ more, rest)
contents_again [] [] cs rest h = ap (λ (all : List (List ℕ)). pair all rest) (sym (append-nil cs))
contents_again [] (c ∷ more) cs rest h = absurd h
contents_again (w ∷ writes) [] cs rest h = absurd h
contents_again (w ∷ writes) (c ∷ more) cs rest h =
    step (content_codec w.1) (λ d after. contents_at writes (cs ++ d ∷ []) after) c (flat_map counted more) rest (cs ++ c ∷ more) (h.0, h.1)
    (contents_again writes more (cs ++ c ∷ []) rest h.2 ∙ ap (λ (all : List (List ℕ)). pair all rest) (append_assoc cs (c ∷ []) more))

-- ---- entries

with_row : TaskRecord → List (List ℕ) → List ℕ → Parsed Offered
with_row row contents rest = pair (row, contents) rest

after_row : TaskRecord → List ℕ → Parsed Offered
unfolding with_row
after_row row bs = then_on (contents_at row.writes [] bs) (with_row row)

entry_taken : (bs : List ℕ) (e : Offered) (rest : List ℕ) → IsBytes bs → entry_part bs ≡ Ok (e, rest) → Takes bs (enc_entry e) rest × IsEntry e
unfolding entry_part enc_entry after_row with_row
entry_taken bs e rest fits eq =
    let h = then_ok (record_at bs) after_row e rest eq in
    let p = record_codec.taken bs h.0 h.1 fits h.2 in
    let i = then_ok (contents_at h.0.writes [] h.1) (with_row h.0) e rest h.3 in
    let q = contents_taken h.0.writes [] h.1 i.0 i.1 p.0.rest_fits i.2 in
    let made : Offered = (h.0, q.more) in
    let same : made ≡ e = ap (λ (cs : List (List ℕ)). (h.0, cs)) (sym q.is) ∙ same_value (h.0, i.0) e i.1 rest i.3 in
    let left : i.1 ≡ rest = same_rest (h.0, i.0) e i.1 rest i.3 in
    subst (λ (x : Offered). Takes bs (enc_entry x) rest × IsEntry x) same (
      subst (Takes bs (enc_entry made)) left (Takes-then bs (enc_record h.0) h.1 (flat_map counted q.more) i.1 p.0 q.takes),
      (record { storable = p.1.0; parts = p.1.1; bytes = refl }, q.are),
    )

entry_again : (e : Offered) (rest : List ℕ) → IsEntry e → entry_part (enc_entry e ++ rest) ≡ Ok (e, rest)
unfolding entry_part enc_entry after_row with_row
entry_again e rest h =
    step record_codec after_row e.0 (flat_map counted e.1) rest e (h.0.storable, h.0.parts)
    (ap (λ (p : Parsed (List (List ℕ))). then_on p (with_row e.0)) (contents_again e.0.writes e.1 [] rest h.1))

pub entry_codec : Codec entry_part enc_entry IsEntry
entry_codec = record { taken = entry_taken; again = entry_again }
