-- An entry: what is read is what was written, and what was written is read again.
use Rattle.std.proofs.Common.{◌≡◌, ℕ, Bool, true, false, not, ◌&&◌, List, ◌++◌, Ok, refl, sym, ap, subst, ◌∙◌}
use Rattle.std.specs.Prelude.{◌==◌}
use Rattle.std.proofs.lemmas.Bool.{eqb-true, eq-eqb}
use Rattle.pie_base.specs.Path.{is_out}
use Rattle.pie_value.specs.Canonical.{counted}
use Rattle.pie_value.proofs.Taking.{IsBytes, Takes, Takes-then}
use Rattle.pie_record.specs.Canonical.{be64}
use Rattle.pie_record.specs.Reading.{Parsed as Part, then_on as then_part, bytes_at, path_at, mark_at}
use Rattle.pie_record.proofs.Steps.{Codec, step, then_ok as part_then, same_value as same_part, same_rest as same_left}
use Rattle.pie_record.proofs.Codecs.{bytes_codec, path_codec, mark_codec}
use Rattle.pie_scan.specs.declared.entry.Entry.{Entry}
use Rattle.pie_scan.specs.Texts.{enc_entry}
use Rattle.pie_scan.specs.inner.Faults.{FitsEntry}
use Rattle.pie_scan.specs.Reading.{marked, entry_part}

marked_ok : (bad : Bool) (e : Entry) (rest : List ℕ) (c : Entry) (after : List ℕ) → marked bad e rest ≡ Ok (c, after)
    → (bad ≡ false) × (e ≡ c) × (rest ≡ after)
marked_ok true e rest c after h = absurd (cc)
marked_ok false e rest c after h = (refl, same_part e c rest after h, same_left e c rest after h)

zero_mark : (o : Bool) (m : ℕ) → (o && not (m == 0)) ≡ false → o ≡ true → m ≡ 0
zero_mark o m h t = by (m == 0) refl (sym (ap (λ (b : Bool). b && not (m == 0)) t) ∙ h)
  where
    by : (b : Bool) → (m == 0) ≡ b → not b ≡ false → m ≡ 0
    by true e f = eqb-true m 0 e
    by false e f = absurd (cc)

good_mark : (o : Bool) (m : ℕ) → (o ≡ true → m ≡ 0) → (o && not (m == 0)) ≡ false
good_mark true m h = ap (λ (b : Bool). not b) (eq-eqb m 0 (h refl))
good_mark false m h = refl

after_mark : List ℕ → ℕ → List ℕ → Part Entry
after_mark path mark bs =
    then_part (bytes_at 32 bs) (λ hash rest. marked (is_out path && not (mark == 0)) (record { path = path; mark = mark; hash = hash }) rest)

after_path : List ℕ → List ℕ → Part Entry
unfolding after_mark
after_path path bs = then_part (mark_at bs) (λ mark rest. after_mark path mark rest)

entry_taken : (bs : List ℕ) (e : Entry) (rest : List ℕ) → IsBytes bs → entry_part bs ≡ Ok (e, rest) → Takes bs (enc_entry e) rest × FitsEntry e
unfolding entry_part enc_entry after_path after_mark
entry_taken bs e rest fits eq =
    let h = part_then (path_at bs) after_path e rest eq in
    let p = path_codec.taken bs h.0 h.1 fits h.2 in
    let i = part_then (mark_at h.1) (after_mark h.0) e rest h.3 in
    let q = mark_codec.taken h.1 i.0 i.1 p.0.rest_fits i.2 in
    let j = part_then (bytes_at 32 i.1)
    (λ hash left. marked (is_out h.0 && not (i.0 == 0)) (record { path = h.0; mark = i.0; hash = hash }) left) e rest i.3 in
    let r = (bytes_codec 32).taken i.1 j.0 j.1 q.0.rest_fits j.2 in
    let made : Entry = record { path = h.0; mark = i.0; hash = j.0 } in
    let k = marked_ok (is_out h.0 && not (i.0 == 0)) made j.1 e rest j.3 in
    subst (λ (x : Entry). Takes bs (enc_entry x) rest × FitsEntry x) k.1 (
      subst (Takes bs (enc_entry made)) k.2
          (Takes-then bs (counted h.0) h.1 (be64 i.0 ++ j.0) j.1 p.0 (Takes-then h.1 (be64 i.0) i.1 j.0 j.1 q.0 r.0)),
      ((p.1, q.1, r.1), zero_mark (is_out h.0) i.0 k.0),
    )

entry_again : (e : Entry) (rest : List ℕ) → FitsEntry e → entry_part (enc_entry e ++ rest) ≡ Ok (e, rest)
unfolding entry_part enc_entry after_path after_mark
entry_again e rest h =
    let last : after_mark e.path e.mark (e.hash ++ rest) ≡ Ok (e, rest) =
    ap (λ (p : Part (List ℕ)). then_part p (λ hash left. marked (is_out e.path && not (e.mark == 0)) (record { path = e.path; mark = e.mark; hash = hash }) left))
    ((bytes_codec 32).again e.hash rest h.0.2)
    ∙ ap (λ (b : Bool). marked b e rest) (good_mark (is_out e.path) e.mark h.1) in
    step path_codec after_path e.path (be64 e.mark ++ e.hash) rest e h.0.0 (step mark_codec (after_mark e.path) e.mark e.hash rest e h.0.1 last)

pub entry_codec : Codec entry_part enc_entry FitsEntry
entry_codec = record { taken = entry_taken; again = entry_again }
