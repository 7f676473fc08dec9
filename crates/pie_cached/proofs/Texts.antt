-- Bytes from which entries are read are the file of these entries.
use Rattle.std.proofs.Common.{◌≡◌, ◌∙◌, ℕ, ◌+◌, ◌<◌, Bool, true, false, cond, List, [], ◌∷◌, ◌++◌, length, append-nil}
use Rattle.std.proofs.Common.{Result, Ok, Err, refl, sym, ap, subst, inl, inr, arith}
use Rattle.std.specs.Prelude.{All, nat_lt}
use Rattle.std.specs.List.{flat_map}
use Rattle.std.proofs.lemmas.Bool.{cases_lt}
use Rattle.std.proofs.lemmas.List.{get_or_past}
use Rattle.std.proofs.lemmas.List.Elements.{All-nil, All-weaker}
use Rattle.sha2.specs.Sha256.{sha256}
use Rattle.pie_cache.proofs.Lists.{some_taken}
use Rattle.pie_cache.proofs.Steps.{pair}
use Rattle.pie_cache.proofs.Wholes.{count_is, frame_ok, framed_by, inside_bytes, says_inside}
use Rattle.pie_cache.specs.declared.cache_fault.CacheFault.{CacheFault}
use Rattle.pie_cache.specs.declared.cache_fault.CacheFault.TheVariants.{Count}
use Rattle.pie_cache.specs.inner.Frame.{framed}
use Rattle.pie_cache.specs.inner.Reading.{cache_says, closed, counted_says, is_count, on_body, some_at, then_closed, Parsed}
use Rattle.pie_cache.specs.inner.Stored.{or_none}
use Rattle.pie_cache.specs.inner.Texts.{enc_body, enc_entry, magic, AreContents, IsCount, IsEntry}
use Rattle.pie_value.proofs.Taking.{IsBytes}
use Rattle.pie_cached.specs.Honest.{entries_bytes, entry_bytes, Entry, HaveHashes, IsFileOf, IsNoFile, IsWholeEntry}

-- ---- the bytes of entries

same_bytes : (es : List Entry) → flat_map entry_bytes es ≡ flat_map enc_entry es
unfolding enc_entry
same_bytes [] = refl
same_bytes (e ∷ es) = ap (λ (t : List ℕ). entry_bytes e ++ t) (same_bytes es)

pub same_body : (es : List Entry) → entries_bytes es ≡ enc_body es
same_body es = ap (λ (t : List ℕ). magic ++ (1 ∷ (length es ∷ t))) (same_bytes es)

pub have_hashes : (writes : List (List ℕ × List ℕ)) (contents : List (List ℕ)) → AreContents writes contents → HaveHashes writes contents
have_hashes [] [] h = tt
have_hashes [] (c ∷ contents) h = absurd h
have_hashes (w ∷ writes) [] h = absurd h
have_hashes (w ∷ writes) (c ∷ contents) h = (h.0, h.1, have_hashes writes contents h.2)

-- ---- what is read

closed_ok : (entries : List Entry) (rest : List ℕ) (all : List Entry) → closed entries rest ≡ Ok all → (rest ≡ []) × (entries ≡ all)
closed_ok entries [] all e = (refl, cc)
closed_ok entries (b ∷ rest) all e = absurd (cc)

then_closed_ok : (p : Parsed (List Entry)) (all : List Entry) → then_closed p ≡ Ok all → p ≡ Ok (all, [])
then_closed_ok (Ok q) all e =
    let h = closed_ok q.0 q.1 all e in
    ap (λ (l : List ℕ). pair q.0 l) h.0 ∙ ap (λ (l : List Entry). pair l []) h.1
then_closed_ok (Err d) all e = absurd (cc)

-- these bytes behind the number are those of so many entries
record IsInside (n : ℕ) (inside : List ℕ) (entries : List Entry) : Type 0 where
  count : IsCount n
  number : length entries ≡ n
  fit : All IsEntry entries
  bytes : inside ≡ flat_map enc_entry entries

inside_of : (end n : ℕ) (inside : List ℕ) (entries : List Entry) → IsBytes inside → counted_says end n inside ≡ Ok entries → IsInside n inside entries
inside_of end n inside entries fits e = by (is_count n) refl e
  where
    by : (b : Bool) → is_count n ≡ b → cond b (then_closed (some_at end n [] inside)) (Err Count) ≡ Ok entries → IsInside n inside entries
    by false t f = absurd (cc)
    by true t f =
        let q = some_taken end n [] inside entries [] fits (then_closed_ok (some_at end n [] inside) entries f) in
        let made : IsInside n inside q.more = record {
          count = count_is n t;
          number = q.count;
          fit = q.fit;
          bytes = q.takes.parts ∙ append-nil (flat_map enc_entry q.more);
        } in
        subst (IsInside n inside) (sym q.is) made

on_body_ok : (r : Result (List ℕ) CacheFault) (all : List Entry) → on_body r ≡ Ok all → (body : List ℕ) × (r ≡ Ok body)
on_body_ok (Ok body) all e = (body, refl)
on_body_ok (Err d) all e = absurd (cc)

pub file_read : (bs : List ℕ) (es : List Entry) → IsBytes bs → cache_says bs ≡ Ok es → IsFileOf es bs
file_read bs es fits e =
    let h = on_body_ok (framed bs) es e in
    let f = frame_ok bs h.0 h.1 in
    let parts = framed_by bs h.0 f in
    let c = inside_of (6 + length f.inside) f.number f.inside es (inside_bytes bs f.number f.inside fits parts)
    (sym (says_inside bs f.number f.inside parts) ∙ e) in
    let body : magic ++ (1 ∷ (f.number ∷ f.inside)) ≡ enc_body es =
    ap (λ (n : ℕ). magic ++ (1 ∷ (n ∷ f.inside))) (sym c.number) ∙ ap (λ (t : List ℕ). magic ++ (1 ∷ (length es ∷ t))) c.bytes in
    let count = subst IsCount (sym c.number) c.count in
    record {
      some = count.0;
      few = count.1;
      each = All-weaker IsEntry IsWholeEntry (λ x w. (w.0, have_hashes x.0.writes x.1 w.1)) es c.fit;
      is = parts ∙ ap (λ (t : List ℕ). t ++ sha256 t) (body ∙ sym (same_body es));
    }

-- ---- bytes that are no file of entries

pub all_fit : (bs : List ℕ) → All (λ b. b < 256) bs → IsBytes bs
all_fit bs all i = elim (cases_lt i (length bs)) [
  | inl lt ↦ all i 0 lt
  | inr le ↦ rw (get_or_past bs i 0 le) (omega arith)
]

none_of : (P : Entry → Type 0) (b : Bool) (r : Result (List Entry) CacheFault) → ((es : List Entry) → r ≡ Ok es → ⊥) → All P (cond b [] (or_none r))
none_of P true r none = All-nil P
none_of P false (Ok es) none = absurd (none es refl)
none_of P false (Err e) none = All-nil P

-- no entries are read from them
pub none_read : (P : Entry → Type 0) (bs : List ℕ) → IsNoFile bs → All P (cond (nat_lt 16777216 (length bs)) [] (or_none (cache_says bs)))
none_read P bs other = none_of P (nat_lt 16777216 (length bs)) (cache_says bs) (λ es e. other.none es (file_read bs es (all_fit bs other.fit) e))
