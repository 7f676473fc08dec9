-- Records: what is read is what was written, and what was written is read again.
use Rattle.std.proofs.Common.{◌≡◌, ℕ, zero, suc, ◌-◌, ◌^◌, ◌<◌, ◌≤◌, List, [], ◌∷◌, ◌++◌, length, take, drop, Result, Ok, Err, IfOk, refl, sym, ap, subst, ◌∙◌}
use Rattle.std.proofs.Common.{append_assoc, append-nil, arith}
use Rattle.std.specs.Prelude.{All}
use Rattle.std.specs.List.{flat_map}
use Rattle.std.proofs.lemmas.List.{take-append-drop}
use Rattle.std.proofs.lemmas.List.Elements.{All-nil, All-cons, All-head, All-tail}
use Rattle.pie_value.specs.declared.task.Task.{Task}
use Rattle.pie_value.specs.declared.value.Value.{Value}
use Rattle.pie_value.specs.Canonical.{be32, enc_task}
use Rattle.pie_value.proofs.Taking.{IsBytes, Takes, Takes-then}
use Rattle.pie_value.proofs.Decoded.{left_after, taken_before}
use Rattle.pie_record.specs.declared.dep.Dep.{Dep}
use Rattle.pie_record.specs.declared.task_record.Outcome.TheVariants.{Done as Gave, Failed, Cycled}
use Rattle.pie_record.specs.declared.task_record.TaskRecord.{TaskRecord}
use Rattle.pie_record.specs.declared.record_fault.RecordFault.{RecordFault}
use Rattle.pie_record.specs.declared.record_fault.RecordFault.TheVariants.{Short, BadTag, BadPath, BadValue, OutOfMemory}
use Rattle.pie_record.specs.Canonical.{enc_dep, enc_write, listed, enc_record, IsStorableDep, IsStorableWrite, IsStorableOutcome, IsStorable}
use Rattle.pie_record.specs.Canonical.{IsTrueDep, IsTrueWrite, IsTrueRecord, IsCanonicalRecord}
use Rattle.pie_record.specs.Reading.{Parsed, then_on, number_at, task_at, value_at, dep_at, write_at, many_at, list_at, record_at}
use Rattle.pie_record.specs.inner.Agreement.{RowAgreesOnPrefix, Refuses}
use Rattle.pie_record.proofs.Steps.{pair, same_value, same_rest, then_ok, Codec, step, last, last_ok}
use Rattle.pie_record.proofs.Codecs.{number_codec, task_codec, value_codec, value_bytes}
use Rattle.pie_record.proofs.DepCodec.{dep_codec, write_codec}

-- ---- things behind their number

-- so many things more
record ReadsMore {A : Type 0} (bytes : A → List ℕ) (Fits : A → Type 0) (n : ℕ) (bs : List ℕ) (xs ys : List A) (rest : List ℕ) : Type 0 where
  more : List A
  is : ys ≡ xs ++ more
  count : length more ≡ n
  takes : Takes bs (flat_map bytes more) rest
  fit : All Fits more

many_taken : {A : Type 0} {one : List ℕ → Parsed A} {bytes : A → List ℕ} {Fits : A → Type 0} → Codec one bytes Fits
    → (n : ℕ) (xs : List A) (bs : List ℕ) (ys : List A) (rest : List ℕ) → IsBytes bs → many_at one n xs bs ≡ Ok (ys, rest)
    → ReadsMore bytes Fits n bs xs ys rest
many_taken {A} {one} {bytes} {Fits} c zero xs bs ys rest fits e = record {
  more = [];
  is = sym (same_value xs ys bs rest e) ∙ sym (append-nil xs);
  count = refl;
  takes = record { parts = same_rest xs ys bs rest e; rest_fits = subst IsBytes (same_rest xs ys bs rest e) fits };
  fit = All-nil Fits;
}
many_taken {A} {one} {bytes} {Fits} c (suc n) xs bs ys rest fits e =
    let h = then_ok (one bs) (λ x after. many_at one n (xs ++ x ∷ []) after) ys rest e in
    let p = c.taken bs h.0 h.1 fits h.2 in
    let q = many_taken c n (xs ++ h.0 ∷ []) h.1 ys rest p.0.rest_fits h.3 in
    record {
      more = h.0 ∷ q.more;
      is = q.is ∙ append_assoc xs (h.0 ∷ []) q.more;
      count = omega (arith, q.count);
      takes = Takes-then bs (bytes h.0) h.1 (flat_map bytes q.more) rest p.0 q.takes;
      fit = All-cons Fits h.0 q.more p.1 q.fit;
    }

many_again : {A : Type 0} {one : List ℕ → Parsed A} {bytes : A → List ℕ} {Fits : A → Type 0} → Codec one bytes Fits
    → (more xs : List A) (rest : List ℕ) → All Fits more → many_at one (length more) xs (flat_map bytes more ++ rest) ≡ Ok (xs ++ more, rest)
many_again {A} c [] xs rest h = ap (λ (ys : List A). pair ys rest) (sym (append-nil xs))
many_again {A} {one} {bytes} {Fits} c (x ∷ more) xs rest h =
    step c (λ y after. many_at one (length more) (xs ++ y ∷ []) after) x (flat_map bytes more) rest (xs ++ x ∷ more) (All-head Fits x more h)
    (many_again c more (xs ++ x ∷ []) rest (All-tail Fits x more h) ∙ ap (λ (ys : List A). pair ys rest) (append_assoc xs (x ∷ []) more))

abbrev FitsAll : {A : Type 0} → (A → Type 0) → List A → Type 0
FitsAll Fits xs = (length xs < 2 ^ 32) × All Fits xs

list_taken : {A : Type 0} {one : List ℕ → Parsed A} {bytes : A → List ℕ} {Fits : A → Type 0} → Codec one bytes Fits
    → (bs : List ℕ) (xs : List A) (rest : List ℕ) → IsBytes bs → list_at one bs ≡ Ok (xs, rest) → Takes bs (listed bytes xs) rest × FitsAll Fits xs
list_taken {A} {one} {bytes} {Fits} c bs xs rest fits e =
    let h = then_ok (number_at bs) (λ n after. many_at one n [] after) xs rest e in
    let p = number_codec.taken bs h.0 h.1 fits h.2 in
    let q = many_taken c h.0 [] h.1 xs rest p.0.rest_fits h.3 in
    let made : Takes bs (listed bytes q.more) rest × FitsAll Fits q.more = (
      Takes-then bs (be32 (length q.more)) h.1 (flat_map bytes q.more) rest (subst (λ (n : ℕ). Takes bs (be32 n) h.1) (sym q.count) p.0) q.takes,
      (subst (λ (n : ℕ). n < 2 ^ 32) (sym q.count) p.1, q.fit),
    ) in
    subst (λ (ys : List A). Takes bs (listed bytes ys) rest × FitsAll Fits ys) (sym q.is) made

list_again : {A : Type 0} {one : List ℕ → Parsed A} {bytes : A → List ℕ} {Fits : A → Type 0} → Codec one bytes Fits
    → (xs : List A) (rest : List ℕ) → FitsAll Fits xs → list_at one (listed bytes xs ++ rest) ≡ Ok (xs, rest)
list_again {A} {one} {bytes} {Fits} c xs rest h =
    step number_codec (λ n after. many_at one n [] after) (length xs) (flat_map bytes xs) rest xs h.0 (many_again c xs [] rest h.1)

pub list_codec : {A : Type 0} {one : List ℕ → Parsed A} {bytes : A → List ℕ} {Fits : A → Type 0} → Codec one bytes Fits
    → Codec (list_at one) (listed bytes) (FitsAll Fits)
list_codec c = record { taken = list_taken c; again = list_again c }

-- ---- records

abbrev pub FitsRecord : TaskRecord → Type 0
FitsRecord r = IsStorable r × IsTrueRecord r

abbrev made : Task → List Dep → List (List ℕ × List ℕ) → Value → TaskRecord
made t ds ws v = record { task = t; deps = ds; writes = ws; outcome = Gave v }

abbrev after_writes : Task → List Dep → List (List ℕ × List ℕ) → List ℕ → Parsed TaskRecord
after_writes t ds ws bs = then_on (value_at bs) (λ v rest. pair (made t ds ws v) rest)

abbrev after_deps : Task → List Dep → List ℕ → Parsed TaskRecord
after_deps t ds bs = then_on (list_at write_at bs) (after_writes t ds)

abbrev after_task : Task → List ℕ → Parsed TaskRecord
after_task t bs = then_on (list_at dep_at bs) (after_deps t)

-- facts on pairs, apart
firsts : {A : Type 0} (P Q : A → Type 0) (xs : List A) → All (λ x. P x × Q x) xs → All P xs
firsts P Q xs h k d lt = (h k d lt).0

seconds : {A : Type 0} (P Q : A → Type 0) (xs : List A) → All (λ x. P x × Q x) xs → All Q xs
seconds P Q xs h k d lt = (h k d lt).1

both : {A : Type 0} (P Q : A → Type 0) (xs : List A) → All P xs → All Q xs → All (λ x. P x × Q x) xs
both P Q xs h j k d lt = (h k d lt, j k d lt)

record_taken : (bs : List ℕ) (r : TaskRecord) (rest : List ℕ) → IsBytes bs → record_at bs ≡ Ok (r, rest) → Takes bs (enc_record r) rest × FitsRecord r
record_taken bs r rest fits e =
    let h = then_ok (task_at bs) after_task r rest e in
    let p = task_codec.taken bs h.0 h.1 fits h.2 in
    let i = then_ok (list_at dep_at h.1) (after_deps h.0) r rest h.3 in
    let q = (list_codec dep_codec).taken h.1 i.0 i.1 p.0.rest_fits i.2 in
    let j = then_ok (list_at write_at i.1) (after_writes h.0 i.0) r rest i.3 in
    let s = (list_codec write_codec).taken i.1 j.0 j.1 q.0.rest_fits j.2 in
    let l = last_ok value_codec (made h.0 i.0 j.0) j.1 r rest s.0.rest_fits j.3 in
    let u : TaskRecord = made h.0 i.0 j.0 l.0 in
    let takes : Takes bs (enc_record u) rest =
    Takes-then bs (enc_task h.0) h.1 (listed enc_dep i.0 ++ (listed enc_write j.0 ++ value_bytes l.0)) rest p.0
    (Takes-then h.1 (listed enc_dep i.0) i.1 (listed enc_write j.0 ++ value_bytes l.0) rest q.0
    (Takes-then i.1 (listed enc_write j.0) j.1 (value_bytes l.0) rest s.0 l.2)) in
    let fit : FitsRecord u = (
      record {
        task = p.1.0;
        few_deps = q.1.0;
        deps = firsts IsStorableDep IsTrueDep i.0 q.1.1;
        few_writes = s.1.0;
        writes = firsts IsStorableWrite IsTrueWrite j.0 s.1.1;
        outcome = l.3.0;
      },
      record {
        task = p.1.1;
        deps = seconds IsStorableDep IsTrueDep i.0 q.1.1;
        writes = seconds IsStorableWrite IsTrueWrite j.0 s.1.1;
        outcome = l.3.1;
      },
    ) in
    subst (λ (x : TaskRecord). Takes bs (enc_record x) rest × FitsRecord x) l.1 (takes, fit)

again_as : (r : TaskRecord) (v : Value) (rest : List ℕ) → r.outcome ≡ Gave v → FitsRecord r → record_at (enc_record r ++ rest) ≡ Ok (r, rest)
again_as r v rest e h =
    let output = value_bytes v in
    let u : TaskRecord = made r.task r.deps r.writes v in
    let same : u ≡ r = λ i. record { task = r.task; deps = r.deps; writes = r.writes; outcome = sym e i } in
    let k : FitsRecord u = subst FitsRecord (sym same) h in
    subst (λ (x : TaskRecord). record_at (enc_record x ++ rest) ≡ Ok (x, rest)) same
    (step task_codec after_task r.task (listed enc_dep r.deps ++ (listed enc_write r.writes ++ output)) rest u (k.0.task, k.1.task)
    (step (list_codec dep_codec) (after_deps r.task) r.deps (listed enc_write r.writes ++ output) rest u
    (k.0.few_deps, both IsStorableDep IsTrueDep r.deps k.0.deps k.1.deps)
    (step (list_codec write_codec) (after_writes r.task r.deps) r.writes output rest u
    (k.0.few_writes, both IsStorableWrite IsTrueWrite r.writes k.0.writes k.1.writes)
    (last value_codec (made r.task r.deps r.writes) v rest (k.0.outcome, k.1.outcome)))))

record_again : (r : TaskRecord) (rest : List ℕ) → FitsRecord r → record_at (enc_record r ++ rest) ≡ Ok (r, rest)
record_again r rest h =
    elim r.outcome as (λ o. r.outcome ≡ o → record_at (enc_record r ++ rest) ≡ Ok (r, rest)) [
      | Gave v ↦ λ e. again_as r v rest e h
      | Failed f ↦ λ e. absurd (subst IsStorableOutcome e h.0.outcome)
      | Cycled ts ↦ λ e. absurd (subst IsStorableOutcome e h.0.outcome)
    ] refl

pub record_codec : Codec record_at enc_record FitsRecord
record_codec = record { taken = record_taken; again = record_again }

-- ---- what the answers of the program say

canonical : (r : TaskRecord) (bs : List ℕ) → FitsRecord r → bs ≡ enc_record r → IsCanonicalRecord r bs
canonical r bs h e = record { storable = h.0; parts = h.1; bytes = e }

pub canonical_again : (r : TaskRecord) (bs rest : List ℕ) → IsCanonicalRecord r bs → record_at (bs ++ rest) ≡ Ok (r, rest)
canonical_again r bs rest c = ap (λ (x : List ℕ). record_at (x ++ rest)) c.bytes ∙ record_again r rest (c.storable, c.parts)

pub record_counted : (bs : List ℕ) (r : TaskRecord) (rest : List ℕ) (n : ℕ) → IsBytes bs → record_at bs ≡ Ok (r, rest)
    → n ≡ length bs - length rest → (record_at bs ≡ Ok (r, drop n bs)) × (n ≤ length bs)
record_counted bs r rest n fits e h =
    let t = (record_taken bs r rest fits e).0 in
    let k : drop n bs ≡ rest = ap (λ (m : ℕ). drop m bs) h ∙ left_after bs (enc_record r) rest t in
    (e ∙ ap (λ (x : List ℕ). pair r x) (sym k), omega arith)

pub record_is_canonical : (r : Result (TaskRecord × ℕ) RecordFault) (bs : List ℕ) → IsBytes bs → RowAgreesOnPrefix (λ x. x) r bs (record_at bs)
    → IfOk r (λ found. IsCanonicalRecord found.0 (take found.1 bs))
record_is_canonical (Ok a) bs fits e =
    let p = record_taken bs a.0 (drop a.1 bs) fits e.0 in
    canonical a.0 (take a.1 bs) p.1 (taken_before bs (enc_record a.0) (drop a.1 bs) a.1 p.0 refl e.1)
record_is_canonical (Err e) bs fits h = tt

-- an answer that refuses is that of the definition
refusal_is : (r : Result (TaskRecord × ℕ) RecordFault) (bs : List ℕ) (b : TaskRecord × List ℕ) → RowAgreesOnPrefix (λ x. x) r bs (record_at bs)
    → Refuses r → record_at bs ≡ Ok b → ⊥
refusal_is (Ok a) bs b h n e = n
refusal_is (Err Short) bs b h n e = absurd (cc)
refusal_is (Err BadTag) bs b h n e = absurd (cc)
refusal_is (Err BadPath) bs b h n e = absurd (cc)
refusal_is (Err BadValue) bs b h n e = absurd (cc)
refusal_is (Err OutOfMemory) bs b h n e = n

pub record_is_refused : (r : Result (TaskRecord × ℕ) RecordFault) (bs : List ℕ) → RowAgreesOnPrefix (λ x. x) r bs (record_at bs) → Refuses r
    → (t : TaskRecord) (n : ℕ) → ¬ (IsCanonicalRecord t (take n bs))
record_is_refused r bs h x t n c =
    refusal_is r bs (t, drop n bs) h x (ap record_at (sym (take-append-drop n bs)) ∙ canonical_again t (take n bs) (drop n bs) c)
