-- The tasks of an earlier build can be walked over, and nothing was done yet.
use Rattle.std.proofs.Common.{◌≡◌, ◌⊎◌, ℕ, ◌<◌, ◌≤◌, Bool, true, false, List, [], ◌∷◌, Option, None, Some, cond, length, map, replicate, get_or, sym, ap, ◌∙◌, subst, refl, arith, inl, inr}
use Rattle.std.specs.Prelude.{slice_get, slice_index_or, IfSome, bytes_eq}
use Rattle.std.specs.List.{All, Contains}
use Rattle.std.proofs.lemmas.Bool.{cases_lt}
use Rattle.std.proofs.lemmas.List.{length-map, get_or-map, get_or_past, get_or-replicate, length-replicate}
use Rattle.std.proofs.lemmas.Option.{slice_get-get_or, slice_get_within, get_or_from_slice_get}
use Rattle.pie_graph.proofs.Among.{contains_here, contains_later}
use Rattle.pie_graph.specs.Numbers.{IsMarked}
use Rattle.pie_graph.specs.Rows.{row_at, Calls}
use Rattle.pie_value.specs.declared.task.Task.{Task}
use Rattle.pie_record.specs.Canonical.{IsStorable, IsStorableOutcome, IsTrueRecord}
use Rattle.pie_record.specs.declared.records.Records.{Records}
use Rattle.pie_record.specs.declared.task_record.Outcome.{Outcome}
use Rattle.pie_record.specs.declared.task_record.Outcome.TheVariants as ends
use Rattle.pie_record.specs.declared.task_record.TaskRecord.{TaskRecord}
use Rattle.pie_record.specs.inner.Records.{record_of}
use Rattle.pie_model.proofs.Basics.{same_bytes}
use Rattle.pie_store.specs.Canonical.{names_of}
use Rattle.pie_tables.specs.Tabled.{IsTables, IsRecordAt}
use Rattle.pie_walk.specs.declared.marks.Mark.TheVariants.{New}
use Rattle.pie_walk.specs.Marks.{mark_of}
use Rattle.pie_walk.specs.States.{at_start}
use Rattle.pie_old.specs.declared.old.Old.{Old}
use Rattle.pie_old.specs.inner.Code.{kept, digest_in, same_digest, is_same_code}
use Rattle.pie_old.specs.inner.Loaded.{IsOld}
use Rattle.pie_old.specs.inner.Looking.{looks_out}
use Rattle.pie_old.specs.inner.Rows.{IsRowOf}
use Rattle.pie_results.specs.inner.Failures.{is_done}
use Rattle.pie_compare_laws.proofs.Ways.{one_some}
use Rattle.pie_bottomup.specs.declared.plan.Plan.{Plan}
use Rattle.pie_bottomup.specs.inner.Recorded.{AreRecorded, HasValue, OutputsAreValues}
use Rattle.pie_bottomup.specs.inner.States.{HaveDigests, IsOldTask, MayBegin}

-- ---- old tasks

pub unflagged : (count n : ℕ) → slice_index_or (replicate count false) n false ≡ false
unflagged count n = by (cases_lt n count)
  where
    by : (n < count) ⊎ (count ≤ n) → slice_index_or (replicate count false) n false ≡ false
    by (inl l) = get_or-replicate count n false false l
    by (inr past) = get_or_past (replicate count false) n false (omega (arith, past, length-replicate count false))

none_flagged : (count n : ℕ) (flags : List Bool) → flags ≡ replicate count false → slice_index_or flags n false ≡ false
none_flagged count n flags same = ap (λ (bs : List Bool). slice_index_or bs n false) same ∙ unflagged count n

element : {X : Type 0} (xs : List X) (P : X → Type 0) (n : ℕ) → All P xs → n < length xs → (x : X) × (slice_get xs n ≡ Some x) × P x
element [] P n all l = absurd (omega (arith, l))
element (x ∷ xs) P n all l = (get_or (x ∷ xs) n x, slice_get-get_or (x ∷ xs) n x l, all n x l)

storable_done : (o : Outcome) → IsStorableOutcome o → is_done o ≡ true
storable_done (ends.Done v) is = refl
storable_done (ends.Failed fault) is = absurd is
storable_done (ends.Cycled tasks) is = absurd is

old_task : (records : List TaskRecord) (o : Old) → All IsStorable records → IsOld records o → (n : ℕ) → n < length o.rows
    → IsOldTask o.tables.names o.tables.records o.rows n
old_task records o storable is n l =
    let r = element records IsStorable n storable (omega (arith, l, is.rows.as_many)) in
    record {
      output = record { rec = r.0; kept = is.tables.records n ∙ r.1; done = storable_done r.0.outcome r.2.outcome };
      row = subst (λ (names : List Task). IsRowOf names r.0 (row_at o.rows n)) (sym is.tables.names) (is.rows.each n r.0 r.1);
    }

old_values : (records : List TaskRecord) (o : Old) → All IsTrueRecord records → IsOld records o → OutputsAreValues o.tables.records
old_values records o parts is n r kept =
    let at : slice_get records n ≡ Some r = sym (is.tables.records n) ∙ kept in
    let here = element records IsTrueRecord n parts (slice_get_within records n r at) in
    subst HasValue (one_some here.0 r (sym here.1 ∙ at)) here.2.outcome

pub old_begins : (records : List TaskRecord) (o : Old) → All IsStorable records → All IsTrueRecord records → IsOld records o → MayBegin o
old_begins records o storable parts is = record {
  tables = is.tables.tables;
  sized = ap length is.tables.names ∙ length-map records (λ (r : TaskRecord). r.task) ∙ sym is.rows.as_many;
  looks = ap length is.looks_out ∙ length-map records looks_out ∙ sym is.rows.as_many;
  earlier = is.earlier;
  each = old_task records o storable is;
  outputs = old_values records o parts is;
  rested = λ n. none_flagged (length records) n o.tables.ran.items is.tables.ran;
}

-- no old task
pub none_begins : (o : Old) (k : ℕ) → IsTables o.tables → o.tables.names ≡ [] → o.tables.ran.items ≡ replicate k false → o.rows ≡ [] → o.looks_out.items ≡ []
    → MayBegin o
none_begins o k tables names ran rows looks = record {
  tables = tables;
  sized = ap length names ∙ sym (ap length rows);
  looks = ap length looks ∙ sym (ap length rows);
  earlier = λ caller callee calls. absurd (let none = subst (λ rs. Calls rs caller callee) rows calls in omega (arith, none.1));
  each = λ n l. absurd (omega (arith, l, ap length rows));
  outputs = λ n r kept.
      let at : IsRecordAt o.tables.names n r = subst (λ x. IfSome x (IsRecordAt o.tables.names n)) kept (tables.records n) in
      absurd (omega (arith, slice_get_within o.tables.names n r.task at.named, ap length names));
  rested = λ n. none_flagged k n o.tables.ran.items ran;
}

-- ---- the beginning

pub start_fresh : (count n : ℕ) → mark_of (replicate count New) n ≡ New
start_fresh count n = same (cases_lt n count)
  where
    same : (n < count) ⊎ (count ≤ n) → mark_of (replicate count New) n ≡ New
    same (inl l) = get_or-replicate count n New New l
    same (inr past) = get_or_past (replicate count New) n New (omega (arith, past, length-replicate count New))

same_record : (records : Records) (n : ℕ) (r s : TaskRecord) → record_of records n ≡ Some r → record_of records n ≡ Some s → r ≡ s
same_record records n r s a b = ap (the r) (sym a ∙ b)
  where
    the : TaskRecord → Option TaskRecord → TaskRecord
    the d None = d
    the d (Some x) = x

pub start_recorded : (o : Old) → MayBegin o → AreRecorded o.tables.names o.tables.records (at_start o.rows o.looks_out.items)
start_recorded o begins = record {
  each = λ n l still. (let old = begins.each n l in (old.output.rec, old.output.kept));
  rows = λ n r is done free.
      let old = begins.each n (inside n r is) in
      subst (λ (x : TaskRecord). IsRowOf o.tables.names x (row_at o.rows n)) (same_record o.tables.records n old.output.rec r old.output.kept is) old.row;
  done = λ n k output still calls.
      let less : k < n = begins.earlier n k calls in
      (begins.each k (omega (arith, less, inside n output.rec output.kept))).output;
  outputs = begins.outputs;
}
  where
    inside : (n : ℕ) (r : TaskRecord) → record_of o.tables.records n ≡ Some r → n < length o.rows
    inside n r is =
        let at : IsRecordAt o.tables.names n r = subst (λ x. IfSome x (IsRecordAt o.tables.names n)) is (begins.tables.records n) in
        omega (arith, slice_get_within o.tables.names n r.task at.named, begins.sized)

-- ---- digests

kept_in : (bytes : List ℕ) (name : List ℕ) (digest d : List ℕ) (funcs : List (List ℕ × List ℕ)) → (b : Bool) → bytes_eq bytes name ≡ b
    → kept (cond b (Some digest) None) (digest_in funcs bytes) ≡ Some d → (bytes ≡ name) ⊎ (digest_in funcs bytes ≡ Some d)
kept_in bytes name digest d funcs true e is = inl (same_bytes bytes name e)
kept_in bytes name digest d funcs false e is = inr is

digest_named : (funcs : List (List ℕ × List ℕ)) (name d : List ℕ) → digest_in funcs name ≡ Some d → Contains (names_of funcs) name
digest_named [] name d e = absurd (cc)
digest_named (f ∷ funcs) name d e = elim (kept_in name f.0 f.1 d funcs (bytes_eq name f.0) refl e) [
  | inl same ↦ subst (Contains (names_of (f ∷ funcs))) (sym same) (contains_here f.0 (names_of funcs))
  | inr later ↦ contains_later f.0 name (names_of funcs) (digest_named funcs name d later)
]

same_named : (old now : List (List ℕ × List ℕ)) (name : List ℕ) → is_same_code old now name ≡ true → Contains (names_of now) name
same_named old now name is = by (digest_in old name) (digest_in now name) refl is
  where
    by : (a b : Option (List ℕ)) → digest_in now name ≡ b → same_digest a b ≡ true → Contains (names_of now) name
    by (Some x) (Some y) e same = digest_named now name y e
    by (Some x) None e same = absurd (let clash : false ≡ true = same in cc)
    by None b e same = absurd (let clash : false ≡ true = same in cc)

have_digests : (p : Plan) (old : List (List ℕ × List ℕ)) (names : List Task)
    → p.same.items ≡ map (λ (t : Task). is_same_code old p.digests.now t.func) names → HaveDigests p names
have_digests p old names same n t flag named =
    let l : n < length names = slice_get_within names n t named in
    let f : Task → Bool = λ (u : Task). is_same_code old p.digests.now u.func in
    let here : get_or (map f names) n false ≡ true = subst (λ (flags : List Bool). IsMarked flags n) same flag in
    let at : f (get_or names n t) ≡ get_or (map f names) n false =
    sym (get_or-map f names n t false (omega (arith, l, length-map names f))) in
    same_named old p.digests.now t.func (ap f (sym (get_or_from_slice_get names n t t named)) ∙ at ∙ here)

-- by the names as they were handed on
pub have_digests_of : (p : Plan) (old : List (List ℕ × List ℕ)) (names others : List Task) → others ≡ names
    → p.same.items ≡ map (λ (t : Task). is_same_code old p.digests.now t.func) others → HaveDigests p names
have_digests_of p old names others e same =
    have_digests p old names (same ∙ ap (map (λ (t : Task). is_same_code old p.digests.now t.func)) e)
