-- What the records say was written and found absent is what the evaluations wrote and found absent.
use Rattle.std.proofs.Common.{◌≡◌, ℕ, ◌<◌, Bool, true, false, cond, Option, Some, None, List, [], ◌∷◌, length, map, refl, sym, ap, subst, ◌∙◌}
use Rattle.std.specs.Prelude.{slice_get}
use Rattle.std.specs.List.{Contains, flat_map}
use Rattle.std.proofs.lemmas.Option.{slice_get_within, get_or_from_slice_get, slice_get_read}
use Rattle.std.proofs.lemmas.List.Elements.{All-contains}
use Rattle.pie_base.specs.Path.{is_out}
use Rattle.pie_value.specs.declared.task.Task.{Task}
use Rattle.pie_value.specs.declared.stamp.Stamp.{Stamp}
use Rattle.pie_value.specs.declared.stamp.Stamp.TheVariants.{Absent, Present, Hash, Mark, Whole, Done}
use Rattle.pie_value.specs.declared.verdict.Refusal.{Refusal}
use Rattle.pie_value.specs.Canonical.{enc_task, IsCanonicalTask}
use Rattle.pie_record.specs.declared.dep.Dep.{Dep}
use Rattle.pie_record.specs.declared.dep.DepKind.{DepKind}
use Rattle.pie_record.specs.declared.dep.DepKind.TheVariants as kinds
use Rattle.pie_record.specs.declared.dep.DepOn.{DepOn}
use Rattle.pie_record.specs.declared.dep.DepOn.TheVariants.{File, Called}
use Rattle.pie_record.specs.declared.records.Records.{Records}
use Rattle.pie_record.specs.declared.task_record.TaskRecord.{TaskRecord}
use Rattle.pie_record.specs.inner.Records.{record_of}
use Rattle.pie_checks.specs.Records.{looks_at_file, absent_at, missing_in, WritesAt, MissesAt, OfTask, Wrote, Missed}
use Rattle.pie_checks.specs.Refusals.{FindsFirst}
use Rattle.pie_model_pipeline.specs.Rows.{stamp_of, query_of, observation_of, record_of as record_in_model}
use Rattle.pie_model.specs.declared.words.Look.{Look}
use Rattle.pie_model.specs.declared.words.Look.TheVariants as looks
use Rattle.pie_model.specs.Trees.{Node, task_of, trace_of, outcome_of, is_done, writes_of}
use Rattle.pie_model.specs.Evaluation.{World, Project, evaluation}
use Rattle.pie_model.specs.Records.{Record, Looked, record_of as record_of_evaluation}
use Rattle.pie_model.specs.Verdict.{written_by, found_absent, missed_by, final_checks}
use Rattle.pie_model.proofs.Ways.{task_of-evaluation}
use Rattle.pie_model.proofs.LooksLemmas.{some_same}
use Rattle.pie_check_laws.specs.Verdicts.{evaluation_of, AreRecorded, verdict_by}
use Rattle.pie_check_laws.proofs.Members.{none_in, here, only_one, into_flat, from_flat, into_map, from_map}
use Rattle.pie_check_laws.proofs.Traces.{clear, absent_by, absent_in, absent_observed, hashed_is}
use Rattle.pie_check_laws.proofs.Places.{AreEntries, judged_by}
use Rattle.pie_check_laws.proofs.Found.{judged}

-- ---- one observation

-- a path, if there is one
abbrev if_one : Option (List ℕ) → List (List ℕ)
if_one None = []
if_one (Some p) = p ∷ []

out_only : (p : List ℕ) (b : Bool) → cond b (p ∷ []) [] ≡ if_one (cond b (Some p) None)
out_only p true = refl
out_only p false = refl

looked_absent : (l : Look) (p : List ℕ) (s : Stamp) → absent_by (Looked l p) (stamp_of s) ≡ if_one (absent_at true (File p) s)
looked_absent l p Absent = out_only p (is_out p)
looked_absent l p Present = refl
looked_absent l p (Hash h) = refl
looked_absent l p (Mark m) = refl
looked_absent l p (Whole v) = refl
looked_absent l p Done = refl

file_absent : (k : DepKind) (p : List ℕ) (s : Stamp) → absent_by (query_of k (File p)) (stamp_of s) ≡ if_one (absent_at (looks_at_file k) (File p) s)
file_absent kinds.Exists p s = looked_absent looks.Exists p s
file_absent kinds.ReadHash p s = looked_absent looks.ByHash p s
file_absent kinds.ReadMark p s = looked_absent looks.ByMark p s
file_absent kinds.Digest p s = looked_absent looks.Digest p s
file_absent kinds.List p s = refl
file_absent kinds.Require p s = refl
file_absent kinds.RequireHash p s = refl
file_absent kinds.Run p s = refl

called_absent : (b : Bool) (t : Task) (s : Stamp) → absent_at b (Called t) s ≡ None
called_absent true t s = refl
called_absent false t s = refl

absent_on : (k : DepKind) (what : DepOn) (s : Stamp) → absent_by (query_of k what) (stamp_of s) ≡ if_one (absent_at (looks_at_file k) what s)
absent_on k (File p) s = file_absent k p s
absent_on k (Called t) s = ap if_one (sym (called_absent (looks_at_file k) t s))

one_in : (o : Option (List ℕ)) (p : List ℕ) → Contains (if_one o) p → o ≡ Some p
one_in None p h = absurd (none_in p h)
one_in (Some q) p h = ap Some (only_one q p h)

-- what some observations found absent, one by one
absent_to : (deps : List Dep) (p : List ℕ) → Contains (flat_map absent_in (map observation_of deps)) p
    → (dep : Dep) × Contains deps dep × (missing_in dep ≡ Some p)
absent_to deps p h =
    let m = from_flat absent_in (map observation_of deps) p h in
    let n = from_map observation_of deps m.0 m.1 in (
      n.0,
      n.1,
      one_in (missing_in n.0) p (subst (λ xs. Contains xs p) (absent_on n.0.kind n.0.what n.0.stamp)
          (subst (λ z. Contains (absent_in z) p) (sym n.2) m.2)),
    )

absent_from : (deps : List Dep) (p : List ℕ) (dep : Dep) → Contains deps dep → missing_in dep ≡ Some p
    → Contains (flat_map absent_in (map observation_of deps)) p
absent_from deps p dep h e =
    into_flat absent_in (map observation_of deps) (observation_of dep) p (into_map observation_of deps dep h)
    (subst (λ xs. Contains xs p) (sym (absent_on dep.kind dep.what dep.stamp ∙ ap if_one e)) (here p []))

-- ---- one task

module _ (w : World) (P : Project) (t : Task) (rec : TaskRecord) (same : record_in_model rec ≡ record_of_evaluation w (evaluation_of w P t)) where
  wrote_same : rec.writes ≡ map (λ (x : List ℕ × List ℕ). (x.0, w.hash x.1)) (writes_of (trace_of (evaluation_of w P t)))
  wrote_same = ap (λ (r : Record). r.writes) same ∙ hashed_is w (writes_of (trace_of (evaluation_of w P t)))

  its_task : task_of (evaluation_of w P t) ≡ enc_task t
  its_task = task_of-evaluation w P (enc_task t)

  wrote_to : (p hash : List ℕ) → Contains rec.writes (p, hash) → Contains (written_by (evaluation_of w P t)) (p, enc_task t)
  wrote_to p hash h =
      let m = from_map (λ (x : List ℕ × List ℕ). (x.0, w.hash x.1)) (writes_of (trace_of (evaluation_of w P t))) (p, hash)
      (subst (λ xs. Contains xs (p, hash)) wrote_same h) in
      let e : m.0.0 ≡ p = ap (λ (z : List ℕ × List ℕ). z.0) m.2 in
      subst (λ (z : List ℕ × List ℕ). Contains (written_by (evaluation_of w P t)) z) (λ i. (e i, its_task i))
      (into_map (λ (x : List ℕ × List ℕ). (x.0, task_of (evaluation_of w P t))) (writes_of (trace_of (evaluation_of w P t))) m.0 m.1)

  wrote_back : (p u : List ℕ) → Contains (written_by (evaluation_of w P t)) (p, u) → (enc_task t ≡ u) × ((hash : List ℕ) × Contains rec.writes (p, hash))
  wrote_back p u h =
      let m = from_map (λ (x : List ℕ × List ℕ). (x.0, task_of (evaluation_of w P t))) (writes_of (trace_of (evaluation_of w P t))) (p, u) h in
      let e : m.0.0 ≡ p = ap (λ (z : List ℕ × List ℕ). z.0) m.2 in
      let f : task_of (evaluation_of w P t) ≡ u = ap (λ (z : List ℕ × List ℕ). z.1) m.2 in
      let k = into_map (λ (x : List ℕ × List ℕ). (x.0, w.hash x.1)) (writes_of (trace_of (evaluation_of w P t))) m.0 m.1 in (
        sym its_task ∙ f,
        (
          w.hash m.0.1,
          subst (λ (xs : List (List ℕ × List ℕ)). Contains xs (p, w.hash m.0.1)) (sym wrote_same)
              (subst (λ (z : List ℕ × List ℕ). Contains (map (λ (x : List ℕ × List ℕ). (x.0, w.hash x.1)) (writes_of (trace_of (evaluation_of w P t)))) z)
              (λ i. (e i, w.hash m.0.1)) k),
        ),
      )

  module _ (ended : is_done (outcome_of (evaluation_of w P t)) ≡ true) where
    absent_same : flat_map absent_in (map observation_of rec.deps) ≡ found_absent (trace_of (evaluation_of w P t))
    absent_same = ap (λ (r : Record). flat_map absent_in r.observations) same
        ∙ sym (absent_observed w (trace_of (evaluation_of w P t)) (clear w P (enc_task t) ended))

    missed_to : (p : List ℕ) (dep : Dep) → Contains rec.deps dep → missing_in dep ≡ Some p → Contains (missed_by (evaluation_of w P t)) (p, enc_task t)
    missed_to p dep h e =
        subst (λ z. Contains (missed_by (evaluation_of w P t)) (p, z)) its_task
        (into_map (λ (x : List ℕ). (x, task_of (evaluation_of w P t))) (found_absent (trace_of (evaluation_of w P t))) p
        (subst (λ xs. Contains xs p) absent_same (absent_from rec.deps p dep h e)))

    missed_back : (p u : List ℕ) → Contains (missed_by (evaluation_of w P t)) (p, u)
        → (enc_task t ≡ u) × ((dep : Dep) × Contains rec.deps dep × (missing_in dep ≡ Some p))
    missed_back p u h =
        let m = from_map (λ (x : List ℕ). (x, task_of (evaluation_of w P t))) (found_absent (trace_of (evaluation_of w P t))) (p, u) h in
        let e : m.0 ≡ p = ap (λ (z : List ℕ × List ℕ). z.0) m.2 in
        let f : task_of (evaluation_of w P t) ≡ u = ap (λ (z : List ℕ × List ℕ). z.1) m.2 in (
          sym its_task ∙ f,
          absent_to rec.deps p (subst (λ xs. Contains xs p) (sym absent_same)
              (subst (λ z. Contains (found_absent (trace_of (evaluation_of w P t))) z) e m.1)),
        )

-- ---- all tasks

pub named : (names : List Task) (n : ℕ) (t : Task) → slice_get names n ≡ Some t → Contains names t
named names n t e = (n, slice_get_within names n t e, get_or_from_slice_get names n t t e)

pub numbered : (names : List Task) (t : Task) (m : Contains names t) → slice_get names m.0 ≡ Some t
numbered names t m = slice_get_read names (length names) m.0 t refl m.1 (sym m.2)

-- the tasks with what is said of them are the entries of their evaluations, where that is so task by task
of_tasks : (w : World) (P : Project) (names : List Task) (Q : List ℕ → ℕ → Type 0) (entries : Node → List (List ℕ × List ℕ))
    → ((n : ℕ) (t : Task) → slice_get names n ≡ Some t → IsCanonicalTask t (enc_task t))
    → ((n : ℕ) (t : Task) → slice_get names n ≡ Some t → (p : List ℕ) → Q p n → Contains (entries (evaluation_of w P t)) (p, enc_task t))
    → ((n : ℕ) (t : Task) → slice_get names n ≡ Some t → (p u : List ℕ) → Contains (entries (evaluation_of w P t)) (p, u) → (enc_task t ≡ u) × Q p n)
    → AreEntries (OfTask names Q) (flat_map entries (map (evaluation w P) (map enc_task names)))
of_tasks w P names Q entries canonical to back = record {
  canonical = λ p t r. canonical r.0 t r.1;
  to = λ p t r. into_flat entries (map (evaluation w P) (map enc_task names)) (evaluation_of w P t) (p, enc_task t)
      (into_map (evaluation w P) (map enc_task names) (enc_task t) (into_map enc_task names t (named names r.0 t r.1)))
      (to r.0 t r.1 p r.2);
  back = λ p u h.
      let m = from_flat entries (map (evaluation w P) (map enc_task names)) (p, u) h in
      let n = from_map (evaluation w P) (map enc_task names) m.0 m.1 in
      let k = from_map enc_task names n.0 n.1 in
      let e : evaluation_of w P k.0 ≡ m.0 = ap (evaluation w P) k.2 ∙ n.2 in
      let i = numbered names k.0 k.1 in
      let r = back k.1.0 k.0 i p u (subst (λ z. Contains (entries z) (p, u)) (sym e) m.2) in
      (k.0, r.0, (k.1.0, i, r.1));
}

module _ (w : World) (P : Project) (names : List Task) (records : Records) (live : List ℕ) (recorded : AreRecorded w P names records)
    (living : (n : ℕ) → n < length names → Contains live n) where
  canonical_at : (n : ℕ) (t : Task) → slice_get names n ≡ Some t → IsCanonicalTask t (enc_task t)
  canonical_at n t e = All-contains (λ x. IsCanonicalTask x (enc_task x)) names t recorded.canonical (named names n t e)

  alive : (n : ℕ) (t : Task) → slice_get names n ≡ Some t → Contains live n
  alive n t e = living n (slice_get_within names n t e)

  -- the record that there is, is that of the evaluation
  its_record : (n : ℕ) (t : Task) → slice_get names n ≡ Some t → (rec : TaskRecord) → record_of records n ≡ Some rec
      → record_in_model rec ≡ record_of_evaluation w (evaluation_of w P t)
  its_record n t e rec r =
      let k = recorded.each n t e in
      let same : k.0 ≡ rec = some_same k.0 rec (sym k.1 ∙ r) in
      ap record_in_model (sym same) ∙ k.2

  pub writes_are : AreEntries (Wrote names records live) (flat_map written_by (map (evaluation w P) (map enc_task names)))
  writes_are = of_tasks w P names (WritesAt records live) written_by canonical_at
      (λ n t e p q. wrote_to w P t q.1 (its_record n t e q.1 q.3) p q.2 q.4)
      (λ n t e p u h. let k = recorded.each n t e in let r = wrote_back w P t k.0 k.2 p u h in
      (r.0, (alive n t e, k.0, r.1.0, k.1, r.1.1)))

  pub misses_are : AreEntries (Missed names records live) (flat_map missed_by (map (evaluation w P) (map enc_task names)))
  misses_are = of_tasks w P names (MissesAt records live) missed_by canonical_at
      (λ n t e p q. missed_to w P t q.1 (its_record n t e q.1 q.3) (recorded.each n t e).3 p q.2 q.4 q.5)
      (λ n t e p u h. let k = recorded.each n t e in let r = missed_back w P t k.0 k.2 k.3 p u h in
      (r.0, (alive n t e, k.0, r.1.0, k.1, r.1.1, r.1.2)))

  pub answer_is : (answer : Option Refusal) → FindsFirst (Wrote names records live) (Missed names records live) answer
      → verdict_by answer ≡ final_checks (map (evaluation w P) (map enc_task names))
  answer_is answer h =
      sym (judged (flat_map written_by (map (evaluation w P) (map enc_task names))) (flat_map missed_by (map (evaluation w P) (map enc_task names)))
      (verdict_by answer) (judged_by (Wrote names records live) (Missed names records live) _ _ writes_are misses_are answer h))
