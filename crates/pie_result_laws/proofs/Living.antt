-- The last checks of the tasks that settled roots reach give the verdict.
use Rattle.std.proofs.Common.{◌≡◌, ◌⊎◌, inl, inr, ℕ, true, false, Option, Some, List, [], ◌∷◌, map, refl, sym, ap, subst, ◌∙◌}
use Rattle.std.specs.Prelude.{slice_get, option_map, Contains}
use Rattle.std.specs.List.{flat_map}
use Rattle.pie_value.specs.declared.task.Task.{Task}
use Rattle.pie_value.specs.declared.verdict.Refusal.{Refusal}
use Rattle.pie_value.specs.Canonical.{enc_task}
use Rattle.pie_record.specs.declared.records.Records.{Records}
use Rattle.pie_record.specs.declared.task_record.TaskRecord.{TaskRecord}
use Rattle.pie_record.specs.inner.Records.{record_of as kept_of}
use Rattle.pie_checks.specs.Records.{Wrote, Missed}
use Rattle.pie_checks.specs.Refusals.{FindsFirst}
use Rattle.pie_results.specs.inner.Live.{AreLive}
use Rattle.pie_walk.specs.Marks.{IsSettled}
use Rattle.pie_walk.specs.States.{WalkState}
use Rattle.pie_walk.specs.Standing.{Stands}
use Rattle.pie_model.specs.Paths.{Path, among}
use Rattle.pie_model.specs.Records.{Record}
use Rattle.pie_model.specs.Verdict.{verdict}
use Rattle.pie_model.proofs.Basics.{among_here, among_there, among_split}
use Rattle.pie_step_laws.specs.Checks.{written_in, missed_in, absent_in}
use Rattle.pie_step_laws.proofs.CheckLemmas.{checks_by_records}
use Rattle.pie_settle_laws.specs.Ends.{recorded_among}
use Rattle.pie_settle_laws.proofs.Ending.{entered_are_reached, record_listed}
use Rattle.pie_check_laws.specs.Verdicts.{verdict_by}
use Rattle.pie_check_laws.proofs.Members.{none_in, here, there, here_or_there, into_flat, from_flat, into_map, from_map}
use Rattle.pie_check_laws.proofs.Places.{AreEntries, judged_by}
use Rattle.pie_check_laws.proofs.Found.{judged}
use Rattle.pie_model_pipeline.specs.Rows.{observation_of, record_of}
use Rattle.pie_model_pipeline.specs.World.{world}
use Rattle.pie_builder_laws.specs.Tables.{recorded}
use Rattle.pie_builder_laws.proofs.Naming.{among_from, placed, one_place, canonical_at, named_back}
use Rattle.pie_builder_laws.proofs.Tabled.{record_by_number}
use Rattle.pie_compare_laws.proofs.Ways.{one_some, led, led_back}
use Rattle.pie_core_laws.specs.Update.{Update, present}
use Rattle.pie_core_laws.specs.Exact.{is_done, IsExact}
use Rattle.pie_core_laws.specs.Keeping.{Separates}
use Rattle.pie_core_laws.specs.Ends.{IsDoneRoot, entered_by}
use Rattle.pie_core_laws.proofs.Exactly as exactly
use Rattle.pie_core_laws.proofs.Kept.{settled_done, done_settled, settled_rests}
use Rattle.pie_core_laws.proofs.Rooted.{roots_done, roots_between}
use Rattle.pie_result_laws.proofs.Missing.{absent_to, absent_from}

module _ (u : Update) (names : List Task) (records : Records) (s : WalkState) (roots : List Task) (e : IsExact u names records s) (w : Stands s)
    (apart : Separates u) (all : (r : Task) → Contains roots r → IsDoneRoot names records s r) where
  -- ---- live numbers and entered tasks

  module _ (live : List ℕ) (alive : AreLive names roots s.rows live) where
    pub live_entered : (n : ℕ) (t : Task) → Contains live n → slice_get names n ≡ Some t → among (enc_task t) (entered_by u roots) ≡ true
    live_entered n t h at =
        let q = alive.exactly.only n h in
        let r = alive.are.only q.0 q.1 in
        let d = all r.0 r.1 in
        let same : d.number ≡ q.0 = one_place names e.tasks d.number q.0 r.0 d.named r.2 in
        let settled : is_done s q.0 ≡ true = settled_done s q.0 (subst (IsSettled s.marks) same d.output.settled) in
        let way = led names records s.rows (is_done s) e.tasks (settled_rests u names records s e w) q.0 n r.0 t settled r.2 at q.2 in
        (entered_are_reached world (present u) (recorded names records) (map enc_task roots) (enc_task t)
        (roots_done u names records s roots e w apart all)).1
        (record { from = enc_task r.0; listed = named_back roots r.0 r.1; reaches = way })

    -- an entered task is live, and has a record
    pub record IsAlive (x : List ℕ) : Type 0 where
      pub number : ℕ
      pub task : Task
      pub named : slice_get names number ≡ Some task
      pub bytes : x ≡ enc_task task
      pub lives : Contains live number
      pub rec : TaskRecord
      pub kept : kept_of records number ≡ Some rec

    pub entered_alive : (x : List ℕ) → among x (entered_by u roots) ≡ true → IsAlive x
    entered_alive x i =
        let q = (entered_are_reached world (present u) (recorded names records) (map enc_task roots) x
        (roots_done u names records s roots e w apart all)).0 i in
        let m = among_from roots q.from q.listed in
        let c = placed roots m.number m.task m.named in
        let d = all m.task c in
        let z = alive.are.each m.task c (placed names d.number m.task d.named) in
        let same : d.number ≡ z.0 = one_place names e.tasks d.number z.0 m.task d.named z.1 in
        let settled : is_done s z.0 ≡ true = settled_done s z.0 (subst (IsSettled s.marks) same d.output.settled) in
        let l = led_back names records s.rows (is_done s) e.tasks (settled_rests u names records s e w) x q.from q.reaches z.0 m.task settled z.1 m.bytes in
        let k = e.ended l.number (done_settled s l.number l.settles) in
        record {
          number = l.number;
          task = l.task;
          named = l.named;
          bytes = l.bytes;
          lives = alive.exactly.each l.number (z.0, z.2, l.leads);
          rec = k.0;
          kept = k.1;
        }

    -- ---- the records of the entered tasks

    record AreKept (xs : List (List ℕ)) : Type 0 where
      recs : List TaskRecord
      same : map (recorded_among (entered_by u roots) (recorded names records)) xs ≡ map Some (map record_of recs)
      only : (rec : TaskRecord) → Contains recs rec → (n : ℕ) × Contains live n × (kept_of records n ≡ Some rec)
      each : (n : ℕ) (rec : TaskRecord) → kept_of records n ≡ Some rec → among (enc_task rec.task) xs ≡ true → Contains recs rec

    pub its_record : (x : List ℕ) (i : among x (entered_by u roots) ≡ true) → recorded_among (entered_by u roots) (recorded names records) x
        ≡ Some (record_of (entered_alive x i).rec)
    its_record x i =
        let m = entered_alive x i in
        record_listed (entered_by u roots) (recorded names records) x i ∙ ap (recorded names records) m.bytes
        ∙ record_by_number names records m.number m.task e.tasks m.named ∙ ap (option_map record_of) m.kept

    all_kept : (xs : List (List ℕ)) → ((x : List ℕ) → among x xs ≡ true → among x (entered_by u roots) ≡ true) → AreKept xs
    all_kept [] f = record { recs = []; same = refl; only = λ rec h. absurd (none_in rec h); each = λ n rec k h. none_true h }
      where
        none_true : {A : Type 0} → false ≡ true → A
        none_true h = cc
    all_kept (x ∷ xs) f = from (all_kept xs (λ y i. f y (among_there y x xs i)))
      where
        listed : among x (entered_by u roots) ≡ true
        listed = f x (among_here x xs)

        both : {A : Type 0} (a b : A) (xs ys : List A) → a ≡ b → xs ≡ ys → a ∷ xs ≡ b ∷ ys
        both a b xs ys h k = λ i. h i ∷ k i

        from : AreKept xs → AreKept (x ∷ xs)
        from k = record {
          recs = (entered_alive x listed).rec ∷ k.recs;
          same = both _ _ _ _ (its_record x listed) k.same;
          only = λ rec h. only_by rec (here_or_there (entered_alive x listed).rec rec k.recs h);
          each = λ n rec q h. each_by n rec q (among_split (enc_task rec.task) x xs h);
        }
          where
            only_by : (rec : TaskRecord) → ((entered_alive x listed).rec ≡ rec) ⊎ Contains k.recs rec
                → (n : ℕ) × Contains live n × (kept_of records n ≡ Some rec)
            only_by rec (inl h) = let m = entered_alive x listed in (m.number, m.lives, m.kept ∙ ap Some h)
            only_by rec (inr h) = k.only rec h

            each_by : (n : ℕ) (rec : TaskRecord) → kept_of records n ≡ Some rec → (enc_task rec.task ≡ x) ⊎ (among (enc_task rec.task) xs ≡ true)
                → Contains ((entered_alive x listed).rec ∷ k.recs) rec
            each_by n rec q (inl h) =
                let m = entered_alive x listed in
                let task : m.task ≡ rec.task =
                exactly.one_task names e.tasks m.number n m.task rec.task m.named (e.named n rec q) (sym m.bytes ∙ sym h) in
                let same : m.number ≡ n = one_place names e.tasks m.number n rec.task (m.named ∙ ap Some task) (e.named n rec q) in
                let is : m.rec ≡ rec = one_some m.rec rec (sym m.kept ∙ ap (kept_of records) same ∙ q) in
                subst (λ z. Contains (m.rec ∷ k.recs) z) is (here m.rec k.recs)
            each_by n rec q (inr h) = there (entered_alive x listed).rec rec k.recs (k.each n rec q h)

    kept : AreKept (entered_by u roots)
    kept = all_kept (entered_by u roots) (λ x i. i)

    -- ---- entries

    writes_are : (k : AreKept (entered_by u roots)) → AreEntries (Wrote names records live) (flat_map written_in (map record_of k.recs))
    writes_are k = record {
      canonical = λ p t r. canonical_at names e.tasks r.0 t r.1;
      to = λ p t r.
          let rec = r.2.1 in
          let same : rec.task ≡ t = one_some rec.task t (sym (e.named r.0 rec r.2.3) ∙ r.1) in
          let i = k.each r.0 rec r.2.3 (live_entered r.0 rec.task r.2.0 (r.1 ∙ ap Some (sym same))) in
          into_flat written_in (map record_of k.recs) (record_of rec) (p, enc_task t) (into_map record_of k.recs rec i)
          (subst (λ (z : Task). Contains (written_in (record_of rec)) (p, enc_task z)) same
          (into_map (λ (x : Path × List ℕ). (x.0, enc_task rec.task)) rec.writes (p, r.2.2) r.2.4));
      back = λ p x h.
          let m = from_flat written_in (map record_of k.recs) (p, x) h in
          let n = from_map record_of k.recs m.0 m.1 in
          let rec = n.0 in
          let q = k.only rec n.1 in
          let y = from_map (λ (z : Path × List ℕ). (z.0, enc_task rec.task)) rec.writes (p, x)
          (subst (λ (z : Record). Contains (written_in z) (p, x)) (sym n.2) m.2) in
          let path : y.0.0 ≡ p = ap (λ (z : Path × List ℕ). z.0) y.2 in
          let task : enc_task rec.task ≡ x = ap (λ (z : Path × List ℕ). z.1) y.2 in (
            rec.task,
            task,
            (
              q.0,
              e.named q.0 rec q.2,
              (
                q.1,
                rec,
                y.0.1,
                q.2,
                subst (λ (z : Path). Contains rec.writes (z, y.0.1)) path y.1,
              ),
            ),
          );
    }

    misses_are : (k : AreKept (entered_by u roots)) → AreEntries (Missed names records live) (flat_map missed_in (map record_of k.recs))
    misses_are k = record {
      canonical = λ p t r. canonical_at names e.tasks r.0 t r.1;
      to = λ p t r.
          let rec = r.2.1 in
          let same : rec.task ≡ t = one_some rec.task t (sym (e.named r.0 rec r.2.3) ∙ r.1) in
          let i = k.each r.0 rec r.2.3 (live_entered r.0 rec.task r.2.0 (r.1 ∙ ap Some (sym same))) in
          into_flat missed_in (map record_of k.recs) (record_of rec) (p, enc_task t) (into_map record_of k.recs rec i)
          (subst (λ (z : Task). Contains (missed_in (record_of rec)) (p, enc_task z)) same
          (into_map (λ (x : Path). (x, enc_task rec.task)) (absent_in (map observation_of rec.deps)) p (absent_from rec.deps p r.2.2 r.2.4 r.2.5)));
      back = λ p x h.
          let m = from_flat missed_in (map record_of k.recs) (p, x) h in
          let n = from_map record_of k.recs m.0 m.1 in
          let rec = n.0 in
          let q = k.only rec n.1 in
          let y = from_map (λ (z : Path). (z, enc_task rec.task)) (absent_in (map observation_of rec.deps)) (p, x)
          (subst (λ (z : Record). Contains (missed_in z) (p, x)) (sym n.2) m.2) in
          let path : y.0 ≡ p = ap (λ (z : Path × List ℕ). z.0) y.2 in
          let task : enc_task rec.task ≡ x = ap (λ (z : Path × List ℕ). z.1) y.2 in
          let d = absent_to rec.deps p (subst (λ (z : Path). Contains (absent_in (map observation_of rec.deps)) z) path y.1) in (
            rec.task,
            task,
            (q.0, e.named q.0 rec q.2, (q.1, rec, d.0, q.2, d.1, d.2)),
          );
    }

    pub checks_decide : (answer : Option Refusal) → FindsFirst (Wrote names records live) (Missed names records live) answer
        → verdict_by answer ≡ verdict world (present u) (map enc_task roots)
    checks_decide answer h =
        let k = kept in
        sym (judged (flat_map written_in (map record_of k.recs)) (flat_map missed_in (map record_of k.recs)) (verdict_by answer)
        (judged_by (Wrote names records live) (Missed names records live) _ _ (writes_are k) (misses_are k) answer h))
        ∙ sym (checks_by_records world (present u) (map enc_task roots) (recorded_among (entered_by u roots) (recorded names records)) (entered_by u roots)
        (roots_between u names records s roots e w apart all) (map record_of k.recs) k.same).is
