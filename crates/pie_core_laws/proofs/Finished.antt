-- A finish leaves a build exact.
use Rattle.std.proofs.Common.{◌≡◌, ◌⊎◌, inl, inr, ℕ, ◌<◌, Bool, true, false, cond, Option, Some, None, List, [], ◌∷◌, map, length, refl, sym, ap, subst, ◌∙◌}
use Rattle.std.specs.Prelude.{slice_get, slice_set, slice_index_or, Contains, option_map}
use Rattle.std.specs.Ordering.{nat_cmp, is_eq}
use Rattle.std.specs.declared.cmp.Ordering.TheVariants.{Equal}
use Rattle.std.specs.Cmp.{nat_cmp_is, Equal-is}
use Rattle.std.specs.FinMap.{nat_cmp-IsAntisymmetric}
use Rattle.std.proofs.lemmas.Option.{slice_get_within}
use Rattle.std.proofs.lemmas.List.{length-set, get_or-set_same, get_or-set_other}
use Rattle.pie_value.specs.declared.task.Task.{Task}
use Rattle.pie_value.specs.Canonical.{enc_task}
use Rattle.pie_graph.specs.Numbers.{IsMarked}
use Rattle.pie_graph.specs.Rows.{Row, row_at, no_edges, Calls}
use Rattle.pie_reach.specs.inner.Reaches.{Reaches as RowsReach}
use Rattle.pie_reach.specs.inner.Reaches.Leads.{itself, step}
use Rattle.pie_record.specs.declared.records.Records.{Records}
use Rattle.pie_record.specs.declared.task_record.TaskRecord.{TaskRecord}
use Rattle.pie_record.specs.inner.Records.{record_of as kept_of, Puts}
use Rattle.pie_walk.specs.declared.marks.Mark.{Mark}
use Rattle.pie_walk.specs.declared.marks.Mark.TheVariants.{New, Settled}
use Rattle.pie_walk.specs.Marks.{mark_of, IsSettled, IsIdle}
use Rattle.pie_walk.specs.States.{WalkState}
use Rattle.pie_walk.specs.Standing.{Stands}
use Rattle.pie_model.specs.Paths.{Path, among}
use Rattle.pie_model.specs.Trees.{outcome_of, is_done}
use Rattle.pie_model.specs.Evaluation.{World, Project, evaluation}
use Rattle.pie_model.specs.Records.{Record, Stamp, Query, Looked, Listed, Required, Observation, needs_of, task_asked, record_of as model_record}
use Rattle.pie_model.specs.StampNow.{Told, by_evaluation, by_records, recorded_outcome, outcome_now, stamp_now, asked_before, StampsAgree}
use Rattle.pie_model.specs.StampNow.{RecordAgrees}
use Rattle.pie_model.specs.inner.Present.{Reaches}
use Rattle.pie_model.specs.inner.Present.Way.{here as arrived, along}
use Rattle.pie_model.specs.inner.Consistent.{IsRecorded, IsUpToDate, IsConsistent, IsSettled as IsSettledTask}
use Rattle.pie_model.specs.inner.Steps.{Each, StampStill, ChangesAt, IsUntouched}
use Rattle.pie_model.specs.inner.CoreLaws.{TellsRight}
use Rattle.pie_model.specs.inner.RecordLaws.{Passes}
use Rattle.pie_model.proofs.Basics.{clash, among_left, among_right, among_here}
use Rattle.pie_model.proofs.ItselfLemmas.{agrees_itself}
use Rattle.pie_model.proofs.StepsLemmas.{finish_consistent}
use Rattle.pie_settle_laws.specs.Settled.{ReachesBusy}
use Rattle.pie_settle_laws.proofs.Settling.{finish_spares}
use Rattle.pie_settle_laws.proofs.Sweeping.{new_unreached}
use Rattle.pie_model_pipeline.specs.Rows.{record_of}
use Rattle.pie_model_pipeline.specs.World.{world}
use Rattle.pie_builder_laws.specs.Names.{called_in}
use Rattle.pie_builder_laws.specs.Tables.{recorded}
use Rattle.pie_builder_laws.specs.Views.{RowIs}
use Rattle.pie_builder_laws.proofs.Naming.{among_at, among_from, placed, one_place, named_back}
use Rattle.pie_builder_laws.proofs.Tabled.{needs_called, record_has_number, record_by_number, record_put}
use Rattle.pie_earlier_laws.specs.Telling.{told_by}
use Rattle.pie_earlier_laws.proofs.OldRows.{old_row}
use Rattle.pie_earlier_laws.proofs.Pipelines.{manners_of}
use Rattle.pie_compare_laws.proofs.Ways.{one_some, number_of, task_of}
use Rattle.pie_core_laws.specs.Update.{Update, IsUpdate, MetIn, earlier, present}
use Rattle.pie_core_laws.specs.Exact.{rank_by, runs, is_busy, busy_by, RestsOnIn, IsExact}
use Rattle.pie_core_laws.specs.Finishing.{IsRight, TellsCallers, TellsOthers, Finishes, StaysExact}
use Rattle.pie_core_laws.proofs.Numbers.{by_number, true_by}
use Rattle.pie_core_laws.proofs.Exactly as exactly
use Rattle.pie_core_laws.proofs.Exactly.Stage.{idle, going, done}

-- ---- stamps of a record that is right

module _ (w : World) (now : Project) (S : List ℕ → Option Record) (t : List ℕ) (same : recorded_outcome (S t) ≡ outcome_of (evaluation w now t)) where
  query_still : (own : List (Path × List ℕ)) (before : List (List ℕ)) (q : Query) (s : Stamp) → stamp_now w now (by_evaluation w now) own before q ≡ Some s
      → StampStill w S t q s
  query_still own before (Looked l p) s h = tt
  query_still own before (Listed d) s h = tt
  query_still own before (Required r v) s h = λ e.
      ap (outcome_now w r) same ∙ ap (λ z. outcome_now w r (outcome_of (evaluation w now z))) (sym e) ∙ h

  right_still : (own : List (Path × List ℕ)) (before : List (List ℕ)) (os : List Observation) → StampsAgree w now (by_evaluation w now) own before os
      → Each (StampStill w S t) os
  right_still own before [] h = tt
  right_still own before (o ∷ os) h = (query_still own before o.query o.stamp h.0, right_still own (asked_before before o.query) os h.1)

-- ---- stamps of a record that agrees

module _ (w : World) (now : Project) (R S : List ℕ → Option Record) (told : List (List ℕ) → Path → Told) (t : List ℕ) where
  asked_still : (own : List (Path × List ℕ)) (before : List (List ℕ)) (q : Query) (s : Stamp)
      → (among t (task_asked q) ≡ true → recorded_outcome (S t) ≡ recorded_outcome (R t))
      → stamp_now w now (by_records R told) own before q ≡ Some s → StampStill w S t q s
  asked_still own before (Looked l p) s f h = tt
  asked_still own before (Listed d) s f h = tt
  asked_still own before (Required r v) s f h = λ e.
      ap (outcome_now w r) (f (subst (λ z. among z (v ∷ []) ≡ true) e (among_here v [])))
      ∙ ap (λ z. outcome_now w r (recorded_outcome (R z))) (sym e) ∙ h

  agreeing_still : (own : List (Path × List ℕ)) (before : List (List ℕ)) (os : List Observation)
      → (among t (needs_of os) ≡ true → recorded_outcome (S t) ≡ recorded_outcome (R t))
      → StampsAgree w now (by_records R told) own before os → Each (StampStill w S t) os
  agreeing_still own before [] f h = tt
  agreeing_still own before (o ∷ os) f h = (
    asked_still own before o.query o.stamp (λ i. f (among_left t (task_asked o.query) (needs_of os) i)) h.0,
    agreeing_still own (asked_before before o.query) os (λ i. f (among_right t (task_asked o.query) (needs_of os) i)) h.1,
  )

-- ---- one element of a list is set

mark_here : (marks : List Mark) (n : ℕ) (m : Mark) → n < length marks → mark_of (slice_set marks n m) n ≡ m
mark_here marks n m l = get_or-set_same marks n m New l

mark_there : (marks : List Mark) (n k : ℕ) (m : Mark) → (k ≡ n → ⊥) → mark_of (slice_set marks n m) k ≡ mark_of marks k
mark_there marks n k m f = get_or-set_other marks n k m New f

module _ (u : Update) (names : List Task) (records changed : Records) (s after : WalkState) (which : ℕ) (row : Row) (rec : TaskRecord)
    (e : IsExact u names records s) (w : Stands s) (v : Stands after) (puts : Puts records changed which rec) (at : slice_get names which ≡ Some rec.task)
    (right : IsRight u rec) (row_is : RowIs names row (Some rec)) (ready : (k : ℕ) → Contains row.needs k → IsSettled s.marks k)
    (f : Finishes records s after which row rec) where
  -- ---- what has changed

  inside : which < length s.rows
  inside = subst (λ z. which < z) (sym e.as_many) (slice_get_within names which rec.task at)

  inside_marks : which < length s.marks
  inside_marks = subst (λ z. which < z) (sym w.holds.marks_sized) inside

  rows_are : after.rows ≡ slice_set s.rows which row
  rows_are = ap (λ (z : WalkState). z.rows) f.same

  marks_are : after.marks ≡ slice_set s.marks which Settled
  marks_are = ap (λ (z : WalkState). z.marks) f.same

  places_are : after.places ≡ s.places
  places_are = ap (λ (z : WalkState). z.places) f.same

  looks_are : after.looks_out ≡ s.looks_out
  looks_are = ap (λ (z : WalkState). z.looks_out) f.same

  row_here : row_at after.rows which ≡ row
  row_here = ap (λ rs. row_at rs which) rows_are ∙ get_or-set_same s.rows which row no_edges inside

  row_there : (k : ℕ) → (k ≡ which → ⊥) → row_at after.rows k ≡ row_at s.rows k
  row_there k d = ap (λ rs. row_at rs k) rows_are ∙ get_or-set_other s.rows which k row no_edges d

  settled_here : IsSettled after.marks which
  settled_here = ap (λ ms. mark_of ms which) marks_are ∙ mark_here s.marks which Settled inside_marks

  mark_same : (k : ℕ) → (k ≡ which → ⊥) → mark_of after.marks k ≡ mark_of s.marks k
  mark_same k d = ap (λ ms. mark_of ms k) marks_are ∙ mark_there s.marks which k Settled d

  settled_still : (k : ℕ) → IsSettled s.marks k → IsSettled after.marks k
  settled_still k h = by (exactly.same_or_not which k)
    where
      by : (k ≡ which) ⊎ (k ≡ which → ⊥) → IsSettled after.marks k
      by (inl i) = ap (mark_of after.marks) i ∙ settled_here
      by (inr d) = mark_same k d ∙ h

  not_no : (k : ℕ) → (IsSettled after.marks k → ⊥) → k ≡ which → ⊥
  not_no k h i = h (ap (mark_of after.marks) i ∙ settled_here)

  put_here : kept_of changed which ≡ Some rec
  put_here = puts which ∙ ap (λ b. cond b (Some rec) (kept_of records which)) (ap is_eq (sym (nat_cmp_is which which Equal refl)))

  put_there : (k : ℕ) → (k ≡ which → ⊥) → kept_of changed k ≡ kept_of records k
  put_there k d = puts k ∙ ap (λ b. cond b (Some rec) (kept_of records k)) (by (is_eq (nat_cmp which k)) refl)
    where
      by : (b : Bool) → is_eq (nat_cmp which k) ≡ b → b ≡ false
      by true i = absurd (d (sym (nat_cmp-IsAntisymmetric which k ((Equal-is (nat_cmp which k)).0 i))))
      by false i = refl

  change : ChangesAt (recorded names records) (recorded names changed) (enc_task rec.task) (record_of rec)
  change = record_put names records changed which rec.task rec e.tasks at puts

  -- ---- busy tasks

  busy_no : is_busy s which ≡ true
  busy_no = exactly.runs_busy s which f.ran

  its_busy : (k : ℕ) (x : Task) → slice_get names k ≡ Some x → is_busy s k ≡ true → busy_by names s (enc_task x) ≡ true
  its_busy k x i b = by_number false (is_busy s) names k x e.tasks i ∙ b

  its_busy_after : (k : ℕ) (x : Task) → slice_get names k ≡ Some x → is_busy after k ≡ true → busy_by names after (enc_task x) ≡ true
  its_busy_after k x i b = by_number false (is_busy after) names k x e.tasks i ∙ b

  busy_t : busy_by names s (enc_task rec.task) ≡ true
  busy_t = its_busy which rec.task at busy_no

  still_busy : (k : ℕ) → (k ≡ which → ⊥) → is_busy s k ≡ true → is_busy after k ≡ true
  still_busy k d b = by (exactly.busy_is s k b)
    where
      by : IsMarked s.scheduled k ⊎ (runs (mark_of s.marks k) ≡ true) → is_busy after k ≡ true
      by (inl i) = exactly.scheduled_busy after k (f.kept k i)
      by (inr i) = exactly.runs_busy after k (ap runs (mark_same k d) ∙ i)

  others_stay : (x : List ℕ) → (x ≡ enc_task rec.task → ⊥) → (busy_by names after x ≡ true → ⊥) → busy_by names s x ≡ true → ⊥
  others_stay x d n b =
      let m = true_by (is_busy s) names x e.tasks b in
      n (ap (busy_by names after) m.bytes
      ∙ its_busy_after m.number m.task m.named (still_busy m.number (λ i. d (m.bytes ∙ ap enc_task (same_task m.number m.task m.named i))) m.holds))
    where
      same_task : (k : ℕ) (y : Task) → slice_get names k ≡ Some y → k ≡ which → y ≡ rec.task
      same_task k y i j = one_some y rec.task (sym i ∙ ap (slice_get names) j ∙ at)

  -- ---- ways up to the task that ends

  -- by the rows a task reaches the one that ends: so by the records it reaches a busy one
  reaches_busy : (n k : ℕ) → RowsReach after.rows n k → k ≡ which → (x : Task) → slice_get names n ≡ Some x
      → ReachesBusy (recorded names records) (Passes (busy_by names s)) (enc_task x)
  reaches_busy n k (itself {a = a}) i x j = record { found = enc_task x; reaches = arrived; is_busy = its_busy n x j (subst (λ z. is_busy s z ≡ true) (sym i) busy_no) }
  reaches_busy n k (step {a = a} {b = b} {c = c} first rest) i x j = by (is_busy s n) refl (λ y l. reaches_busy b k rest i y l)
    where
      from : ((y : Task) → slice_get names b ≡ Some y → ReachesBusy (recorded names records) (Passes (busy_by names s)) (enc_task y))
          → (o : Option TaskRecord) → kept_of records n ≡ o → is_busy s n ≡ false
          → ReachesBusy (recorded names records) (Passes (busy_by names s)) (enc_task x)
      from go None l q = clash (is_busy s n) (e.fresh n (slice_get_within names n x j) l) q
      from go (Some r) l q =
          let calm : runs (mark_of s.marks n) ≡ false = exactly.not_busy_runs s n q in
          let away : n ≡ which → ⊥ = λ z. clash (runs (mark_of s.marks n)) (ap (λ y. runs (mark_of s.marks y)) z ∙ f.ran) calm in
          let m = task_of names (row_at s.rows n).needs (called_in r.deps) b (e.rows n r l calm).0
          (subst (λ (z : Row). Contains z.needs b) (row_there n away) first) in
          let g = go m.task m.named in
          record {
            found = g.found;
            reaches = along {a = enc_task x} {b = enc_task m.task} {r = record_of r}
                (record_by_number names records n x e.tasks j ∙ ap (option_map record_of) l)
                (subst (λ xs. among (enc_task m.task) xs ≡ true) (sym (needs_called r.deps)) (named_back (called_in r.deps) m.task m.listed)) g.reaches;
            is_busy = g.is_busy;
          }

      by : (q : Bool) → is_busy s n ≡ q
          → ((y : Task) → slice_get names b ≡ Some y → ReachesBusy (recorded names records) (Passes (busy_by names s)) (enc_task y))
          → ReachesBusy (recorded names records) (Passes (busy_by names s)) (enc_task x)
      by true q go = record { found = enc_task x; reaches = arrived; is_busy = its_busy n x j q }
      by false q go = from go (kept_of records n) refl q

  after_busy : (x : List ℕ) → busy_by names after x ≡ true → ReachesBusy (recorded names records) (Passes (busy_by names s)) x
  after_busy x b =
      let m = true_by (is_busy after) names x e.tasks b in
      subst (ReachesBusy (recorded names records) (Passes (busy_by names s))) (sym m.bytes) (from m.number m.task m.named (exactly.busy_is after m.number m.holds))
    where
      itself_busy : (k : ℕ) (y : Task) → slice_get names k ≡ Some y → is_busy s k ≡ true
          → ReachesBusy (recorded names records) (Passes (busy_by names s)) (enc_task y)
      itself_busy k y i q = record { found = enc_task y; reaches = arrived; is_busy = its_busy k y i q }

      marked : (k : ℕ) (y : Task) → slice_get names k ≡ Some y → IsMarked s.scheduled k ⊎ RowsReach after.rows k which
          → ReachesBusy (recorded names records) (Passes (busy_by names s)) (enc_task y)
      marked k y i (inl q) = itself_busy k y i (exactly.scheduled_busy s k q)
      marked k y i (inr q) = reaches_busy k which q refl y i

      from : (k : ℕ) (y : Task) → slice_get names k ≡ Some y → IsMarked after.scheduled k ⊎ (runs (mark_of after.marks k) ≡ true)
          → ReachesBusy (recorded names records) (Passes (busy_by names s)) (enc_task y)
      from k y i (inl q) = marked k y i (f.only k q)
      from k y i (inr q) = itself_busy k y i (exactly.runs_busy s k (ap runs (sym (mark_same k (λ z. gone k z q))) ∙ q))
        where
          gone : (j : ℕ) → j ≡ which → runs (mark_of after.marks j) ≡ true → ⊥
          gone j z p =
              clash (runs (mark_of after.marks j)) p
              (ap (λ y. runs (mark_of after.marks y)) z ∙ exactly.settled_not_runs (mark_of after.marks which) settled_here)

  spares : (x : List ℕ) → IsSettledTask (recorded names records) (Passes (busy_by names s)) x
      → IsSettledTask (recorded names changed) (Passes (busy_by names after)) x
  spares =
      finish_spares (recorded names records) (recorded names changed) (enc_task rec.task) (record_of rec) (Passes (busy_by names s))
      (Passes (busy_by names after)) change busy_t after_busy

  -- ---- sweeps

  -- a task that is settled reaches no busy one
  settled_apart : (k : ℕ) (y : Task) (x : List ℕ) → slice_get names k ≡ Some y → IsSettled s.marks k
      → Reaches (recorded names records) (enc_task y) x → busy_by names s x ≡ true → ⊥
  settled_apart k y x i h q b = (exactly.settled_task u names records s e w k y i h).free x q b

  swept_up : IsMarked after.swept which → (y x : List ℕ) → Reaches (recorded names records) x y → y ≡ enc_task rec.task → (n : ℕ) (t : Task)
      → slice_get names n ≡ Some t → x ≡ enc_task t → IsMarked after.swept n
  swept_up h y x arrived i n t j b =
      subst (IsMarked after.swept) (one_place names e.tasks which n rec.task at (j ∙ ap Some (exactly.one_task names e.tasks n which t rec.task j at (sym b ∙ i)))) h
  swept_up h y x (along {a = c} {b = d} {r = r} now need rest) i n t j b =
      let m = exactly.next_of u names records s e n t r d j (ap (recorded names records) (sym b) ∙ now) need in
      by (exactly.stage_of s.marks n) m (swept_up h y d rest i m.number m.task m.named m.bytes)
    where
      busy_y : busy_by names s y ≡ true
      busy_y = ap (busy_by names s) i ∙ busy_t

      by : exactly.Stage s.marks n → (m : exactly.Next u names records s e n d) → IsMarked after.swept m.number → IsMarked after.swept n
      by (idle q) m above =
          let away : n ≡ which → ⊥ = λ z. clash (runs (mark_of s.marks n)) (ap (λ y. runs (mark_of s.marks y)) z ∙ f.ran) (exactly.idle_not_runs s.marks n q) in
          v.swept.up m.number n above (subst (λ (z : Row). Contains z.needs m.number) (sym (row_there n away)) m.called)
          (exactly.idle_same s.marks after.marks n (sym (mark_same n away)) q)
      by (going q p) m above =
          let g = e.running n m.rec m.task m.kept q m.listed in
          absurd (settled_apart g.number m.task y g.named g.settled (subst (λ z. Reaches (recorded names records) z y) m.bytes rest) busy_y)
      by (done q) m above =
          absurd (settled_apart m.number m.task y m.named (w.holds.closed n m.number q m.called)
          (subst (λ z. Reaches (recorded names records) z y) m.bytes rest) busy_y)

  -- ---- records that are untouched

  -- what a task that isn't settled requires of the one that ends has the stamp of now, where its outcome is the old one or all that require it are busy
  module _ (update : IsUpdate u) (told : List (List ℕ) → Path → Told)
      (c : IsConsistent world (earlier u) (present u) (MetIn u) (recorded names records) told (map enc_task names) (rank_by names s.places)
      (Passes (busy_by names s))) where
    same_outcome : recorded_outcome (recorded names changed (enc_task rec.task)) ≡ (record_of rec).outcome
    same_outcome = ap recorded_outcome change.now

    -- a task that isn't settled and whose record is right ended with a value
    old_done : (n : ℕ) (q : TaskRecord) → kept_of records n ≡ Some q → (IsSettled s.marks n → ⊥)
        → (record_of q ≡ model_record world (evaluation world (present u) (enc_task q.task)))
        → is_done (outcome_of (evaluation world (present u) (enc_task q.task))) ≡ true
    old_done n q k h i =
        let o = old_row world (earlier u) u.old_roots update.build.accepted (enc_task q.task) (record_of q) (e.old n q k h).left in
        ap (λ (z : Record). is_done z.outcome) (sym i ∙ o.was) ∙ o.done

    stamps_stay : (n : ℕ) (q before : TaskRecord) → kept_of records n ≡ Some q → kept_of records which ≡ Some before → IsIdle s.marks n
        → (is_busy after n ≡ true → ⊥) → Each (StampStill world (recorded names changed) (enc_task rec.task)) (record_of q).observations
    stamps_stay n q before k l h calm = by (c.current (enc_task q.task) (record_of q) at_q idle_q)
      where
        away : n ≡ which → ⊥
        away z = clash (runs (mark_of s.marks n)) (ap (λ y. runs (mark_of s.marks y)) z ∙ f.ran) (exactly.idle_not_runs s.marks n h)

        at_q : recorded names records (enc_task q.task) ≡ Some (record_of q)
        at_q = record_by_number names records n q.task e.tasks (e.named n q k) ∙ ap (option_map record_of) k

        idle_q : busy_by names s (enc_task q.task) ≡ true → ⊥
        idle_q b = calm (still_busy n away (sym (by_number false (is_busy s) names n q.task e.tasks (e.named n q k)) ∙ b))

        unsettled : IsSettled s.marks n → ⊥
        unsettled i = exactly.idle_not_settled s.marks n h i

        was : recorded_outcome (recorded names records (enc_task rec.task)) ≡ (record_of before).outcome
        was = ap recorded_outcome (record_by_number names records which rec.task e.tasks at) ∙ ap (λ o. recorded_outcome (option_map record_of o)) l

        requires : among (enc_task rec.task) (needs_of (record_of q).observations) ≡ true → Calls after.rows n which
        requires i =
            let m = exactly.next_of u names records s e n q.task (record_of q) (enc_task rec.task) (e.named n q k) at_q i in
            subst (λ (z : Row). Contains z.needs which) (sym (row_there n away))
            (subst (λ z. Calls s.rows n z)
            (one_place names e.tasks m.number which rec.task
            (m.named ∙ ap Some (exactly.one_task names e.tasks m.number which m.task rec.task m.named at (sym m.bytes))) at) m.called)

        outcome_same : TellsCallers after which before rec → among (enc_task rec.task) (needs_of (record_of q).observations) ≡ true
            → recorded_outcome (recorded names changed (enc_task rec.task)) ≡ recorded_outcome (recorded names records (enc_task rec.task))
        outcome_same (inl i) j = same_outcome ∙ sym i ∙ sym was
        outcome_same (inr g) j =
            absurd (calm (exactly.scheduled_busy after n (g n (requires j) (exactly.idle_same s.marks after.marks n (sym (mark_same n away)) h))))

        by : IsUpToDate world (earlier u) (present u) (MetIn u) (recorded names records) told (enc_task q.task) (record_of q)
            → Each (StampStill world (recorded names changed) (enc_task rec.task)) (record_of q).observations
        by (inl i) =
            right_still world (present u) (recorded names changed) (enc_task rec.task)
            (same_outcome ∙ ap (λ (z : Record). z.outcome) right.is) (record_of q).writes [] (record_of q).observations
            (subst (RecordAgrees world (present u) (by_evaluation world (present u))) (sym i)
            (agrees_itself world (present u) (enc_task q.task) ((manners_of u.functions u.directory).writes (enc_task q.task)) (old_done n q k unsettled i)))
        by (inr i) =
            agreeing_still world (present u) (recorded names records) (recorded names changed) told (enc_task rec.task) (record_of q).writes []
            (record_of q).observations (outcome_same (f.callers before l)) i.agrees

    idle_untouched : (n : ℕ) (q : TaskRecord) → kept_of records n ≡ Some q → IsIdle s.marks n → (is_busy after n ≡ true → ⊥)
        → IsUntouched world (recorded names records) (recorded names changed) (enc_task rec.task) (record_of rec) (record_of q)
    idle_untouched n q k h calm = by (kept_of records which) refl
      where
        away : n ≡ which → ⊥
        away z = clash (runs (mark_of s.marks n)) (ap (λ y. runs (mark_of s.marks y)) z ∙ f.ran) (exactly.idle_not_runs s.marks n h)

        at_q : recorded names records (enc_task q.task) ≡ Some (record_of q)
        at_q = record_by_number names records n q.task e.tasks (e.named n q k) ∙ ap (option_map record_of) k

        at_no : (o : Option TaskRecord) → kept_of records which ≡ o → recorded names records (enc_task rec.task) ≡ option_map record_of o
        at_no o l = record_by_number names records which rec.task e.tasks at ∙ ap (option_map record_of) l

        idle_after : IsIdle after.marks n
        idle_after = exactly.idle_same s.marks after.marks n (sym (mark_same n away)) h

        unswept : (b : Bool) → slice_index_or after.swept n false ≡ b → IsMarked after.looks_out n → IsMarked after.swept which
            → (y : List ℕ) → among y (needs_of (record_of q).observations) ≡ true → Reaches (recorded names records) y (enc_task rec.task) → ⊥
        unswept b i look h1 y j way =
            calm (exactly.scheduled_busy after n (v.swept.flags n
            (swept_up h1 (enc_task rec.task) (enc_task q.task) (along {a = enc_task q.task} {b = y} {r = record_of q} at_q j way) refl n q.task
            (e.named n q k) refl) idle_after look))

        looked : (before : TaskRecord) → kept_of records which ≡ Some before → IsMarked after.swept which → (b : Bool) → slice_index_or s.looks_out n false ≡ b
            → IsUntouched world (recorded names records) (recorded names changed) (enc_task rec.task) (record_of rec) (record_of q)
        looked before l h1 true i =
            inl (λ y j way. unswept (slice_index_or after.swept n false) refl (ap (λ xs. slice_index_or xs n false) looks_are ∙ i) h1 y j way)
        looked before l h1 false i =
            inr (stamps_stay n q before k l h calm, inr (e.looks n q k (λ z. exactly.idle_not_settled s.marks n h z) i))

        told_so : (before : TaskRecord) → kept_of records which ≡ Some before → TellsOthers after which before rec
            → IsUntouched world (recorded names records) (recorded names changed) (enc_task rec.task) (record_of rec) (record_of q)
        told_so before l (inl shape) = inr (stamps_stay n q before k l h calm, inl (record_of before, at_no (Some before) l, shape))
        told_so before l (inr h1) = looked before l h1 (slice_index_or s.looks_out n false) refl

        by : (o : Option TaskRecord) → kept_of records which ≡ o
            → IsUntouched world (recorded names records) (recorded names changed) (enc_task rec.task) (record_of rec) (record_of q)
        by None l = inl (new_unreached (recorded names records) (enc_task rec.task) (enc_task q.task) (record_of q) c.closed (at_no None l) at_q)
        by (Some before) l = told_so before l (f.others before l)

    untouched : (x : List ℕ) (r : Record) → (x ≡ enc_task rec.task → ⊥) → (busy_by names after x ≡ true → ⊥) → recorded names records x ≡ Some r
        → IsUntouched world (recorded names records) (recorded names changed) (enc_task rec.task) (record_of rec) r
    untouched x r d calm now =
        let m = record_has_number names records x r now in
        subst (IsUntouched world (recorded names records) (recorded names changed) (enc_task rec.task) (record_of rec)) (sym m.same)
        (by m.number m.rec m.kept (λ b. calm (ap (busy_by names after) m.bytes ∙ its_busy_after m.number m.task m.named b)) (exactly.stage_of s.marks m.number)
        (m.bytes ∙ ap enc_task (one_some m.task m.rec.task (sym m.named ∙ e.named m.number m.rec m.kept))))
      where
        away : (n : ℕ) (q : TaskRecord) → kept_of records n ≡ Some q → (x ≡ enc_task q.task) → n ≡ which → ⊥
        away n q k b i =
            d (b ∙ ap enc_task (one_some q.task rec.task (sym (e.named n q k) ∙ ap (slice_get names) i ∙ at)))

        by : (n : ℕ) (q : TaskRecord) → kept_of records n ≡ Some q → (is_busy after n ≡ true → ⊥) → exactly.Stage s.marks n
            → (x ≡ enc_task q.task)
            → IsUntouched world (recorded names records) (recorded names changed) (enc_task rec.task) (record_of rec) (record_of q)
        by n q k b (idle h) i = idle_untouched n q k h b
        by n q k b (going h p) i = absurd (b (still_busy n (away n q k i) (exactly.runs_busy s n h)))
        by n q k b (done h) i =
            inl (λ y j way.
            settled_apart n q.task (enc_task rec.task) (e.named n q k) h
            (along {a = enc_task q.task} {b = y} {r = record_of q}
            (record_by_number names records n q.task e.tasks (e.named n q k) ∙ ap (option_map record_of) k) j way) busy_t)

  -- ---- the build after it

  needs_recorded : (y : List ℕ) → among y (needs_of (record_of rec).observations) ≡ true → IsRecorded (recorded names records) y
  needs_recorded y i =
      let m = among_from (called_in rec.deps) y (subst (λ xs. among y xs ≡ true) (needs_called rec.deps) i) in
      let k = number_of names row.needs (called_in rec.deps) m.task row_is.0 (placed (called_in rec.deps) m.number m.task m.named) in
      subst (IsRecorded (recorded names records)) (sym m.bytes)
      (exactly.settled_task u names records s e w k.number m.task k.named (ready k.number k.listed)).recorded

  tasks_after : (n : ℕ) (q : TaskRecord) → kept_of changed n ≡ Some q → slice_get names n ≡ Some q.task
  tasks_after n q k = by (exactly.same_or_not which n)
    where
      by : (n ≡ which) ⊎ (n ≡ which → ⊥) → slice_get names n ≡ Some q.task
      by (inl i) =
          ap (slice_get names) i ∙ at
          ∙ ap (λ (z : TaskRecord). Some z.task) (one_some rec q (sym put_here ∙ ap (kept_of changed) (sym i) ∙ k))
      by (inr d) = e.named n q (sym (put_there n d) ∙ k)

  rows_after : (n : ℕ) (q : TaskRecord) → kept_of changed n ≡ Some q → runs (mark_of after.marks n) ≡ false
      → RowIs names (row_at after.rows n) (Some q)
  rows_after n q k h = by (exactly.same_or_not which n)
    where
      by : (n ≡ which) ⊎ (n ≡ which → ⊥) → RowIs names (row_at after.rows n) (Some q)
      by (inl i) =
          let same : rec ≡ q = one_some rec q (sym put_here ∙ ap (kept_of changed) (sym i) ∙ k) in
          subst (λ (z : Row). RowIs names z (Some q)) (sym (ap (row_at after.rows) i ∙ row_here))
          (subst (λ (z : TaskRecord). RowIs names row (Some z)) same row_is)
      by (inr d) =
          subst (λ (z : Row). RowIs names z (Some q)) (sym (row_there n d))
          (e.rows n q (sym (put_there n d) ∙ k) (ap runs (sym (mark_same n d)) ∙ h))

  runs_away : (n : ℕ) → runs (mark_of after.marks n) ≡ true → n ≡ which → ⊥
  runs_away n h i =
      clash (runs (mark_of after.marks n)) h
      (ap (λ z. runs (mark_of after.marks z)) i ∙ exactly.settled_not_runs (mark_of after.marks which) settled_here)

  running_after : (n : ℕ) (q : TaskRecord) (y : Task) → kept_of changed n ≡ Some q → runs (mark_of after.marks n) ≡ true
      → Contains (called_in q.deps) y → RestsOnIn names after n y
  running_after n q y k h i =
      let d : n ≡ which → ⊥ = runs_away n h in
      let m = e.running n q y (sym (put_there n d) ∙ k) (ap runs (sym (mark_same n d)) ∙ h) i in
      record {
        number = m.number;
        named = m.named;
        called = subst (λ (z : Row). Contains z.needs m.number) (sym (row_there n d)) m.called;
        settled = settled_still m.number m.settled;
      }

  ended_after : (n : ℕ) → IsSettled after.marks n → (q : TaskRecord) × (kept_of changed n ≡ Some q)
  ended_after n h = by (exactly.same_or_not which n)
    where
      by : (n ≡ which) ⊎ (n ≡ which → ⊥) → (q : TaskRecord) × (kept_of changed n ≡ Some q)
      by (inl i) = (rec, ap (kept_of changed) i ∙ put_here)
      by (inr d) = let m = e.ended n (sym (mark_same n d) ∙ h) in (m.0, put_there n d ∙ m.1)

  fresh_after : (n : ℕ) → n < length names → kept_of changed n ≡ None → is_busy after n ≡ true
  fresh_after n l k = by (exactly.same_or_not which n)
    where
      no_some : None ≡ Some rec → ⊥
      no_some i = cc

      by : (n ≡ which) ⊎ (n ≡ which → ⊥) → is_busy after n ≡ true
      by (inl i) = absurd (no_some (sym k ∙ ap (kept_of changed) i ∙ put_here))
      by (inr d) = still_busy n d (e.fresh n l (sym (put_there n d) ∙ k))

  consistent_after : IsUpdate u → (told : List (List ℕ) → Path → Told) → TellsRight (recorded names changed) told
      → IsConsistent world (earlier u) (present u) (MetIn u) (recorded names changed) told (map enc_task names) (rank_by names after.places)
      (Passes (busy_by names after))
  consistent_after update told tells =
      let c = e.consistent (told_by (recorded names records) (rank_by names s.places)) (exactly.tells u names records s e w.holds.agrees) in
      finish_consistent world (earlier u) (present u) (MetIn u) (recorded names records) (recorded names changed)
      (told_by (recorded names records) (rank_by names s.places)) told (map enc_task names) (rank_by names s.places) (rank_by names after.places)
      (Passes (busy_by names s)) (Passes (busy_by names after)) (enc_task rec.task) (record_of rec) c change right.is (among_at names which rec.task at)
      right.plain right.met needs_recorded (exactly.lower_by names changed after e.tasks rows_after running_after v.holds.agrees) tells others_stay
      (untouched update (told_by (recorded names records) (rank_by names s.places)) c)

  exact_after : IsUpdate u → IsExact u names changed after
  exact_after update = record {
    tasks = e.tasks;
    as_many = ap length rows_are ∙ length-set s.rows which row ∙ e.as_many;
    named = tasks_after;
    ended = ended_after;
    fresh = fresh_after;
    rows = rows_after;
    running = running_after;
    old = λ n q k h. let d = not_no n h in e.old n q (sym (put_there n d) ∙ k) (λ i. h (mark_same n d ∙ i));
    looks = λ n q k h i.
        let d = not_no n h in
        e.looks n q (sym (put_there n d) ∙ k) (λ j. h (mark_same n d ∙ j)) (ap (λ xs. slice_index_or xs n false) (sym looks_are) ∙ i);
    consistent = consistent_after update;
  }

pub finish_stays : (u : Update) (names : List Task) (records changed : Records) (s after : WalkState) (which : ℕ) (row : Row) (rec : TaskRecord)
    → IsUpdate u → IsExact u names records s → Stands s → Stands after → Puts records changed which rec → slice_get names which ≡ Some rec.task → IsRight u rec
    → RowIs names row (Some rec) → ((k : ℕ) → Contains row.needs k → IsSettled s.marks k) → Finishes records s after which row rec
    → StaysExact u names records s names changed after
finish_stays u names records changed s after which row rec update e w v puts at right row_is ready f = record {
  exact = exact_after u names records changed s after which row rec e w v puts at right row_is ready f update;
  settles = spares u names records changed s after which row rec e w v puts at right row_is ready f;
}
