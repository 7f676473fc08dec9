-- A build begins exact.
use Rattle.std.proofs.Common.{◌≡◌, ◌⊎◌, inl, inr, ℕ, ◌<◌, ◌≤◌, Bool, true, false, Some, None, List, map, length, refl, sym, ap, subst, ◌∙◌, arith}
use Rattle.std.specs.Prelude.{slice_get, slice_index_or, Contains, option_map, get_or}
use Rattle.std.proofs.lemmas.List.{length-map}
use Rattle.std.proofs.lemmas.Option.{slice_get_cases}
use Rattle.pie_value.specs.declared.task.Task.{Task}
use Rattle.pie_value.specs.Canonical.{enc_task}
use Rattle.pie_graph.specs.Rows.{row_at}
use Rattle.pie_order.specs.Places.{PlacesAgree}
use Rattle.pie_record.specs.declared.records.Records.{Records}
use Rattle.pie_record.specs.declared.task_record.TaskRecord.{TaskRecord}
use Rattle.pie_record.specs.inner.Records.{record_of as kept_of}
use Rattle.pie_named.specs.declared.named.Named.{Named}
use Rattle.pie_walk.specs.declared.marks.Mark.TheVariants.{New, Settled}
use Rattle.pie_walk.specs.Marks.{mark_of, IsSettled}
use Rattle.pie_walk.specs.States.{WalkState}
use Rattle.pie_model.specs.Paths.{among}
use Rattle.pie_model.specs.Records.{Record}
use Rattle.pie_model.specs.inner.RecordLaws.{Passes}
use Rattle.pie_model.proofs.Basics.{clash}
use Rattle.pie_model_pipeline.specs.Rows.{record_of}
use Rattle.pie_model_pipeline.specs.World.{world, next}
use Rattle.pie_builder_laws.specs.Names.{called_in}
use Rattle.pie_builder_laws.specs.Tables.{recorded}
use Rattle.pie_builder_laws.specs.Views.{RowIs}
use Rattle.pie_builder_laws.proofs.Naming.{among_at}
use Rattle.pie_compare_laws.proofs.Ways.{one_some}
use Rattle.pie_builder_laws.proofs.Tabled.{record_has_number, record_by_number}
use Rattle.pie_earlier_laws.specs.Sources.{AreTested}
use Rattle.pie_earlier_laws.proofs.Beginning.{earlier_begin}
use Rattle.pie_earlier_laws.proofs.Pipelines.{manners_of, sources_agree}
use Rattle.pie_core_laws.specs.Update.{Update, IsUpdate, IsInformed, earlier, present}
use Rattle.pie_core_laws.specs.Comparing.{IsOld}
use Rattle.pie_core_laws.specs.Exact.{rank_by, runs, is_busy, busy_by, RestsOnIn, IsExact}
use Rattle.pie_core_laws.specs.Beginning.{IsLoaded, IsTestedTask}
use Rattle.pie_core_laws.proofs.Numbers.{by_number}
use Rattle.pie_core_laws.proofs.Compared.{untouched_tested}
use Rattle.pie_core_laws.proofs.Exactly as exactly

module _ (u : Update) (names : List Task) (records : Records) (s : WalkState) (n : Named) (update : IsUpdate u) (informed : IsInformed u n)
    (l : IsLoaded u names records s) (agree : PlacesAgree s.rows s.places)
    (tested : (k : ℕ) (rec : TaskRecord) → kept_of records k ≡ Some rec → slice_index_or s.scheduled k false ≡ false → IsTestedTask u n rec) where
  none_runs : (k : ℕ) → runs (mark_of s.marks k) ≡ true → ⊥
  none_runs k h = clash (runs (mark_of s.marks k)) h (ap runs (l.unmet k))

  none_settled : (k : ℕ) → IsSettled s.marks k → ⊥
  none_settled k h = no_mark (sym (l.unmet k) ∙ h)
    where
      no_mark : New ≡ Settled → ⊥
      no_mark e = cc

  old_at : (k : ℕ) (rec : TaskRecord) → kept_of records k ≡ Some rec → IsOld u rec
  old_at k rec h = record {
    left = sym (l.old (enc_task rec.task)) ∙ record_by_number names records k rec.task l.tasks (l.named k rec h) ∙ ap (option_map record_of) h;
    storable = l.storable k rec h;
  }

  all_recorded : (k : ℕ) → k < length names → kept_of records k ≡ None → is_busy s k ≡ true
  all_recorded k i h = by (slice_get_cases names k).1
    where
      apart : (rec : TaskRecord) → kept_of records k ≡ Some rec → ⊥
      apart rec j = no_record (sym h ∙ j)
        where
          no_record : None ≡ Some rec → ⊥
          no_record e = cc

      by : ((t : Task) × (k < length names) × (slice_get names k ≡ Some t) × (get_or names k t ≡ t)) ⊎ ((length names ≤ k) × (slice_get names k ≡ None))
          → is_busy s k ≡ true
      by (inl m) = let r = l.whole k m.0 m.2 in absurd (apart r.0 r.1)
      by (inr m) = absurd (below k (length names) i m.0)
        where
          below : (a b : ℕ) → a < b → b ≤ a → ⊥
          below a b p q = omega arith

  rows_at : (k : ℕ) (rec : TaskRecord) → kept_of records k ≡ Some rec → runs (mark_of s.marks k) ≡ false → RowIs names (row_at s.rows k) (Some rec)
  rows_at k rec h r = l.rows k rec h

  runs_at : (k : ℕ) (rec : TaskRecord) (y : Task) → kept_of records k ≡ Some rec → runs (mark_of s.marks k) ≡ true → Contains (called_in rec.deps) y
      → RestsOnIn names s k y
  runs_at k rec y h r c = absurd (none_runs k r)

  few_held : length (map enc_task names) ≤ world.most_tasks
  unfolding world
  few_held = let a = length-map names enc_task in let b = l.few in omega arith

  counted : (x : List ℕ) (r : Record) → recorded names records x ≡ Some r → among x (map enc_task names) ≡ true
  counted x r h =
      let m = record_has_number names records x r h in
      subst (λ z. among z (map enc_task names) ≡ true) (sym m.bytes) (among_at names m.number m.task m.named)

  idle : (x : List ℕ) (r : Record) → recorded names records x ≡ Some r → (busy_by names s x ≡ true → ⊥)
      → ((earlier u).next x ≡ (present u).next x) × AreTested world (present u) u.names r.observations
  idle x r h calm =
      let m = record_has_number names records x r h in
      by m.number m.task m.rec m.named m.bytes m.kept m.same
    where
      unscheduled : (k : ℕ) (t : Task) → slice_get names k ≡ Some t → x ≡ enc_task t → (b : Bool) → slice_index_or s.scheduled k false ≡ b → b ≡ false
      unscheduled k t i j true z =
          absurd (calm (ap (busy_by names s) j ∙ by_number false (is_busy s) names k t l.tasks i ∙ exactly.scheduled_busy s k z))
      unscheduled k t i j false z = refl

      by : (k : ℕ) (t : Task) (rec : TaskRecord) → slice_get names k ≡ Some t → x ≡ enc_task t → kept_of records k ≡ Some rec → r ≡ record_of rec
          → ((earlier u).next x ≡ (present u).next x) × AreTested world (present u) u.names r.observations
      by k t rec i j q z =
          let test = tested k rec q (unscheduled k t i j (slice_index_or s.scheduled k false) refl) in
          let same : x ≡ enc_task rec.task = j ∙ ap enc_task (one_some t rec.task (sym i ∙ l.named k rec q)) in (
            ap (next u.old_functions) same ∙ test.meaning ∙ ap (next u.functions) (sym same),
            subst (λ (y : Record). AreTested world (present u) u.names y.observations) (sym z)
                (untouched_tested u n rec update informed (old_at k rec q) test.untouched).0,
          )

  pub begins_exact : IsExact u names records s
  begins_exact = record {
    tasks = l.tasks;
    as_many = l.as_many;
    named = l.named;
    ended = λ k h. absurd (none_settled k h);
    fresh = all_recorded;
    rows = rows_at;
    running = runs_at;
    old = λ k rec h i. old_at k rec h;
    looks = λ k rec h i f. l.looks k rec h f;
    consistent = λ told tells.
        earlier_begin world (earlier u) (present u) u.old_roots u.roots u.besides (manners_of u.old_functions u.built) update.build.accepted u.names
        (sources_agree u.old_functions u.functions u.built u.left u.directory u.old_roots u.names update.build update.changes)
        (recorded names records) told (map enc_task names) (rank_by names s.places) (Passes (busy_by names s)) l.old
        (exactly.lower_by names records s l.tasks rows_at runs_at agree) tells few_held counted idle;
  }
