-- How a right ledger changes: a task is entered, and one ends.
use Rattle.std.proofs.Common.{◌≡◌, ◌⊎◌, inl, inr, ℕ, zero, suc, ◌+◌, ◌<◌, ◌≤◌, false, cond, Some, None, List, [], ◌∷◌, ◌++◌, map, length, refl, sym, ap, subst}
use Rattle.std.proofs.Common.{◌∙◌, arith}
use Rattle.std.specs.Prelude.{slice_get, slice_set, slice_index_or}
use Rattle.std.specs.Ordering.{nat_cmp, is_eq}
use Rattle.std.proofs.lemmas.List.{length-append, length-map, map-append, get_or-set_same, get_or-set_other, length-set}
use Rattle.pie_value.specs.declared.task.Task.{Task}
use Rattle.pie_value.specs.Canonical.{enc_task}
use Rattle.pie_graph.specs.Rows.{Row, row_at, no_edges}
use Rattle.pie_order.specs.Places.{PlacesAgree}
use Rattle.pie_record.specs.declared.records.Records.{Records}
use Rattle.pie_record.specs.declared.task_record.TaskRecord.{TaskRecord}
use Rattle.pie_record.specs.inner.Records.{record_of as kept_of}
use Rattle.pie_model.specs.Paths.{among}
use Rattle.pie_model.specs.Trees.{trace_of}
use Rattle.pie_model.specs.Evaluation.{evaluation}
use Rattle.pie_model.specs.Separate.{AllMet}
use Rattle.pie_model.specs.inner.Consistent.{IsRecorded}
use Rattle.pie_step_laws.specs.Table.{IsTable}
use Rattle.pie_step_laws.proofs.RootLemmas.{build_begins}
use Rattle.pie_step_laws.proofs.Tables.{one_more_entered}
use Rattle.pie_check_laws.proofs.Members.{none_in}
use Rattle.pie_model_pipeline.specs.Rows.{record_of}
use Rattle.pie_model_pipeline.specs.World.{world}
use Rattle.pie_builder_laws.specs.Names.{AreTasks, called_in}
use Rattle.pie_builder_laws.specs.Tables.{recorded}
use Rattle.pie_builder_laws.specs.Views.{RowIs}
use Rattle.pie_builder_laws.proofs.Tabled.{no_records, no_record_named}
use Rattle.pie_builder_laws.proofs.Provided.{numbers_stay}
use Rattle.pie_compare_laws.proofs.Ways.{one_some}
use Rattle.pie_core_laws.specs.Update.{Update, MetIn, present}
use Rattle.pie_core_laws.proofs.Exactly.{same_or_not}
use Rattle.pie_topdown_laws.specs.Ledgers.{IsRightLedger, EndsAt}
use Rattle.pie_topdown_laws.proofs.Tabling.{gains, which}
use Rattle.pie_topdown_laws.proofs.Exactness.{below_or}
use Rattle.pie_running.proofs.Firsts.{same_number, other_number}

no_some : {A : Type 0} {X : Type 0} (x : X) → None ≡ Some x → A
no_some x h = absurd (never h)
  where
    never : None ≡ Some x → ⊥
    never e = cc

pub ledger_begins : (u : Update) (records : Records) → AreTasks [] → ((n : ℕ) → kept_of records n ≡ None) → IsRightLedger u [] records [] []
ledger_begins u records a none = record {
  tasks = a;
  as_many = refl;
  agrees = record { as_many = refl; each = λ n k c. absurd (none_in k c) };
  named = λ n rec k. no_some rec (sym (none n) ∙ k);
  each_row = λ n rec k. no_some rec (sym (none n) ∙ k);
  table = (build_begins world (present u) (recorded [] records) (λ x. no_records [] records x none)).rests.table;
  met = λ x r. no_some r.kept (sym (no_records [] records x none) ∙ r.is);
}

-- ---- a task is entered

pub named_more : (names : List Task) (t v : Task) (n : ℕ) → slice_get names n ≡ Some v → slice_get (names ++ t ∷ []) n ≡ Some v
named_more [] t v n e = cc
named_more (x ∷ xs) t v zero e = e
named_more (x ∷ xs) t v (suc n) e = named_more xs t v n e

pad_same : {X : Type 0} (xs : List X) (d : X) (n : ℕ) → slice_index_or (xs ++ d ∷ []) n d ≡ slice_index_or xs n d
pad_same [] d zero = refl
pad_same [] d (suc n) = refl
pad_same (x ∷ xs) d zero = refl
pad_same (x ∷ xs) d (suc n) = pad_same xs d n

few_held : (names : List Task) → length names < 50000 → length (map enc_task names) < world.most_tasks
unfolding world
few_held names few = let a = length-map names enc_task in omega (arith, a, few)

pub records_kept : (names : List Task) (records : Records) (t : Task) → kept_of records (length names) ≡ None
    → recorded (names ++ t ∷ []) records ≡ recorded names records
records_kept names records t none = λ i x. no_record_named names records t x none i

module _ (u : Update) (names : List Task) (records : Records) (rows : List Row) (places : List ℕ) (t : Task) (place : ℕ)
    (L : IsRightLedger u names records rows places) (tasks : AreTasks (names ++ t ∷ [])) (new : among (enc_task t) (map enc_task names) ≡ false)
    (few : length names < 50000) (none : kept_of records (length names) ≡ None)
    (agrees : PlacesAgree (rows ++ no_edges ∷ []) (places ++ place ∷ [])) where
  pub ledger_grows : IsRightLedger u (names ++ t ∷ []) records (rows ++ no_edges ∷ []) (places ++ place ∷ [])
  ledger_grows = record {
    tasks = tasks;
    as_many = length-append rows (no_edges ∷ []) ∙ ap (λ n. n + 1) L.as_many ∙ sym (length-append names (t ∷ []));
    agrees = agrees;
    named = λ n rec k. named_more names t rec.task n (L.named n rec k);
    each_row = λ n rec k. subst (λ z. RowIs (names ++ t ∷ []) z (Some rec)) (sym (pad_same rows no_edges n))
        (numbers_stay names t (row_at rows n).needs (called_in rec.deps) (L.each_row n rec k).0, (L.each_row n rec k).1);
    table = subst (λ X. IsTable world (present u) X (map enc_task (names ++ t ∷ []))) (sym (records_kept names records t none))
        (subst (λ z. IsTable world (present u) (recorded names records) z) (sym (map-append enc_task names (t ∷ [])))
        (one_more_entered world (present u) (recorded names records) (map enc_task names) L.table (enc_task t) new (few_held names few)));
    met = λ x r. L.met x (subst (λ X. IsRecorded X x) (records_kept names records t none) r);
  }

-- ---- a task ends

module _ (u : Update) (names : List Task) (old new : Records) (rows : List Row) (places places_after : List ℕ) (n : ℕ) (row : Row) (rec : TaskRecord)
    (L : IsRightLedger u names old rows places) (E : EndsAt u names old new n row rec) (agrees : PlacesAgree (slice_set rows n row) places_after) where
  -- a record then is the one that was put, or was there before
  data How (m : ℕ) (r : TaskRecord) : Type 0 where
    put : m ≡ n → r ≡ rec → How m r
    was : (m ≡ n → ⊥) → kept_of old m ≡ Some r → How m r

  how : (m : ℕ) (r : TaskRecord) → kept_of new m ≡ Some r → How m r
  how m r k = go (same_or_not n m)
    where
      go : (m ≡ n) ⊎ (m ≡ n → ⊥) → How m r
      go (inl e) =
          put e (one_some r rec (sym k ∙ E.puts m ∙ ap (λ b. cond b (Some rec) (kept_of old m)) (ap (λ z. is_eq (nat_cmp n z)) e ∙ same_number n)))
      go (inr d) = was d (sym (E.puts m ∙ ap (λ b. cond b (Some rec) (kept_of old m)) (other_number n m d)) ∙ k)

  inside : n < length rows
  inside = subst (λ z. n < z) (sym L.as_many) (within (below_or n (length names)))
    where
      past : (xs : List Task) (m : ℕ) → length xs ≤ m → slice_get xs m ≡ None
      past [] m h = refl
      past (x ∷ xs) zero h = absurd (none (length xs) h)
        where
          none : (a : ℕ) → suc a ≤ 0 → ⊥
          none a q = omega arith
      past (x ∷ xs) (suc m) h = past xs m (omega arith)

      within : (n < length names) ⊎ (length names ≤ n) → n < length names
      within (inl l) = l
      within (inr l) = no_some rec.task (sym (past names n l) ∙ E.named)

  pub ledger_gains : IsRightLedger u names new (slice_set rows n row) places_after
  ledger_gains = record {
    tasks = L.tasks;
    as_many = length-set rows n row ∙ L.as_many;
    agrees = agrees;
    named = λ m r k. named m r (how m r k);
    each_row = λ m r k. row_of m r (how m r k);
    table = gains world (present u) (recorded names old) (map enc_task names) L.table (recorded names new) (enc_task rec.task) (record_of rec) E.ends;
    met = λ x r. met x r (which world (present u) (recorded names old) (map enc_task names) L.table (recorded names new) (enc_task rec.task) (record_of rec)
        E.ends x r.kept r.is);
  }
    where
      named : (m : ℕ) (r : TaskRecord) → How m r → slice_get names m ≡ Some r.task
      named m r (put e q) = ap (slice_get names) e ∙ E.named ∙ ap (λ (z : TaskRecord). Some z.task) (sym q)
      named m r (was d k) = L.named m r k

      row_of : (m : ℕ) (r : TaskRecord) → How m r → RowIs names (row_at (slice_set rows n row) m) (Some r)
      row_of m r (put e q) =
          subst (λ z. RowIs names (row_at (slice_set rows n row) z) (Some r)) (sym e)
          (subst (λ z. RowIs names z (Some r)) (sym (get_or-set_same rows n row no_edges inside)) (subst (λ z. RowIs names row (Some z)) (sym q) E.row_is))
      row_of m r (was d k) = subst (λ z. RowIs names z (Some r)) (sym (get_or-set_other rows n m row no_edges d)) (L.each_row m r k)

      met : (x : List ℕ) (r : IsRecorded (recorded names new) x)
          → ((x ≡ enc_task rec.task) × (r.kept ≡ record_of rec)) ⊎ (recorded names old x ≡ Some r.kept)
          → AllMet world (MetIn u) (trace_of (evaluation world (present u) x))
      met x r (inl e) = subst (λ z. AllMet world (MetIn u) (trace_of (evaluation world (present u) z))) (sym e.0) E.met
      met x r (inr e) = L.met x (record { kept = r.kept; is = e })
