-- The first root that failed gives the verdict, and what is made of the tables has it.
use Rattle.std.proofs.Common.{◌≡◌, ◌⊎◌, inl, inr, true, false, Option, Some, None, List, [], ◌∷◌, ◌++◌, map, refl, sym, ap, subst, ◌∙◌}
use Rattle.std.specs.Prelude.{Contains}
use Rattle.std.proofs.lemmas.List.{map-append}
use Rattle.std.proofs.lemmas.List.Elements.{Contains-push_cases}
use Rattle.pie_value.specs.declared.task.Task.{Task}
use Rattle.pie_value.specs.declared.verdict.Refusal.{Refusal}
use Rattle.pie_value.specs.declared.verdict.Refusal.TheVariants as refusals
use Rattle.pie_value.specs.Canonical.{enc_task}
use Rattle.pie_record.specs.declared.records.Records.{Records}
use Rattle.pie_record.specs.declared.task_record.Outcome.{Outcome}
use Rattle.pie_record.specs.declared.task_record.Outcome.TheVariants.{Done, Failed, Cycled}
use Rattle.pie_record.specs.inner.Records.{record_of as kept_of}
use Rattle.pie_tables.specs.declared.tables.Tables.{Tables}
use Rattle.pie_view.specs.Content.{Staged}
use Rattle.pie_checks.specs.declared.built.Built.{Built}
use Rattle.pie_results.specs.inner.Failures.{refusal_in, refusal_by, Fails, FailsFirst}
use Rattle.pie_results.specs.inner.Made.{EndsAs, Checks, GoesOn, Makes}
use Rattle.pie_walk.specs.States.{WalkState}
use Rattle.pie_walk.specs.Standing.{Stands}
use Rattle.pie_model.specs.Trees.{is_done as ends_well, entered}
use Rattle.pie_model.specs.Evaluation.{evaluation}
use Rattle.pie_model.specs.Verdict.{verdict}
use Rattle.pie_step_laws.specs.UnderWay.{HasEnded}
use Rattle.pie_step_laws.proofs.RootLemmas.{fails_here, cycles_here}
use Rattle.pie_settle_laws.specs.Ends.{recorded_among}
use Rattle.pie_check_laws.specs.Verdicts.{verdict_by}
use Rattle.pie_check_laws.proofs.Members.{none_in, here_or_there}
use Rattle.pie_model_pipeline.specs.Words.{fault_of}
use Rattle.pie_model_pipeline.specs.Rows.{outcome_of, record_of, refusal_of, verdict_of}
use Rattle.pie_model_pipeline.specs.World.{world}
use Rattle.pie_builder_laws.specs.Tables.{recorded}
use Rattle.pie_builder_laws.proofs.Naming.{placed, one_place}
use Rattle.pie_compare_laws.proofs.Ways.{one_some}
use Rattle.pie_core_laws.specs.Update.{Update, present}
use Rattle.pie_core_laws.specs.Exact.{IsExact}
use Rattle.pie_core_laws.specs.Keeping.{Separates}
use Rattle.pie_core_laws.specs.Ends.{IsDoneRoot, entered_by}
use Rattle.pie_core_laws.proofs.Rooted.{roots_between, root_ends}
use Rattle.pie_result_laws.specs.Verdicts.{IsSettledRoot, RootsSettle}
use Rattle.pie_result_laws.proofs.Living.{checks_decide}

no_some : {X : Type 0} {x : X} → None ≡ Some x → ⊥
no_some h = cc

no_true : false ≡ true → ⊥
no_true h = cc

-- a root that refuses nothing ended with a value
done_well : (o : Outcome) → None ≡ refusal_in o → ends_well (outcome_of o) ≡ true
done_well (Done v) h = refl
done_well (Failed f) h = absurd (no_some h)
done_well (Cycled ts) h = absurd (no_some h)

module _ (u : Update) (names : List Task) (records : Records) (s : WalkState) (e : IsExact u names records s) (w : Stands s) (apart : Separates u) where
  -- what a root says is what its record says
  said : (root : Task) (m : IsSettledRoot names records s root) (why : Option Refusal) → Fails names records root why → why ≡ refusal_in m.rec.outcome
  said root m why (inl h) =
      h.2 ∙ ap refusal_by (ap (kept_of records) (one_place names e.tasks h.0 m.number root h.1 m.named) ∙ m.kept)
  said root m why (inr h) = absurd (h.0 (placed names m.number root m.named))

  done_root : (root : Task) (m : IsSettledRoot names records s root) → ends_well (record_of m.rec).outcome ≡ true → IsDoneRoot names records s root
  done_root root m h =
      record { number = m.number; named = m.named; output = record { settled = m.settled; rec = m.rec; kept = m.kept; gave = h } }

  one_more : (done : List Task) (root : Task) → ((r : Task) → Contains done r → IsDoneRoot names records s r) → IsDoneRoot names records s root
      → (r : Task) → Contains (done ++ root ∷ []) r → IsDoneRoot names records s r
  one_more done root all d r i = by (Contains-push_cases done root r i)
    where
      by : Contains done r ⊎ (root ≡ r) → IsDoneRoot names records s r
      by (inl j) = all r j
      by (inr j) = subst (IsDoneRoot names records s) j d

  -- the verdict where a root refuses the build
  refused : (roots done : List Task) (root : Task) (rest : List Task) → roots ≡ done ++ root ∷ rest
      → ((r : Task) → Contains done r → IsDoneRoot names records s r) → (m : IsSettledRoot names records s root) (refusal : Refusal)
      → (o : Outcome) → m.rec.outcome ≡ o → Some refusal ≡ refusal_in o → refusal_of refusal ≡ verdict world (present u) (map enc_task roots)
  refused roots done root rest is all m refusal (Done v) i h = absurd (no_some (sym h))
  refused roots done root rest is all m refusal (Failed f) i h =
      ap refusal_of (one_some refusal (refusals.Fault f) h)
      ∙ sym (fails_here world (present u) (map enc_task roots) (map enc_task done) (map enc_task rest)
      (recorded_among (entered_by u done) (recorded names records)) (entered_by u done) (enc_task root)
      (roots_between u names records s done e w apart all) (ap (map enc_task) is ∙ map-append enc_task done (root ∷ rest))
      (entered (evaluation world (present u) (enc_task root)) (entered_by u done)) (enc_task f.task) (fault_of f.kind)
      (subst (HasEnded world (present u) (enc_task root) (entered_by u done) (entered (evaluation world (present u) (enc_task root)) (entered_by u done)))
      (ap outcome_of i) (root_ends u names records s done e w apart all m.number root m.rec m.named m.settled m.kept))).is
  refused roots done root rest is all m refusal (Cycled ts) i h =
      ap refusal_of (one_some refusal (refusals.Cycle ts) h)
      ∙ sym (cycles_here world (present u) (map enc_task roots) (map enc_task done) (map enc_task rest)
      (recorded_among (entered_by u done) (recorded names records)) (entered_by u done) (enc_task root)
      (roots_between u names records s done e w apart all) (ap (map enc_task) is ∙ map-append enc_task done (root ∷ rest))
      (entered (evaluation world (present u) (enc_task root)) (entered_by u done)) (map enc_task ts)
      (subst (HasEnded world (present u) (enc_task root) (entered_by u done) (entered (evaluation world (present u) (enc_task root)) (entered_by u done)))
      (ap outcome_of i) (root_ends u names records s done e w apart all m.number root m.rec m.named m.settled m.kept))).is

  regroup : (done : List Task) (root : Task) (rest : List Task) → done ++ root ∷ rest ≡ (done ++ root ∷ []) ++ rest
  regroup [] root rest = refl
  regroup (d ∷ done) root rest = ap (λ xs. d ∷ xs) (regroup done root rest)

  failed_from : (roots done rest : List Task) (refusal : Refusal) → roots ≡ done ++ rest → ((r : Task) → Contains done r → IsDoneRoot names records s r)
      → RootsSettle names records s rest → FailsFirst names records rest (Some refusal) → refusal_of refusal ≡ verdict world (present u) (map enc_task roots)
  failed_from roots done [] refusal is all h f = absurd (no_some (sym f))
  failed_from roots done (root ∷ rest) refusal is all h (inl f) =
      refused roots done root rest is all h.0 refusal h.0.rec.outcome refl (said root h.0 (Some refusal) f.0)
  failed_from roots done (root ∷ rest) refusal is all h (inr f) =
      let well : ends_well (record_of h.0.rec).outcome ≡ true = done_well h.0.rec.outcome (said root h.0 None f.0) in
      failed_from roots (done ++ root ∷ []) rest refusal (is ∙ regroup done root rest) (one_more done root all (done_root root h.0 well)) (h.1 well) f.1

  pub failed_decide : (roots : List Task) (refusal : Refusal) → RootsSettle names records s roots → FailsFirst names records roots (Some refusal)
      → refusal_of refusal ≡ verdict world (present u) (map enc_task roots)
  failed_decide roots refusal h f = failed_from roots [] roots refusal refl (λ r i. absurd (none_in r i)) h f

  -- where none failed, all are done
  pub all_done : (roots : List Task) → RootsSettle names records s roots → FailsFirst names records roots None → (r : Task) → Contains roots r
      → IsDoneRoot names records s r
  all_done [] h f r i = absurd (none_in r i)
  all_done (root ∷ rest) h (inl f) r i = absurd (no_true f.1)
  all_done (root ∷ rest) h (inr f) r i =
      let well : ends_well (record_of h.0.rec).outcome ≡ true = done_well h.0.rec.outcome (said root h.0 None f.0) in
      by (here_or_there root r rest i) (done_root root h.0 well) (all_done rest (h.1 well) f.1 r)
    where
      by : (root ≡ r) ⊎ Contains rest r → IsDoneRoot names records s root → (Contains rest r → IsDoneRoot names records s r) → IsDoneRoot names records s r
      by (inl j) d g = subst (IsDoneRoot names records s) j d
      by (inr j) d g = g j

-- what is made of the tables
pub made_verdict : (u : Update) (t : Tables) (s : WalkState) (staged : Staged) (roots : List Task) (b : Built) → IsExact u t.names t.records s → Stands s
    → Separates u → RootsSettle t.names t.records s roots → Makes t s.rows staged roots b
    → verdict_of b.verdict ≡ verdict world (present u) (map enc_task roots)
made_verdict u t s staged roots b e w apart h m = by m.why m.first m.goes
  where
    checked : (c : Checks t s.rows staged roots b) → FailsFirst t.names t.records roots None → (answer : Option Refusal) → c.answer ≡ answer
        → EndsAs answer t s.rows staged roots c.live b → verdict_of b.verdict ≡ verdict world (present u) (map enc_task roots)
    checked c f None i g =
        ap verdict_of g.accepts ∙ ap verdict_by (sym i)
        ∙ checks_decide u t.names t.records s roots e w apart (all_done u t.names t.records s e w apart roots h f) c.live c.are c.answer c.found
    checked c f (Some refusal) i g =
        ap verdict_of g ∙ ap verdict_by (sym i)
        ∙ checks_decide u t.names t.records s roots e w apart (all_done u t.names t.records s e w apart roots h f) c.live c.are c.answer c.found

    by : (why : Option Refusal) → FailsFirst t.names t.records roots why → GoesOn why t s.rows staged roots b
        → verdict_of b.verdict ≡ verdict world (present u) (map enc_task roots)
    by None f c = checked c f c.answer refl c.ends
    by (Some refusal) f g = ap verdict_of g ∙ failed_decide u t.names t.records s e w apart roots refusal h f
