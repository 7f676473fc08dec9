-- Settled roots are done.
use Rattle.std.proofs.Common.{◌≡◌, ℕ, true, Some, List, map, sym, ap, subst, ◌∙◌}
use Rattle.std.specs.Prelude.{slice_get, Contains}
use Rattle.pie_value.specs.declared.task.Task.{Task}
use Rattle.pie_value.specs.Canonical.{enc_task}
use Rattle.pie_record.specs.declared.records.Records.{Records}
use Rattle.pie_record.specs.declared.task_record.TaskRecord.{TaskRecord}
use Rattle.pie_record.specs.inner.Records.{record_of as kept_of}
use Rattle.pie_walk.specs.Marks.{IsSettled}
use Rattle.pie_walk.specs.States.{WalkState}
use Rattle.pie_walk.specs.Standing.{Stands}
use Rattle.pie_model.specs.Paths.{among}
use Rattle.pie_model.specs.Trees.{outcome_of, is_done as ends_well, entered}
use Rattle.pie_model.specs.Evaluation.{evaluation}
use Rattle.pie_model.specs.Records.{Record}
use Rattle.pie_step_laws.specs.UnderWay.{HasEnded}
use Rattle.pie_step_laws.specs.Roots.{Between}
use Rattle.pie_settle_laws.specs.Known.{IsKnown, AreDone}
use Rattle.pie_settle_laws.specs.Ends.{recorded_among}
use Rattle.pie_settle_laws.proofs.Ending.{known_done, known_ends}
use Rattle.pie_model_pipeline.specs.Rows.{record_of}
use Rattle.pie_model_pipeline.specs.World.{world}
use Rattle.pie_builder_laws.specs.Tables.{recorded}
use Rattle.pie_builder_laws.proofs.Naming.{among_from, placed}
use Rattle.pie_compare_laws.proofs.Ways.{one_some}
use Rattle.pie_core_laws.specs.Update.{Update, present}
use Rattle.pie_core_laws.specs.Exact.{IsExact}
use Rattle.pie_core_laws.specs.Keeping.{Separates}
use Rattle.pie_core_laws.specs.Ends.{IsDoneRoot, entered_by}
use Rattle.pie_core_laws.proofs.Kept.{settled_known}
use Rattle.pie_core_laws.proofs.Seen.{record_now, counted}

module _ (u : Update) (names : List Task) (records : Records) (s : WalkState) (roots : List Task) (e : IsExact u names records s) (w : Stands s)
    (apart : Separates u) (all : (r : Task) → Contains roots r → IsDoneRoot names records s r) where
  pub roots_done : AreDone world (present u) (recorded names records) (map enc_task roots)
  roots_done = record { known = each_known; done = each_done }
    where
      each_known : (x : List ℕ) → among x (map enc_task roots) ≡ true → IsKnown world (present u) (recorded names records) x
      each_known x i =
          let m = among_from roots x i in
          let r = all m.task (placed roots m.number m.task m.named) in
          subst (IsKnown world (present u) (recorded names records)) (sym m.bytes)
          (settled_known u names records s r.number m.task e w apart r.named r.output.settled).known

      each_done : (x : List ℕ) → among x (map enc_task roots) ≡ true → ends_well (outcome_of (evaluation world (present u) x)) ≡ true
      each_done x i =
          let m = among_from roots x i in
          let r = all m.task (placed roots m.number m.task m.named) in
          let h = r.output in
          let same : h.rec.task ≡ m.task = one_some h.rec.task m.task (sym (e.named r.number h.rec h.kept) ∙ r.named) in
          ap (λ z. ends_well (outcome_of (evaluation world (present u) z))) (m.bytes ∙ ap enc_task (sym same))
          ∙ sym (ap (λ (z : Record). ends_well z.outcome) (record_now u names records s e w apart r.number h.rec h.settled h.kept)) ∙ h.gave

  pub roots_between : Between world (present u) (map enc_task roots) (recorded_among (entered_by u roots) (recorded names records)) (entered_by u roots)
  roots_between =
      known_done world (present u) (recorded names records) (map enc_task names) (map enc_task roots) (counted u names records s e w apart) roots_done

  pub root_ends : (n : ℕ) (root : Task) (rec : TaskRecord) → slice_get names n ≡ Some root → IsSettled s.marks n → kept_of records n ≡ Some rec
      → HasEnded world (present u) (enc_task root) (entered_by u roots) (entered (evaluation world (present u) (enc_task root)) (entered_by u roots))
      (record_of rec).outcome
  root_ends n root rec at h k =
      let same : rec.task ≡ root = one_some rec.task root (sym (e.named n rec k) ∙ at) in
      known_ends world (present u) (recorded names records) (map enc_task names) (map enc_task roots) (enc_task root) (record_of rec).outcome
      (counted u names records s e w apart) roots_done (settled_known u names records s n root e w apart at h).known
      (ap (λ (z : Task). outcome_of (evaluation world (present u) (enc_task z))) (sym same)
      ∙ sym (ap (λ (z : Record). z.outcome) (record_now u names records s e w apart n rec h k)))
