-- Tasks that run, and how they end.
use Rattle.std.proofs.Common.{◌≡◌, inl, ℕ, suc, ◌<◌, true, false, Some, None, List, [], ◌∷◌, map, length, refl, sym, ap, subst, ◌∙◌, arith}
use Rattle.std.proofs.lemmas.List.{length-map}
use Rattle.pie_base.specs.declared.fault.FaultKind.TheVariants.{Unknown}
use Rattle.pie_value.specs.declared.task.Task.{Task}
use Rattle.pie_value.specs.Canonical.{enc_task, IsCanonicalTask}
use Rattle.pie_types.specs.Whole.{number_from}
use Rattle.pie_record.specs.declared.records.Records.{Records}
use Rattle.pie_record.specs.declared.task_record.Outcome.TheVariants.{Failed}
use Rattle.pie_record.specs.declared.task_record.TaskRecord.{TaskRecord}
use Rattle.pie_record.specs.inner.Records.{record_of as kept_of}
use Rattle.pie_walk.specs.Marks.{IsSettled}
use Rattle.pie_walk.specs.States.{WalkState}
use Rattle.pie_walk.specs.Standing.{Stands}
use Rattle.pie_model.specs.Paths.{among}
use Rattle.pie_model.specs.declared.words.How.{How}
use Rattle.pie_model.specs.declared.words.Event.TheVariants.{Require}
use Rattle.pie_model.specs.declared.words.FaultKind.TheVariants as model_faults
use Rattle.pie_model.specs.declared.words.Outcome.{Outcome}
use Rattle.pie_model.specs.declared.words.Outcome.TheVariants.{Ended, Failed as FailedBy}
use Rattle.pie_model.specs.Trees.{outcome_of, trace_of, is_done as ends_well, is_plain}
use Rattle.pie_model.specs.Evaluation.{evaluation}
use Rattle.pie_model.specs.Records.{Record, Absent, Required, Observation, observed, record_of as model_record}
use Rattle.pie_model.specs.Separate.{AllMet}
use Rattle.pie_model.specs.inner.RecordLaws.{Passes}
use Rattle.pie_model.specs.inner.Stack.{Frame, tasks_of}
use Rattle.pie_step_laws.specs.Frames.{begun, was_answered, set_aside}
use Rattle.pie_settle_laws.specs.Going.{AreBusy, HasLeft}
use Rattle.pie_settle_laws.specs.Going.Ends.{failing}
use Rattle.pie_settle_laws.proofs.Goings.{base_begins, new_begins, is_told}
use Rattle.pie_settle_laws.proofs.Leaving.{going_ends, going_stops}
use Rattle.pie_model_pipeline.specs.Rows.{record_of}
use Rattle.pie_model_pipeline.specs.World.{world}
use Rattle.pie_builder_laws.specs.Tables.{recorded}
use Rattle.pie_builder_laws.proofs.Coded.{unknown_fails}
use Rattle.pie_builder_laws.proofs.Naming.{among_at}
use Rattle.pie_earlier_laws.proofs.OldRows.{old_row}
use Rattle.pie_earlier_laws.proofs.Meeting.{tried_met}
use Rattle.pie_core_laws.specs.Update.{Update, IsUpdate, MetIn, earlier, present}
use Rattle.pie_core_laws.specs.Comparing.{IsOld}
use Rattle.pie_core_laws.specs.Exact.{is_busy, busy_by, IsExact}
use Rattle.pie_core_laws.specs.Keeping.{Separates}
use Rattle.pie_core_laws.specs.Finishing.{IsRight}
use Rattle.pie_core_laws.specs.Running.{AreRunning, GoesIn, IsBaseOf, left_record}
use Rattle.pie_core_laws.proofs.Numbers.{by_number}
use Rattle.pie_core_laws.proofs.Kept.{settled_known}
use Rattle.pie_core_laws.proofs.Seen.{record_now, counted}
use Rattle.pie_core_laws.proofs.Exactly as exactly

pub running_busy : (u : Update) (names : List Task) (records : Records) (s : WalkState) (ts : List (List ℕ)) → IsExact u names records s
    → AreRunning names s ts → AreBusy (Passes (busy_by names s)) (map enc_task names) ts
running_busy u names records s ts e r = record {
  each = λ x i.
      let m = r x i in
      ap (busy_by names s) m.bytes ∙ by_number false (is_busy s) names m.number m.task e.tasks m.named ∙ exactly.runs_busy s m.number m.ran;
  counted = λ x i.
      let m = r x i in subst (λ z. among z (map enc_task names) ≡ true) (sym m.bytes) (among_at names m.number m.task m.named);
}

-- ---- requires

few_held : (names : List Task) → length names < 50000 → length (map enc_task names) < world.most_tasks
unfolding world
few_held names l = let a = length-map names enc_task in omega (arith, a, l)

pub required_begin : (u : Update) (names : List Task) (records : Records) (s : WalkState) (base : List ℕ) (fs : List Frame) (f : Frame) (n : ℕ) (h : How)
    (t : Task) → IsExact u names records s → AreRunning names s (tasks_of (f ∷ fs)) → GoesIn u names records s base fs f → f.left ≡ suc n
    → (present u).next f.task f.progress.answers ≡ Require h (enc_task t) → among (enc_task t) (map enc_task names) ≡ false → length names < 50000
    → GoesIn u names records s base (set_aside f n ∷ fs) (begun world (enc_task t))
required_begin u names records s base fs f n h t e r g l q new few =
    new_begins world (present u) (recorded names records) (Passes (busy_by names s)) base fs f g (map enc_task names)
    (running_busy u names records s (tasks_of (f ∷ fs)) e r) n h (enc_task t) l q new (few_held names few)

module _ (u : Update) (names : List Task) (records : Records) (s : WalkState) (base : List ℕ) (fs : List Frame) (f : Frame) (n : ℕ) (h : How) (k : ℕ)
    (rec : TaskRecord) (e : IsExact u names records s) (w : Stands s) (apart : Separates u) (r : AreRunning names s (tasks_of (f ∷ fs)))
    (g : GoesIn u names records s base fs f) (l : f.left ≡ suc n) (q : (present u).next f.task f.progress.answers ≡ Require h (enc_task rec.task))
    (settled : IsSettled s.marks k) (kept : kept_of records k ≡ Some rec) where
  ended_so : outcome_of (evaluation world (present u) (enc_task rec.task)) ≡ (record_of rec).outcome
  ended_so = sym (ap (λ (z : Record). z.outcome) (record_now u names records s e w apart k rec settled kept))

  pub settled_answers : (v : List ℕ) → (record_of rec).outcome ≡ Ended v
      → GoesIn u names records s base fs (was_answered world (present u) f n h (enc_task rec.task) v)
  settled_answers v o =
      let z = settled_known u names records s k rec.task e w apart (e.named k rec kept) settled in
      is_told world (present u) (recorded names records) (Passes (busy_by names s)) base fs f g (map enc_task names) (counted u names records s e w apart)
      (running_busy u names records s (tasks_of (f ∷ fs)) e r) (enc_task rec.task) z.known z.settled n h v l q (ended_so ∙ o)

  pub settled_stops : ends_well (record_of rec).outcome ≡ false
      → HasLeft world (present u) base f (observed (Required h (enc_task rec.task)) Absent ∷ []) (record_of rec).outcome
  settled_stops d =
      let z = settled_known u names records s k rec.task e w apart (e.named k rec kept) settled in
      going_stops world (present u) (recorded names records) (Passes (busy_by names s)) base fs f g (map enc_task names)
      (counted u names records s e w apart) (running_busy u names records s (tasks_of (f ∷ fs)) e r) n h (enc_task rec.task) (record_of rec).outcome l q
      z.known z.settled ended_so d

-- ---- ends

pub ended_right : (u : Update) (base : List ℕ) (f : Frame) (last : List Observation) (e : Outcome) (rec : TaskRecord) → IsBaseOf u base
    → HasLeft world (present u) base f last e → is_plain e ≡ true → record_of rec ≡ left_record f last e → IsRight u rec
ended_right u base f last e rec b left plain is =
    let same : enc_task rec.task ≡ f.task = ap (λ (z : Record). z.task) is in
    record {
      is = is ∙ sym left.is ∙ ap (λ z. model_record world (evaluation world (present u) z)) (sym same);
      plain = ap (λ (z : Record). is_plain z.outcome) is ∙ plain;
      met = subst (λ z. AllMet world (MetIn u) (trace_of (evaluation world (present u) z))) (sym same)
          (tried_met world (earlier u) (present u) u.old_roots u.roots u.besides base (evaluation world (present u) f.task) b (left.stands plain));
    }

-- a task has an event and may stand alone
some_events : (t : List ℕ) → (begun world t).left ≡ suc 1000000
unfolding world
some_events t = refl

some_tasks : 0 < world.most_tasks
unfolding world
some_tasks = omega arith

pub lost_right : (u : Update) (t : Task) (rec : TaskRecord) → IsBaseOf u (enc_task t) → IsCanonicalTask t (enc_task t) → number_from 0 u.functions t ≡ None
    → rec ≡ record { task = t; deps = []; writes = []; outcome = Failed (record { task = t; kind = Unknown }) } → IsRight u rec
lost_right u t rec b canonical none is =
    ended_right u (enc_task t) (begun world (enc_task t)) [] (FailedBy (enc_task t) model_faults.Unknown) rec b
    (going_ends world (present u) (λ x. None) (λ x. Unit {0}) (enc_task t) [] (begun world (enc_task t))
    (base_begins world (present u) (λ x. None) (λ x. Unit {0}) (enc_task t) some_tasks) [] (FailedBy (enc_task t) model_faults.Unknown)
    (failing 1000000 model_faults.Unknown (some_events (enc_task t)) (unknown_fails u.functions t [] none canonical))) refl
    (ap record_of is)

pub old_base : (u : Update) (rec : TaskRecord) → IsUpdate u → IsOld u rec → IsBaseOf u (enc_task rec.task)
old_base u rec update o =
    inl (old_row world (earlier u) u.old_roots update.build.accepted (enc_task rec.task) (record_of rec) o.left).live
