-- A task that was told what a required task evaluated to goes on as in the model.
use Rattle.std.proofs.Common.{◌≡◌, ℕ, ◌-◌, ◌<◌, true, false, cond, Some, None, List, [], ◌∷◌, ◌++◌, map, sym, ap, subst, ◌∙◌}
use Rattle.std.specs.Prelude.{slice_get, All, IfSome}
use Rattle.std.specs.Option.{option_map}
use Rattle.pie_base.specs.declared.fault.FaultKind.TheVariants as faults
use Rattle.pie_value.specs.declared.task.Task.{Task}
use Rattle.pie_value.specs.declared.value.Value.{Value}
use Rattle.pie_value.specs.declared.event.How.{How}
use Rattle.pie_value.specs.declared.verdict.Refusal.TheVariants as refusals
use Rattle.pie_value.specs.declared.event.Event.TheVariants as events
use Rattle.pie_value.specs.Values.{tree_of}
use Rattle.pie_value.specs.Limits.{is_small_task}
use Rattle.pie_value.specs.Canonical.{enc, enc_task, IsCanonical}
use Rattle.pie_record.specs.declared.task_record.TaskRecord.{TaskRecord}
use Rattle.pie_record.specs.declared.task_record.Outcome.TheVariants as ends
use Rattle.pie_record.specs.inner.Records.{record_of as kept_of}
use Rattle.pie_types.specs.Headings.{function_in}
use Rattle.pie_type_laws.specs.Fitting.{OutputFits}
use Rattle.pie_model.specs.declared.words.Event.TheVariants.{Require, Fail}
use Rattle.pie_model.specs.declared.words.FaultKind.TheVariants as model_faults
use Rattle.pie_model.specs.declared.words.Outcome.TheVariants.{Cycled}
use Rattle.pie_model.specs.Evaluation.{evaluation, round}
use Rattle.pie_model.specs.inner.Stack.{tasks_of}
use Rattle.pie_step_laws.specs.Frames.{was_answered}
use Rattle.pie_step_laws.specs.UnderWay.{HasEnded}
use Rattle.pie_step_laws.proofs.StepLemmas.{require_answered}
use Rattle.pie_step_laws.proofs.EndLemmas.{ends_in_a_cycle}
use Rattle.pie_model_pipeline.specs.Words.{how_of}
use Rattle.pie_model_pipeline.specs.Rows.{record_of, outcome_of}
use Rattle.pie_model_pipeline.specs.World.{world}
use Rattle.pie_builder_laws.specs.Requiring.{of_task, requiring_answer}
use Rattle.pie_builder_laws.proofs.Naming.{among_at}
use Rattle.pie_builder_laws.proofs.Tabled.{record_by_number}
use Rattle.pie_running.specs.declared.frame.RunningTask.{RunningTask}
use Rattle.pie_running.specs.declared.frame.Waiting.{Waiting}
use Rattle.pie_fresh.specs.declared.ledger.Ledger.{Ledger}
use Rattle.pie_fresh.specs.declared.builder.Builder.{Builder}
use Rattle.pie_running.specs.declared.requiring.Done.{Done}
use Rattle.pie_running.specs.inner.Noted.{required}
use Rattle.pie_fresh.specs.Told.{IsTrueTask}
use Rattle.pie_fresh.specs.inner.Frames.{StandsAt}
use Rattle.pie_fresh.specs.inner.Cycles.{tasks_from}
use Rattle.pie_fresh.specs.inner.Kept.{IsKeptAs}
use Rattle.pie_running.specs.inner.Told.{IsTold}
use Rattle.pie_fresh.specs.inner.Means.{Site, project_of, table_of, names_of, IsKeptOutput, FitsAs, MeansTable, Means, IsAsking, RefusesAs}
use Rattle.pie_running.proofs.Fitting.{fits_output}
use Rattle.pie_running.proofs.FrameLemmas.{one_less, given_frame}
use Rattle.pie_fresh.proofs.Telling.{fails_by, fails_turn}
use Rattle.pie_fresh.proofs.Cycling.{cycle_round, cycle_true}

-- a task that is done has a canonical output
pub output_canonical : (s : Site) (l : Ledger) (number : ℕ) (rec : TaskRecord) (v : Value) → MeansTable s l → kept_of l.records number ≡ Some rec
    → rec.outcome ≡ ends.Done v → IsCanonical (tree_of v) (enc (tree_of v))
output_canonical s l number rec v T is done = subst IsKeptOutput done (subst (λ o. IfSome o (λ r. IsKeptOutput r.outcome)) is (T.outputs number))

-- and an output of its function's type
pub output_kept : (s : Site) (l : Ledger) (number : ℕ) (t : Task) (rec : TaskRecord) (v : Value) → MeansTable s l → slice_get l.names number ≡ Some t
    → kept_of l.records number ≡ Some rec → rec.outcome ≡ ends.Done v → OutputFits (function_in t.func s.headings) (tree_of v)
output_kept s l number t rec v T named is ended = subst (FitsAs s.headings t) ended (T.fits number t rec named is)

-- a require of a task that is done is answered
pub answered_means : (s : Site) (b : Builder) (w : Waiting) (how : How) (t : Task) (v : Value) (number height : ℕ) (rec : TaskRecord) (f : RunningTask)
    → IsAsking s b w (events.Require t how) → 0 < w.notes.left → is_small_task t ≡ true → slice_get b.ledger.names number ≡ Some t
    → kept_of b.ledger.records number ≡ Some rec → rec.outcome ≡ ends.Done v
    → IsTold w f (required (of_task how t v) number height w.notes) (requiring_answer how v) → Means s b f.code.now f.machine f.notes
answered_means s b w how t v number height rec f A left small named is done told =
    subst (λ c. Means s b c f.machine f.notes) (sym told.code) (subst (λ n. Means s b w.code.now f.machine n) (sym told.notes) (record {
      there = A.means.there;
      table = A.means.table;
      waiting = A.means.waiting;
      running = was_answered world (project_of s) A.means.running (w.notes.left - 1) (how_of how) (enc_task t) (enc (tree_of v));
      stack = A.means.stack;
      top = given_frame s.functions s.headings s.codes b.ledger.names b.ledger.stage w.code.now w.machine w.notes w.notes.left A.means.running A.means.top
          (w.notes.left - 1) f.machine how t v number height (evaluation world (project_of s) (enc_task t)) named
          (output_canonical s b.ledger number rec v A.means.table is done) told.follows
          (fits_output s.functions s.headings s.codes A.means.there.compiled b.ledger.names b.ledger.stage w.code.now w.machine w.notes w.notes.left
          A.means.running A.means.top t how v A.came (output_kept s b.ledger number t rec v A.means.table named is done));
      under = require_answered world (project_of s) s.root s.base (table_of b.ledger) (names_of b.ledger) A.means.waiting A.means.running A.means.under
          (w.notes.left - 1) (how_of how) (enc_task t) (record_of rec) (enc (tree_of v)) (A.means.top.left ∙ one_less w.notes.left left)
          (A.asks ∙ ap (λ z. cond z (Require (how_of how) (enc_task t)) (Fail model_faults.Big)) small)
          (record_by_number b.ledger.names b.ledger.records number t A.means.table.tasks named ∙ ap (option_map record_of) is) (ap outcome_of done);
    }))

-- a require of a task past the limits fails
pub require_fails : (s : Site) (b : Builder) (w : Waiting) (t : Task) (how : How) → IsAsking s b w (events.Require t how) → 0 < w.notes.left
    → is_small_task t ≡ false → RefusesAs s b.ledger (fails_by w faults.Big)
require_fails s b w t how A left small =
    fails_turn s b w A.means left faults.Big (A.asks ∙ ap (λ z. cond z (Require (how_of how) (enc_task t)) (Fail model_faults.Big)) small)

-- a require of a task that was entered and has no record ends the root in a cycle: from that task up to the running one
pub cycle_means : (s : Site) (b : Builder) (w : Waiting) (how : How) (t : Task) (number : ℕ) (ts : List Task) → StandsAt w.notes.number b
    → IsAsking s b w (events.Require t how) → 0 < w.notes.left → is_small_task t ≡ true → slice_get b.ledger.names number ≡ Some t
    → kept_of b.ledger.records number ≡ None → ts ≡ tasks_from number b.stack.items ++ w.notes.task ∷ [] → RefusesAs s b.ledger (refusals.Cycle ts)
cycle_means s b w how t number ts S A left small named none told = (
  subst (λ xs. HasEnded world (project_of s) s.root s.base (names_of b.ledger) (Cycled xs))
      (ap (λ x. round (enc_task t) (x ∷ tasks_of A.means.waiting) []) A.means.top.task
      ∙ cycle_round s b.ledger A.means.table.tasks number t named A.means.waiting b.stack.items w.notes.number w.notes.task A.means.stack A.means.top.named
      S.unfinished none ∙ ap (map enc_task) (sym told))
      (ends_in_a_cycle world (project_of s) s.root s.base (table_of b.ledger) (names_of b.ledger) A.means.waiting A.means.running A.means.under
      (w.notes.left - 1) (how_of how) (enc_task t) (A.means.top.left ∙ one_less w.notes.left left)
      (A.asks ∙ ap (λ z. cond z (Require (how_of how) (enc_task t)) (Fail model_faults.Big)) small) (among_at b.ledger.names number t named)
      (record_by_number b.ledger.names b.ledger.records number t A.means.table.tasks named ∙ ap (option_map record_of) none)),
  subst (All IsTrueTask) (sym told)
      (cycle_true s b.ledger A.means.table.tasks number A.means.waiting b.stack.items w.notes.number w.notes.task A.means.stack A.means.top.named),
)

-- a require of a task that was entered: it is answered with the output in its record, or ends the root
pub given_turn : (s : Site) (b : Builder) (w : Waiting) (how : How) (t : Task) (number : ℕ) (done : Done) (f : RunningTask) → IsAsking s b w (events.Require t how)
    → 0 < w.notes.left → is_small_task t ≡ true → slice_get b.ledger.names number ≡ Some t → IsKeptAs b.ledger.records number (Some done)
    → IsTold w f (required (of_task how t done.output) done.no.0 done.height w.notes) (requiring_answer how done.output) → done.no.0 ≡ number
    → Means s b f.code.now f.machine f.notes
given_turn s b w how t number done f A left small named kept told place =
    answered_means s b w how t done.output number done.height kept.rec f A left small named kept.kept kept.outcome
    (subst (λ k. IsTold w f (required (of_task how t done.output) k done.height w.notes) (requiring_answer how done.output)) place told)
