-- Tasks that waited go on or end, once the one that they require is settled.
use Rattle.std.proofs.Common.{◌≡◌, ℕ, suc, ◌-◌, ◌<◌, true, false, cond, Some, List, [], ◌∷◌, take, refl, sym, ap, subst, ◌∙◌, arith}
use Rattle.std.specs.Prelude.{slice_get, option_map}
use Rattle.pie_base.specs.declared.fault.FaultKind.TheVariants as faults
use Rattle.pie_value.specs.declared.task.Task.{Task}
use Rattle.pie_value.specs.declared.value.Value.{Value}
use Rattle.pie_value.specs.declared.event.Event.TheVariants as events
use Rattle.pie_value.specs.declared.event.How.{How}
use Rattle.pie_value.specs.declared.event.How.TheVariants as required_as
use Rattle.pie_value.specs.Limits.{is_small_task}
use Rattle.pie_value.specs.Values.{tree_of}
use Rattle.pie_value.specs.Canonical.{enc, enc_task}
use Rattle.pie_record.specs.declared.task_record.TaskRecord.{TaskRecord}
use Rattle.pie_record.specs.inner.Records.{record_of as kept_of}
use Rattle.pie_walk.specs.Marks.{IsSettled}
use Rattle.pie_model.specs.declared.words.Event.TheVariants.{Require, Fail}
use Rattle.pie_model.specs.declared.words.FaultKind.TheVariants as model_faults
use Rattle.pie_model.specs.Trees.{is_done as ends_well, is_plain}
use Rattle.pie_model.specs.Evaluation.{evaluation}
use Rattle.pie_model.specs.Records.{Absent, Required, observed as observation}
use Rattle.pie_model.specs.inner.Stack.{Frame, tasks_of}
use Rattle.pie_step_laws.specs.Frames.{was_answered}
use Rattle.pie_settle_laws.specs.Going.{before_wait}
use Rattle.pie_model_pipeline.specs.Words.{how_of}
use Rattle.pie_model_pipeline.specs.Rows.{observation_of, outcome_of, record_of}
use Rattle.pie_model_pipeline.specs.World.{world, next}
use Rattle.pie_builder_laws.specs.Tables.{recorded}
use Rattle.pie_builder_laws.specs.Requiring.{of_task, requiring_answer}
use Rattle.pie_builder_laws.proofs.Tabled.{record_by_number}
use Rattle.pie_earlier_laws.specs.Telling.{told_by}
use Rattle.pie_running.specs.declared.frame.RunningTask.{RunningTask}
use Rattle.pie_running.specs.declared.frame.Waiting.{Waiting}
use Rattle.pie_running.specs.declared.frame.Caller.{Caller}
use Rattle.pie_running.specs.inner.Noted.{required, observed}
use Rattle.pie_running.specs.inner.Told.{IsTold}
use Rattle.pie_core_laws.specs.Update.{present}
use Rattle.pie_core_laws.specs.Exact.{rank_by}
use Rattle.pie_core_laws.specs.Running.{AreRunning}
use Rattle.pie_core_laws.proofs.Exactly as exactly
use Rattle.pie_core_laws.proofs.Runs.{settled_answers, settled_stops}
use Rattle.pie_task_laws.specs.Sites.{Site, Build, IsSound}
use Rattle.pie_task_laws.specs.Frames.{IsFrame, IsCaller, AreCallers}
use Rattle.pie_task_laws.specs.Going.{GoesAbove, AllGo, AreTaken, Runs}
use Rattle.pie_task_laws.specs.Coming.{IsAsking, EndsRight, failed_by}
use Rattle.pie_task_laws.specs.Answering.{HasSettled, HasGiven, lost_task}
use Rattle.pie_task_laws.proofs.Frames.{given_frame}
use Rattle.pie_task_laws.proofs.Numbering.{some_running}
use Rattle.pie_task_laws.proofs.Ending.{adds_one, has_ended, fails_own}

lost_is : (how : How) (t : Task) → observation_of (lost_task how t) ≡ observation (Required (how_of how) (enc_task t)) Absent
lost_is required_as.Whole t = refl
lost_is required_as.Hashed t = refl
lost_is required_as.Ran t = refl

one_off : (k n : ℕ) → n ≡ suc k → k ≡ n - 1
one_off k n e = omega (arith, e)

module _ (x : Site) (b : Build) (c : Caller) (cs : List Caller) (k : ℕ) (rec : TaskRecord) (sound : IsSound x b) (settled : IsSettled b.walk.marks k)
    (kept : kept_of b.records k ≡ Some rec) (task : rec.task ≡ c.required) where
  -- no record ends in a cycle
  plain : is_plain (record_of rec).outcome ≡ true
  plain =
      let told = told_by (recorded b.names b.records) (rank_by b.names b.walk.places) in
      let consistent = sound.exact.consistent told (exactly.tells x.update b.names b.records b.walk sound.exact sound.stands.holds.agrees) in
      consistent.plain (enc_task rec.task) (record_of rec)
      (record_by_number b.names b.records k rec.task sound.exact.tasks (sound.exact.named k rec kept) ∙ ap (option_map record_of) kept)

  -- the newest frame, and those below it
  module _ (g : Frame) (gs : List Frame) (m : IsCaller x b g c) (G : GoesAbove x b gs (before_wait g))
      (taken : AreTaken b (g ∷ gs)) where
    waits : next x.update.functions g.task g.progress.answers ≡ Require (how_of c.how) (enc_task rec.task)
    waits = m.waits ∙ ap (λ t. Require (how_of c.how) (enc_task t)) (sym task)

    some : AreRunning b.names b.walk (tasks_of (before_wait g ∷ take G.depth gs))
    some = some_running b.names b.walk G.depth g gs taken.running

    told_on : AreCallers x b gs cs → AllGo x b gs → (v : Value) (height : ℕ) (f : RunningTask) → HasGiven rec v
        → IsTold c.waiting f (required (of_task c.how c.required v) k height c.waiting.notes) (requiring_answer c.how v)
        → Runs x b cs f.code.now f.machine f.notes
    told_on mean go v height f H t =
        let named : slice_get b.names k ≡ Some c.required = sound.exact.named k rec kept ∙ ap Some task in
        let after : Frame = was_answered world (present x.update) g g.left (how_of c.how) (enc_task rec.task) (enc (tree_of v)) in
        let same : was_answered world (present x.update) g g.left (how_of c.how) (enc_task c.required) (enc (tree_of v)) ≡ after
        = ap (λ u. was_answered world (present x.update) g g.left (how_of c.how) (enc_task u) (enc (tree_of v))) (sym task) in
        subst (λ code. Runs x b cs code f.machine f.notes) (sym t.code) (subst (λ n. Runs x b cs c.waiting.code.now f.machine n) (sym t.notes) (record {
          below = gs;
          frame = after;
          mean = mean;
          means = subst (λ z. IsFrame x b c.waiting.code.now f.machine
              (required (of_task c.how c.required v) k height c.waiting.notes) (c.waiting.notes.left - 1) z) same
              (subst (λ z. IsFrame x b c.waiting.code.now f.machine
              (required (of_task c.how c.required v) k height c.waiting.notes) z
              (was_answered world (present x.update) g g.left (how_of c.how) (enc_task c.required) (enc (tree_of v))))
              (m.frame.left ∙ one_off m.left c.waiting.notes.left m.is_left)
              (given_frame x b c.waiting.code.now c.waiting.machine c.waiting.notes m.left g m.frame g.left f.machine c.how c.required v k height
              (evaluation world (present x.update) (enc_task c.required)) named H.canonical t.follows));
          go = go;
          goes = record {
            base = G.base;
            is_base = G.is_base;
            depth = G.depth;
            goes = settled_answers x.update b.names b.records b.walk G.base (take G.depth gs) (before_wait g) g.left (how_of c.how) k rec sound.exact
                sound.stands sound.apart some G.goes refl waits settled kept (enc (tree_of v)) (ap outcome_of H.outcome);
          };
          taken = record { running = taken.running; once = taken.once };
        }))

    ends_so : ends_well (record_of rec).outcome ≡ false → EndsRight x b (observed (lost_task c.how c.required) c.waiting.notes) rec.outcome
    ends_so lost =
        let L = settled_stops x.update b.names b.records b.walk G.base (take G.depth gs) (before_wait g) g.left (how_of c.how) k rec sound.exact
        sound.stands sound.apart some G.goes refl waits settled kept lost in
        has_ended x b c.waiting.code.now c.waiting.machine c.waiting.notes m.left g m.frame G.base (observed (lost_task c.how c.required) c.waiting.notes)
        (lost_task c.how c.required ∷ []) (observation (Required (how_of c.how) (enc_task rec.task)) Absent ∷ []) (record_of rec).outcome rec.outcome
        G.is_base (record { is = L.is; wrote = L.wrote; stands = L.stands }) plain (adds_one c.waiting.notes (lost_task c.how c.required))
        (ap (λ o. o ∷ []) (lost_is c.how c.required ∙ ap (λ t. observation (Required (how_of c.how) (enc_task t)) Absent) (sym task))) refl

pub run_on : (x : Site) (b : Build) (c : Caller) (cs : List Caller) (k : ℕ) (rec : TaskRecord) (v : Value) (height : ℕ) (f : RunningTask)
    → HasSettled x b c cs k rec → HasGiven rec v
    → IsTold c.waiting f (required (of_task c.how c.required v) k height c.waiting.notes) (requiring_answer c.how v)
    → Runs x b cs f.code.now f.machine f.notes
run_on x b c cs k rec v height f H given t = by H.wait.frames H.wait.mean H.wait.go H.wait.taken
  where
    by : (fs : List Frame) → AreCallers x b fs (c ∷ cs) → AllGo x b fs → AreTaken b fs → Runs x b cs f.code.now f.machine f.notes
    by [] m g a = absurd m
    by (g ∷ gs) m go a =
        told_on x b c cs k rec H.sound H.settled H.kept H.task g gs m.0 go.0 a m.1 go.1 v height f given t

pub callers_end : (x : Site) (b : Build) (c : Caller) (cs : List Caller) (k : ℕ) (rec : TaskRecord) → HasSettled x b c cs k rec
    → ends_well (record_of rec).outcome ≡ false
    → EndsRight x b (observed (lost_task c.how c.required) c.waiting.notes) rec.outcome
callers_end x b c cs k rec H lost = by H.wait.frames H.wait.mean H.wait.go H.wait.taken
  where
    by : (fs : List Frame) → AreCallers x b fs (c ∷ cs) → AllGo x b fs → AreTaken b fs
        → EndsRight x b (observed (lost_task c.how c.required) c.waiting.notes) rec.outcome
    by [] m g a = absurd m
    by (g ∷ gs) m go a = ends_so x b c cs k rec H.sound H.settled H.kept H.task g gs m.0 go.0 a lost

pub big_fails : (x : Site) (b : Build) (cs : List Caller) (w : Waiting) (t : Task) (how : How) → IsAsking x b cs w (events.Require t how)
    → 0 < w.notes.left → is_small_task t ≡ false → EndsRight x b w.notes (failed_by w.notes faults.Big)
big_fails x b cs w t how A left big =
    fails_own x b cs w.code.now w.machine w.notes A.runs faults.Big left
    (A.asks ∙ ap (λ z. cond z (Require (how_of how) (enc_task t)) (Fail model_faults.Big)) big)
