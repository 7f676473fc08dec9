-- What comes of a running task is what comes in the model.
use Rattle.std.proofs.Common.{◌≡◌, inl, inr, ◌-◌, ◌<◌, Bool, true, false, cond, List, [], map, refl, sym, ap, subst, ◌∙◌}
use Rattle.pie_base.specs.declared.fault.FaultKind.{FaultKind}
use Rattle.pie_base.specs.declared.fault.FaultKind.TheVariants as faults
use Rattle.pie_value.specs.declared.value.Value.{Value}
use Rattle.pie_value.specs.declared.event.Answer.{Answer}
use Rattle.pie_value.specs.declared.event.Event.{Event}
use Rattle.pie_value.specs.Values.{tree_of}
use Rattle.pie_value.specs.Canonical.{enc}
use Rattle.pie_value.specs.Limits.{is_small}
use Rattle.pie_operators.specs.Domain.{done, fails, wants}
use Rattle.pie_code.specs.declared.code.Code.{Code}
use Rattle.pie_vm.specs.Machines.{Standing, Follows}
use Rattle.pie_record.specs.declared.task_record.Outcome.TheVariants as ends
use Rattle.pie_model.specs.declared.words.Event.TheVariants.{Done, Fail}
use Rattle.pie_model.specs.declared.words.FaultKind.TheVariants as model_faults
use Rattle.pie_model.specs.declared.words.Outcome.TheVariants.{Ended}
use Rattle.pie_settle_laws.specs.Going.Ends.{with_value, without_events}
use Rattle.pie_model_pipeline.specs.Answers.{answer_of}
use Rattle.pie_model_pipeline.specs.World.{next}
use Rattle.pie_running.specs.declared.frame.RunningTask.{RunningTask}
use Rattle.pie_running.specs.declared.frame.Waiting.{Waiting}
use Rattle.pie_running.specs.declared.frame.Caller.{Caller}
use Rattle.pie_running.specs.declared.frame.Paused.{Paused}
use Rattle.pie_running.specs.declared.frame.Paused.TheVariants as paused
use Rattle.pie_running.specs.inner.Noted.{Noted}
use Rattle.pie_running.specs.inner.Told.{EvaluatedTo, StopsFor}
use Rattle.pie_task_laws.specs.Sites.{Site, Build, IsThere, IsExactAt}
use Rattle.pie_task_laws.specs.Going.{Runs}
use Rattle.pie_task_laws.specs.Coming.{IsAsking, EndsRight, failed_by, output_by, Gives, PausesAs}
use Rattle.pie_task_laws.proofs.Frames.{moved_frame}
use Rattle.pie_task_laws.proofs.Ending.{adds_none, next_is, left_right, fails_right, some_left, fails_own}

module _ (x : Site) (b : Build) (cs : List Caller) (there : IsThere x) (e : IsExactAt x b) where
  -- ---- it asks

  -- a machine that goes further with these answers asks this
  abbrev Asked : Waiting → Event → Code → Standing → Noted → Type 0
  Asked w v code m n =
      (given : List Answer) → Follows code n.task.args given m → Follows code n.task.args given w.machine × EvaluatedTo code n.task.args given (wants v)

  asks_there : (w : Waiting) (v : Event) (m : Standing) → Runs x b cs w.code.now m w.notes → Asked w v w.code.now m w.notes → IsAsking x b cs w v
  asks_there w v m R h =
      let c = h (map answer_of R.frame.progress.answers) R.means.follows in
      record {
        runs = record {
          below = R.below;
          frame = R.frame;
          mean = R.mean;
          means = moved_frame x b w.code.now m w.notes w.notes.left R.frame R.means w.machine c.0;
          go = R.go;
          goes = R.goes;
          taken = R.taken;
        };
        asks = next_is x b cs w.code.now m w.notes R there e (wants v) c.1;
        came = c.1;
      }

  asks_as : (w : Waiting) (v : Event) (code : Code) (m : Standing) (n : Noted) → w.code.now ≡ code → w.notes ≡ n → Runs x b cs code m n
      → Asked w v code m n → IsAsking x b cs w v
  asks_as w v code m n c q =
      subst (λ k. Runs x b cs k m n → Asked w v k m n → IsAsking x b cs w v) c
      (subst (λ k. Runs x b cs w.code.now m k → Asked w v w.code.now m k → IsAsking x b cs w v) q (asks_there w v m))

  -- ---- it ends

  module _ (code : Code) (m : Standing) (n : Noted) (R : Runs x b cs code m n) where
    gives_value : (v : Value) → 0 < n.left → EvaluatedTo code n.task.args (map answer_of R.frame.progress.answers) (done (tree_of v))
        → EndsRight x b n (output_by n v)
    gives_value v left came = by (is_small (tree_of v)) refl
      where
        next_one : next x.update.functions R.frame.task R.frame.progress.answers ≡ cond (is_small (tree_of v)) (Done (enc (tree_of v))) (Fail model_faults.Big)
        next_one = next_is x b cs code m n R there e (done (tree_of v)) came

        by : (z : Bool) → is_small (tree_of v) ≡ z → EndsRight x b n (cond z (ends.Done v) (failed_by n faults.Big))
        by true f =
            left_right x b cs code m n R n [] [] (Ended (enc (tree_of v))) (ends.Done v)
            (with_value (n.left - 1) (enc (tree_of v)) (some_left x b cs code m n R left)
            (next_one ∙ ap (λ z. cond z (Done (enc (tree_of v))) (Fail model_faults.Big)) f)) refl (adds_none n) refl refl
        by false f = fails_own x b cs code m n R faults.Big left (next_one ∙ ap (λ z. cond z (Done (enc (tree_of v))) (Fail model_faults.Big)) f)

    stops : (k : FaultKind) → StopsFor code n (map answer_of R.frame.progress.answers) k → EndsRight x b n (failed_by n k)
    stops k (inl h) =
        subst (λ j. EndsRight x b n (failed_by n j)) (sym h.1)
        (fails_right x b cs code m n R n [] [] faults.Budget (without_events (R.means.left ∙ h.0)) (adds_none n) refl)
    stops k (inr h) = fails_own x b cs code m n R k h.0 (next_is x b cs code m n R there e (fails k) h.1)

  -- what a machine gives
  pub pauses : (f : RunningTask) (p : Paused) → Runs x b cs f.code.now f.machine f.notes → Gives f p → PausesAs x b cs p
  pauses f (paused.Asks w v) R G =
      asks_as w v f.code.now f.machine f.notes (G.means (map answer_of R.frame.progress.answers) R.means.follows).0 G.comes.1 R
      (λ given h. let c = G.means given h in (c.1, c.2))
  pauses f (paused.Ends n v) R G =
      let c = G.means (map answer_of R.frame.progress.answers) R.means.follows in
      subst (λ k. EndsRight x b k (output_by k v)) (sym G.comes) (gives_value f.code.now f.machine f.notes R v c.0 c.1)
  pauses f (paused.Fails n k) R G =
      let c = G.means (map answer_of R.frame.progress.answers) R.means.follows in
      subst (λ j. EndsRight x b j (failed_by j k)) (sym G.comes) (stops f.code.now f.machine f.notes R k c.1)
