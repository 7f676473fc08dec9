-- A task that wrote something goes on as in the model, or fails with a right record.
use Rattle.std.proofs.Common.{◌≡◌, ℕ, ◌-◌, ◌<◌, Bool, true, false, cond, List, [], take, refl, sym, ap, subst, ◌∙◌, append-nil}
use Rattle.sha2.specs.Sha256.{sha256}
use Rattle.pie_base.specs.Path.{is_out}
use Rattle.pie_base.specs.declared.fault.FaultKind.TheVariants as faults
use Rattle.pie_value.specs.declared.event.Answer.TheVariants as answers
use Rattle.pie_value.specs.declared.event.Event.TheVariants as events
use Rattle.pie_view.specs.Content.{Staged}
use Rattle.pie_model.specs.declared.words.Event.TheVariants.{Write, Fail}
use Rattle.pie_model.specs.declared.words.FaultKind.TheVariants as model_faults
use Rattle.pie_model.specs.inner.RecordLaws.{Passes}
use Rattle.pie_step_laws.specs.Frames.{has_written}
use Rattle.pie_settle_laws.proofs.Goings.{write_made}
use Rattle.pie_model_pipeline.specs.World.{world, next}
use Rattle.pie_builder_laws.specs.Tables.{recorded}
use Rattle.pie_running.specs.declared.frame.RunningTask.{RunningTask}
use Rattle.pie_running.specs.declared.frame.Waiting.{Waiting}
use Rattle.pie_running.specs.declared.frame.Caller.{Caller}
use Rattle.pie_running.specs.declared.frame.Told.{Told}
use Rattle.pie_running.specs.declared.frame.Told.TheVariants as told
use Rattle.pie_running.specs.inner.Noted.{wrote}
use Rattle.pie_running.specs.inner.Told.{IsTold, IsToldWrite, KeepsFirst}
use Rattle.pie_running.proofs.Firsts.{others_stay}
use Rattle.pie_core_laws.specs.Update.{present}
use Rattle.pie_core_laws.specs.Exact.{busy_by}
use Rattle.pie_task_laws.specs.Sites.{Site, Build, IsExactAt, IsSound}
use Rattle.pie_task_laws.specs.Going.{GoesAbove, Wait, Runs}
use Rattle.pie_task_laws.specs.Steps.{OthersStep}
use Rattle.pie_task_laws.specs.Coming.{IsAsking}
use Rattle.pie_task_laws.specs.Telling.{GoesAs}
use Rattle.pie_task_laws.proofs.Frames.{with_stage, wrote_frame}
use Rattle.pie_task_laws.proofs.Keeping.{goes_still, callers_stay}
use Rattle.pie_task_laws.proofs.Ending.{some_left, fails_own}
use Rattle.pie_task_laws.proofs.Told.{failed_as}

module _ (x : Site) (b : Build) (cs : List Caller) (w : Waiting) (e : IsExactAt x b) (R : Runs x b cs w.code.now w.machine w.notes)
    (left : 0 < w.notes.left) (path bytes : List ℕ) (st : Staged) (keeps : KeepsFirst b.stage st w.notes.number path bytes) where
  -- the contents of others stay
  step : OthersStep x w.notes.number b (with_stage b st)
  step = record {
    stays = record { exact = e; settles = λ y h. h };
    grown = ([], sym (append-nil b.names));
    up = λ k u o. u;
    staged = λ k u o p. others_stay b.stage st w.notes.number path bytes keeps k o p;
  }

  abbrev callers : Wait x (with_stage b st) cs
  callers = callers_stay x b (with_stage b st) cs w.code.now w.machine w.notes e step R

  goes : next x.update.functions R.frame.task R.frame.progress.answers ≡ Write path bytes
      → GoesAbove x b R.below (has_written R.frame (w.notes.left - 1) path bytes)
  goes q = record {
    base = R.goes.base;
    is_base = R.goes.is_base;
    depth = R.goes.depth;
    goes = write_made world (present x.update) (recorded b.names b.records) (Passes (busy_by b.names b.walk)) R.goes.base (take R.goes.depth R.below)
        R.frame R.goes.goes (w.notes.left - 1) path bytes (some_left x b cs w.code.now w.machine w.notes R left) q;
  }

  wrote_runs : (f : RunningTask) (hash : List ℕ) → hash ≡ sha256 bytes → IsTold w f (wrote path hash w.notes) answers.Wrote
      → next x.update.functions R.frame.task R.frame.progress.answers ≡ Write path bytes → Runs x (with_stage b st) cs f.code.now f.machine f.notes
  wrote_runs f hash sha t q =
      subst (λ c. Runs x (with_stage b st) cs c f.machine f.notes) (sym t.code)
      (subst (λ n. Runs x (with_stage b st) cs w.code.now f.machine n) (sym t.notes) (record {
        below = R.below;
        frame = has_written R.frame (w.notes.left - 1) path bytes;
        mean = callers.mean;
        means = wrote_frame x b w.code.now w.machine w.notes w.notes.left R.frame R.means (w.notes.left - 1) f.machine st path bytes hash keeps sha
            t.follows;
        go = callers.go;
        goes = goes_still x _ b (with_stage b st) e step R.below (has_written R.frame (w.notes.left - 1) path bytes) (goes q);
        taken = record { running = R.taken.running; once = R.taken.once };
      }))

-- a write is staged, or fails
pub write_told : (x : Site) (b : Build) (cs : List Caller) (w : Waiting) (path bytes : List ℕ) (later : Staged) (t : Told) → IsSound x b
    → IsAsking x b cs w (events.Write path bytes) → 0 < w.notes.left → IsToldWrite (is_out path) w b.stage later path bytes t
    → GoesAs x (with_stage b later) cs t
write_told x b cs w path bytes st t sound A left h = by (is_out path) refl t h
  where
    by : (z : Bool) → is_out path ≡ z → (u : Told) → IsToldWrite z w b.stage st path bytes u → GoesAs x (with_stage b st) cs u
    by true f (told.Goes g) k =
        wrote_runs x b cs w sound.exact A.runs left path bytes st k.0 g (sha256 bytes) refl k.1
        (A.asks ∙ ap (λ z. cond z (Write path bytes) (Fail model_faults.BadWrite)) f)
    by true f (told.Fails n j) k = absurd k
    by false f (told.Goes g) k = absurd k.1
    by false f (told.Fails n j) k =
        subst (λ z. GoesAs x (with_stage b z) cs (told.Fails n j)) (sym k.0)
        (failed_as x b cs w A.runs left w.notes faults.BadWrite
        (fails_own x b cs w.code.now w.machine w.notes A.runs faults.BadWrite left
        (A.asks ∙ ap (λ z. cond z (Write path bytes) (Fail model_faults.BadWrite)) f))
        (told.Fails n j) k.1)
