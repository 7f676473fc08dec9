-- A task that wrote something goes on as in the model.
use Rattle.std.proofs.Common.{◌≡◌, ℕ, ◌-◌, ◌<◌, ◌≤◌, Bool, true, false, cond, Some, None, List, map, length, refl, sym, ap, subst, ◌∙◌, arith}
use Rattle.std.specs.Prelude.{slice_get}
use Rattle.std.proofs.lemmas.Option.{slice_get_within}
use Rattle.sha2.specs.Sha256.{sha256}
use Rattle.pie_base.specs.Path.{is_out}
use Rattle.pie_base.specs.declared.fault.FaultKind.TheVariants as faults
use Rattle.pie_value.specs.declared.task.Task.{Task}
use Rattle.pie_value.specs.declared.event.Answer.TheVariants as answers
use Rattle.pie_value.specs.declared.event.Event.TheVariants as events
use Rattle.pie_value.specs.Canonical.{enc_task}
use Rattle.pie_view.specs.Content.{Staged}
use Rattle.pie_operators.specs.Domain.{wants}
use Rattle.pie_record.specs.declared.task_record.TaskRecord.{TaskRecord}
use Rattle.pie_record.specs.inner.Records.{record_of as kept_of}
use Rattle.pie_model.specs.Paths.{among}
use Rattle.pie_model.specs.declared.words.Event.TheVariants.{Write, Fail}
use Rattle.pie_model.specs.declared.words.FaultKind.TheVariants as model_faults
use Rattle.pie_model.specs.inner.Stack.{tasks_of}
use Rattle.pie_model.proofs.Basics.{clash}
use Rattle.pie_step_laws.specs.Frames.{has_written}
use Rattle.pie_step_laws.proofs.StepLemmas.{write_made}
use Rattle.pie_model_pipeline.specs.Answers.{answer_of}
use Rattle.pie_model_pipeline.specs.World.{world}
use Rattle.pie_running.specs.declared.frame.RunningTask.{RunningTask}
use Rattle.pie_running.specs.declared.frame.Waiting.{Waiting}
use Rattle.pie_running.specs.declared.frame.Told.{Told}
use Rattle.pie_running.specs.declared.frame.Told.TheVariants as told
use Rattle.pie_running.specs.inner.Noted.{wrote}
use Rattle.pie_running.specs.inner.Told.{EvaluatedTo, IsTold, IsToldWrite, KeepsFirst}
use Rattle.pie_running.proofs.Firsts.{others_stay}
use Rattle.pie_running.proofs.FrameLemmas.{one_less, wrote_frame}
use Rattle.pie_fresh.specs.declared.builder.Builder.{Builder}
use Rattle.pie_fresh.specs.inner.Turns.{turned}
use Rattle.pie_fresh.specs.inner.Means.{Site, project_of, table_of, names_of, Means, IsAsking, TurnMeans}
use Rattle.pie_fresh.proofs.Moving.{Extends, KeepsStaged, callers_move, top_unrecorded}
use Rattle.pie_fresh.proofs.Telling.{failed_turn, fails_turn}

-- a build with other contents
abbrev pub with_stage : Builder → Staged → Builder
with_stage b st = record b { ledger = record b.ledger { stage = st } }

module _ (s : Site) (b : Builder) (w : Waiting) (M : Means s b w.code.now w.machine w.notes) (left : 0 < w.notes.left) (path bytes : List ℕ) (st : Staged)
    (keeps : KeepsFirst b.ledger.stage st w.notes.number path bytes) where
  same_names : Extends b.ledger (with_stage b st).ledger
  same_names = record { named = λ n t e. e; numbers = λ ns ts e. e }

  one_task : (n : ℕ) (t : Task) → slice_get b.ledger.names n ≡ Some t → n ≡ w.notes.number → t ≡ w.notes.task
  one_task n t e i = inside (sym e ∙ ap (slice_get b.ledger.names) i ∙ M.top.named)
    where
      inside : {X : Type 0} {x y : X} → Some x ≡ Some y → x ≡ y
      inside h = cc

  -- a waiting task is another one
  waiting_stays : KeepsStaged b.ledger (with_stage b st).ledger M.waiting
  waiting_stays n t e i p =
      others_stay b.ledger.stage st w.notes.number path bytes keeps n
      (λ j. clash (among M.running.task (tasks_of M.waiting))
      (subst (λ x. among x (tasks_of M.waiting) ≡ true) (ap enc_task (one_task n t e j) ∙ sym M.top.task) i) M.under.once.0) p

  -- a task with a record is another one
  recorded_apart : (n : ℕ) (rec : TaskRecord) → kept_of b.ledger.records n ≡ Some rec → n ≡ w.notes.number → ⊥
  recorded_apart n rec e i = apart (sym (top_unrecorded s b w.code.now w.machine w.notes M) ∙ ap (kept_of b.ledger.records) (sym i) ∙ e)
    where
      apart : {X : Type 0} {x : X} → None ≡ Some x → ⊥
      apart h = cc

  past_apart : (n : ℕ) → length b.ledger.names ≤ n → n ≡ w.notes.number → ⊥
  past_apart n h i =
      let inside : w.notes.number < length b.ledger.names = slice_get_within b.ledger.names w.notes.number w.notes.task M.top.named in
      omega (arith, h, i, inside)

  wrote_means : (f : RunningTask) (hash : List ℕ) → hash ≡ sha256 bytes → IsTold w f (wrote path hash w.notes) answers.Wrote
      → EvaluatedTo w.code.now w.notes.task.args (map answer_of M.running.progress.answers) (wants (events.Write path bytes))
      → (project_of s).next M.running.task M.running.progress.answers ≡ Write path bytes → Means s (with_stage b st) f.code.now f.machine f.notes
  wrote_means f hash sha t came q =
      subst (λ c. Means s (with_stage b st) c f.machine f.notes) (sym t.code)
      (subst (λ n. Means s (with_stage b st) w.code.now f.machine n) (sym t.notes) (record {
        there = record { functions = M.there.functions; codes = M.there.codes; compiled = M.there.compiled; headings = M.there.headings };
        table = record {
          tasks = M.table.tasks;
          graph = M.table.graph;
          staged = λ n u rec e k p. others_stay b.ledger.stage st w.notes.number path bytes keeps n (recorded_apart n rec k) p ∙ M.table.staged n u rec e k p;
          unused = λ n h. record {
            unrecorded = (M.table.unused n h).unrecorded;
            unstaged = λ p. others_stay b.ledger.stage st w.notes.number path bytes keeps n (past_apart n h) p ∙ (M.table.unused n h).unstaged p;
          };
          outputs = M.table.outputs;
          fits = M.table.fits;
        };
        waiting = M.waiting;
        running = has_written M.running (w.notes.left - 1) path bytes;
        stack = callers_move s b.ledger (with_stage b st).ledger M.waiting _ same_names waiting_stays M.stack;
        top = wrote_frame s.functions s.headings s.codes b.ledger.names b.ledger.stage w.code.now w.machine w.notes w.notes.left M.running M.top
            M.there.compiled (w.notes.left - 1) f.machine st path bytes hash keeps sha came t.follows;
        under = write_made world (project_of s) s.root s.base (table_of b.ledger) (names_of b.ledger) M.waiting M.running M.under (w.notes.left - 1) path bytes
            (M.top.left ∙ one_less w.notes.left left) q;
      }))

-- a write is staged, or fails
pub write_turn : (s : Site) (b : Builder) (w : Waiting) (path bytes : List ℕ) (st : Staged) (t : Told) → IsAsking s b w (events.Write path bytes)
    → 0 < w.notes.left → IsToldWrite (is_out path) w b.ledger.stage st path bytes t → TurnMeans s (with_stage b st) (turned t)
write_turn s b w path bytes st t A left h = by (is_out path) refl t h
  where
    by : (z : Bool) → is_out path ≡ z → (u : Told) → IsToldWrite z w b.ledger.stage st path bytes u → TurnMeans s (with_stage b st) (turned u)
    by true e (told.Goes f) k =
        wrote_means s b w A.means left path bytes st k.0 f (sha256 bytes) refl k.1 A.came
        (A.asks ∙ ap (λ z. cond z (Write path bytes) (Fail model_faults.BadWrite)) e)
    by true e (told.Fails n j) k = absurd k
    by false e (told.Goes f) k = absurd k.1
    by false e (told.Fails n j) k =
        failed_turn s b w A.means left w.notes faults.BadWrite refl
        (fails_turn s b w A.means left faults.BadWrite (A.asks ∙ ap (λ z. cond z (Write path bytes) (Fail model_faults.BadWrite)) e))
        (told.Fails n j) k.1
