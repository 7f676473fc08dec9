-- What a machine gives is what the task does next in the model.
use Rattle.std.proofs.Common.{◌≡◌, inl, inr, ◌-◌, ◌<◌, Option, List, map, sym, ap, subst, ◌∙◌}
use Rattle.pie_base.specs.declared.fault.FaultKind.{FaultKind}
use Rattle.pie_value.specs.declared.task.Task.{Task}
use Rattle.pie_value.specs.declared.value.Value.{Value}
use Rattle.pie_value.specs.declared.event.Answer.{Answer}
use Rattle.pie_value.specs.declared.event.Event.{Event}
use Rattle.pie_value.specs.declared.verdict.Refusal.TheVariants.{Fault}
use Rattle.pie_value.specs.Tree.{Tree}
use Rattle.pie_value.specs.Values.{tree_of}
use Rattle.pie_operators.specs.Domain.{Outcome, done, fails, wants}
use Rattle.pie_vm.specs.Machines.{Follows}
use Rattle.pie_model.specs.declared.words.Outcome.TheVariants.{Failed}
use Rattle.pie_step_laws.specs.UnderWay.{HasEnded}
use Rattle.pie_step_laws.proofs.EndLemmas.{failed, ran_out}
use Rattle.pie_model_pipeline.specs.Words.{event_of, fault_of}
use Rattle.pie_model_pipeline.specs.Answers.{answer_of}
use Rattle.pie_model_pipeline.specs.World.{world}
use Rattle.pie_builder_laws.proofs.Naming.{canonical_at}
use Rattle.pie_running.specs.declared.frame.RunningTask.{RunningTask}
use Rattle.pie_running.specs.declared.frame.Waiting.{Waiting}
use Rattle.pie_files.specs.Directory.{Directory}
use Rattle.pie_running.specs.declared.frame.Paused.{Paused}
use Rattle.pie_running.specs.declared.frame.Paused.TheVariants.{Asks, Ends, Fails}
use Rattle.pie_fresh.specs.declared.builder.Builder.{Builder}
use Rattle.pie_fresh.specs.declared.turn.Turn.{Turn}
use Rattle.pie_fresh.specs.declared.turn.Turn.TheVariants.{Stops}
use Rattle.pie_running.specs.inner.Noted.{Noted}
use Rattle.pie_running.specs.inner.Told.{EvaluatedTo, StopsFor, ComesAs}
use Rattle.pie_fresh.specs.inner.Means.{Site, project_of, table_of, names_of, MeansFrame, Means, IsAsking, EndsWith, RefusesAs, TurnMeans, TreatsAs}
use Rattle.pie_fresh.specs.inner.Means.{TurnsAs, FinishesAs}
use Rattle.pie_running.proofs.FrameLemmas.{one_less, does, moved_frame}

module _ (s : Site) (b : Builder) (f : RunningTask) (M : Means s b f.code.now f.machine f.notes) where
  -- what the code evaluates to is what the task does
  does_so : (o : Outcome Tree) → EvaluatedTo f.code.now f.notes.task.args (map answer_of M.running.progress.answers) o
      → (project_of s).next M.running.task M.running.progress.answers ≡ event_of o
  does_so =
      does s.functions s.headings s.codes b.ledger.names b.ledger.stage f.code.now f.machine f.notes f.notes.left M.running M.top M.there.compiled
      (canonical_at b.ledger.names M.table.tasks f.notes.number f.notes.task M.top.named)

  pub comes_asking : (w : Waiting) (e : Event) → w.notes ≡ f.notes → ComesAs f.code.now f.notes (map answer_of M.running.progress.answers) (Asks w e)
      → IsAsking s b w e
  comes_asking w e same h = record {
    means = record {
      there = M.there;
      table = M.table;
      waiting = M.waiting;
      running = M.running;
      stack = M.stack;
      top = subst (λ c. MeansFrame s b.ledger c w.machine w.notes w.notes.left M.running) (sym h.0)
          (subst (λ n. MeansFrame s b.ledger f.code.now w.machine n n.left M.running) (sym same) (moved_frame s.functions s.headings s.codes b.ledger.names b.ledger.stage f.code.now
          f.machine f.notes f.notes.left M.running M.top w.machine h.1));
      under = M.under;
    };
    asks = does_so (wants e) h.2;
    came = subst (λ c. EvaluatedTo c w.notes.task.args (map answer_of M.running.progress.answers) (wants e)) (sym h.0)
        (subst (λ (n : Noted). EvaluatedTo f.code.now n.task.args (map answer_of M.running.progress.answers) (wants e)) (sym same) h.2);
  }

  pub comes_ending : (n : Noted) (v : Value) → n ≡ f.notes → ComesAs f.code.now f.notes (map answer_of M.running.progress.answers) (Ends n v)
      → EndsWith s b n v
  comes_ending n v same h = record {
    code = f.code.now;
    machine = f.machine;
    means = record {
      there = M.there;
      table = M.table;
      waiting = M.waiting;
      running = M.running;
      stack = M.stack;
      top = subst (λ x. MeansFrame s b.ledger f.code.now f.machine x x.left M.running) (sym same) M.top;
      under = M.under;
    };
    ends = does_so (done (tree_of v)) h.1;
    came = subst (λ (x : Noted). EvaluatedTo f.code.now x.task.args (map answer_of M.running.progress.answers) (done (tree_of v))) (sym same) h.1;
    left = subst (λ (x : Noted). 0 < x.left) (sym same) h.0;
  }

  fails_as : (k : FaultKind) → StopsFor f.code.now f.notes (map answer_of M.running.progress.answers) k
      → HasEnded world (project_of s) s.root s.base (names_of b.ledger) (Failed M.running.task (fault_of k))
  fails_as k (inl h) =
      subst (λ x. HasEnded world (project_of s) s.root s.base (names_of b.ledger) (Failed M.running.task (fault_of x))) (sym h.1)
      (ran_out world (project_of s) s.root s.base (table_of b.ledger) (names_of b.ledger) M.waiting M.running M.under (M.top.left ∙ h.0))
  fails_as k (inr h) =
      failed world (project_of s) s.root s.base (table_of b.ledger) (names_of b.ledger) M.waiting M.running M.under (f.notes.left - 1) (fault_of k)
      (M.top.left ∙ one_less f.notes.left h.0) (does_so (fails k) h.1)

  pub comes_failing : (n : Noted) (task : Task) (k : FaultKind) (t : Turn) → ComesAs f.code.now f.notes (map answer_of M.running.progress.answers) (Fails n k)
      → task ≡ n.task → t ≡ Stops (Fault (record { task = task; kind = k })) → TurnMeans s b t
  comes_failing n task k t h same e =
      subst (TurnMeans s b) (sym e) (subst (λ x. RefusesAs s b.ledger (Fault (record { task = x; kind = k }))) (sym (same ∙ ap (λ (m : Noted). m.task) h.0)) (
        subst (λ x. HasEnded world (project_of s) s.root s.base (names_of b.ledger) (Failed x (fault_of k))) M.top.task (fails_as k h.1),
        canonical_at b.ledger.names M.table.tasks f.notes.number f.notes.task M.top.named,
      ))

-- what a machine gave, with the answers so far
abbrev pub ComesWith : RunningTask → Paused → Type 0
ComesWith f c = (answers : List Answer) → Follows f.code.now f.notes.task.args answers f.machine → ComesAs f.code.now f.notes answers c

-- a step of a task that asks, ends or fails is that of the model
pub turns_asking : (held : Option Directory) (b new : Builder) (f : RunningTask) (w : Waiting) (e : Event) → w.notes ≡ f.notes → ComesWith f (Asks w e) → (t : Turn)
    → TreatsAs held b new w e t → TurnsAs held b new f t
turns_asking held b new f w e same came t treats s h M =
    treats s h (comes_asking s b f M w e same (came (map answer_of M.running.progress.answers) M.top.follows))

pub turns_ending : (held : Option Directory) (b new : Builder) (f : RunningTask) (n : Noted) (v : Value) → n ≡ f.notes → ComesWith f (Ends n v) → (t : Turn)
    → FinishesAs b new n v t → TurnsAs held b new f t
turns_ending held b new f n v same came t finishes s h M =
    finishes s (comes_ending s b f M n v same (came (map answer_of M.running.progress.answers) M.top.follows))

pub turns_failing : (held : Option Directory) (b : Builder) (f : RunningTask) (n : Noted) (task : Task) (k : FaultKind) → ComesWith f (Fails n k) → (t : Turn)
    → task ≡ n.task → t ≡ Stops (Fault (record { task = task; kind = k })) → TurnsAs held b b f t
turns_failing held b f n task k came t same e s h M =
    comes_failing s b f M n task k t (came (map answer_of M.running.progress.answers) M.top.follows) same e
