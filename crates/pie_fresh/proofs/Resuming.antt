-- Once a task has ended, the one that waits for it goes on as in the model, or the root rests.
use Rattle.std.proofs.Common.{◌≡◌, ℕ, suc, ◌-◌, Some, List, [], ◌∷◌, ◌++◌, length, reverse, refl, sym, ap, subst, ◌∙◌, arith}
use Rattle.std.specs.Prelude.{slice_get}
use Rattle.std.proofs.lemmas.List.{reverse-append}
use Rattle.pie_value.specs.declared.value.Value.{Value}
use Rattle.pie_value.specs.Values.{tree_of}
use Rattle.pie_value.specs.Canonical.{enc, enc_task}
use Rattle.pie_model.specs.declared.words.How.{How}
use Rattle.pie_model.specs.declared.words.Event.TheVariants.{Require}
use Rattle.pie_model.specs.Evaluation.{evaluation}
use Rattle.pie_model.specs.inner.Stack.{Frame as ModelFrame}
use Rattle.pie_step_laws.specs.Frames.{was_answered}
use Rattle.pie_step_laws.specs.Table.{Rests as TableRests}
use Rattle.pie_step_laws.specs.UnderWay.{UnderWay, HasEnded}
use Rattle.pie_model.specs.declared.words.Outcome.TheVariants.{Ended}
use Rattle.pie_model_pipeline.specs.Words.{how_of}
use Rattle.pie_model_pipeline.specs.World.{world}
use Rattle.pie_model_pipeline.proofs.Joining.{tasks_told}
use Rattle.pie_builder_laws.specs.Requiring.{of_task, requiring_answer}
use Rattle.pie_builder_laws.proofs.Naming.{canonical_at}
use Rattle.pie_running.specs.declared.frame.RunningTask.{RunningTask}
use Rattle.pie_running.specs.declared.frame.Caller.{Caller}
use Rattle.pie_fresh.specs.declared.builder.Builder.{Builder}
use Rattle.pie_running.specs.inner.Noted.{required}
use Rattle.pie_running.specs.inner.Told.{IsTold}
use Rattle.pie_fresh.specs.inner.Means.{MeansTable}
use Rattle.pie_running.specs.inner.Means.{MeansCaller}
use Rattle.pie_fresh.specs.inner.Means.{Site, project_of, table_of, names_of, IsThere, MeansFrame, MeanCallers, Means, GoesOnAfter, HasFinished, RestsAs}
use Rattle.pie_running.proofs.Fitting.{fits_output}
use Rattle.pie_running.proofs.FrameLemmas.{given_frame}
use Rattle.pie_fresh.proofs.Giving.{output_canonical, output_kept}

-- a list without elements
pub nothing_left : {X : Type 0} (xs : List X) → length xs ≡ 0 → xs ≡ []
nothing_left [] e = refl
nothing_left (x ∷ xs) e = absurd (omega (arith, e))

-- with no task that waits the root rests
pub rested : (s : Site) (b c : Builder) (number : ℕ) (v : Value) → HasFinished s b number v → b.stack.items ≡ [] → c.stack.items ≡ []
    → c.ledger ≡ b.ledger → IsThere s c → RestsAs s c
rested s b c number v H none alone same there =
    by H.waiting (subst (λ cs. MeanCallers s b.ledger H.waiting (reverse cs)) none H.stack) H.goes
  where
    by : (gs : List ModelFrame) → MeanCallers s b.ledger gs [] → GoesOnAfter s b (enc_task H.task) (enc (tree_of v)) gs → RestsAs s c
    by [] m g = record {
      resting = record {
        there = there;
        table = subst (MeansTable s) (sym same) H.table;
        rests = subst (λ l. TableRests world (project_of s) (table_of l) (names_of l)) (sym same) g.0;
        alone = alone;
      };
      value = enc (tree_of v);
      ended = subst (λ l. HasEnded world (project_of s) s.root s.base (names_of l) (Ended (enc (tree_of v)))) (sym same) g.1;
    }
    by (x ∷ gs) m g = absurd m

one_off : (k n : ℕ) → n ≡ suc k → k ≡ n - 1
one_off k n e = omega (arith, e)

-- requires of one task are of one task and alike
same_task : (h k : How) (t u : List ℕ) → Require h t ≡ Require k u → t ≡ u
same_task h k t u e = cc

-- the newest task that waits is told what the one that has ended gave
pub resumed_means : (s : Site) (b c : Builder) (w : Caller) (number height : ℕ) (v : Value) (f : RunningTask) → HasFinished s b number v
    → b.stack.items ≡ c.stack.items ++ w ∷ [] → c.ledger ≡ b.ledger → IsThere s c
    → IsTold w.waiting f (required (of_task w.how w.required v) number height w.waiting.notes) (requiring_answer w.how v)
    → Means s c f.code.now f.machine f.notes
resumed_means s b c w number height v f H popped same there told =
    by H.waiting (subst (λ cs. MeanCallers s b.ledger H.waiting cs) (ap reverse popped ∙ reverse-append c.stack.items (w ∷ [])) H.stack) H.goes
  where
    by : (gs : List ModelFrame) → MeanCallers s b.ledger gs (w ∷ reverse c.stack.items) → GoesOnAfter s b (enc_task H.task) (enc (tree_of v)) gs
        → Means s c f.code.now f.machine f.notes
    by [] m g = absurd m
    by (x ∷ gs) m g =
        let caller : MeansCaller s.functions s.headings s.codes b.ledger.names b.ledger.stage x w = m.0 in
        let bytes : enc_task w.required ≡ enc_task H.task
        = same_task (how_of w.how) g.0.how (enc_task w.required) (enc_task H.task) (sym caller.waits ∙ g.0.next) in
        let task : w.required ≡ H.task
        = tasks_told w.required H.task caller.canonical (canonical_at b.ledger.names H.table.tasks number H.task H.named) bytes in
        let named : slice_get b.ledger.names number ≡ Some w.required = H.named ∙ ap Some (sym task) in
        let left : x.left ≡ w.waiting.notes.left - 1 = caller.frame.left ∙ one_off caller.left w.waiting.notes.left caller.is_left in
        let under : UnderWay world (project_of s) s.root s.base (table_of b.ledger) (names_of b.ledger) gs
        (was_answered world (project_of s) x x.left (how_of w.how) (enc_task w.required) (enc (tree_of v)))
        = subst (λ u. UnderWay world (project_of s) s.root s.base (table_of b.ledger) (names_of b.ledger) gs
        (was_answered world (project_of s) x x.left (how_of w.how) u (enc (tree_of v)))) (sym bytes)
        (g.1 (how_of w.how) (caller.waits ∙ ap (Require (how_of w.how)) bytes)) in
        subst (λ code. Means s c code f.machine f.notes) (sym told.code) (subst (λ n. Means s c w.waiting.code.now f.machine n) (sym told.notes) (record {
          there = there;
          table = subst (MeansTable s) (sym same) H.table;
          waiting = gs;
          running = was_answered world (project_of s) x x.left (how_of w.how) (enc_task w.required) (enc (tree_of v));
          stack = subst (λ l. MeanCallers s l gs (reverse c.stack.items)) (sym same) m.1;
          top = subst (λ l. MeansFrame s l w.waiting.code.now f.machine (required (of_task w.how w.required v) number height w.waiting.notes)
              (w.waiting.notes.left - 1) (was_answered world (project_of s) x x.left (how_of w.how) (enc_task w.required) (enc (tree_of v)))) (sym same)
              (subst (λ k. MeansFrame s b.ledger w.waiting.code.now f.machine (required (of_task w.how w.required v) number height w.waiting.notes) k
              (was_answered world (project_of s) x x.left (how_of w.how) (enc_task w.required) (enc (tree_of v)))) left
              (given_frame s.functions s.headings s.codes b.ledger.names b.ledger.stage w.waiting.code.now w.waiting.machine w.waiting.notes caller.left x
              caller.frame x.left f.machine w.how w.required v number height (evaluation world (project_of s) (enc_task w.required)) named
              (output_canonical s b.ledger number H.output.rec v H.table H.output.kept H.output.outcome) told.follows
              (fits_output s.functions s.headings s.codes H.there.compiled b.ledger.names b.ledger.stage w.waiting.code.now w.waiting.machine w.waiting.notes
              caller.left x caller.frame w.required w.how v caller.came
              (output_kept s b.ledger number w.required H.output.rec v H.table named H.output.kept H.output.outcome))));
          under = subst (λ l. UnderWay world (project_of s) s.root s.base (table_of l) (names_of l) gs
              (was_answered world (project_of s) x x.left (how_of w.how) (enc_task w.required) (enc (tree_of v)))) (sym same) under;
        }))
