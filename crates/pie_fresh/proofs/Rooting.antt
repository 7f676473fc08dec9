-- A root gets an answer as in the model.
use Rattle.std.proofs.Common.{◌≡◌, ℕ, true, Option, Some, None, List, refl, sym, subst, ◌∙◌}
use Rattle.std.specs.Prelude.{slice_get}
use Rattle.pie_value.specs.declared.task.Task.{Task}
use Rattle.pie_value.specs.declared.verdict.Refusal.{Refusal}
use Rattle.pie_value.specs.Canonical.{enc_task}
use Rattle.pie_files.specs.Directory.{Directory}
use Rattle.pie_model.specs.Trees.{outcome_of, is_done}
use Rattle.pie_model.specs.declared.words.Outcome.{Outcome}
use Rattle.pie_model.specs.declared.words.Outcome.TheVariants.{Ended, Failed, Cycled, Many}
use Rattle.pie_model.specs.Evaluation.{evaluation}
use Rattle.pie_step_laws.specs.UnderWay.{HasEnded}
use Rattle.pie_step_laws.proofs.EndLemmas.{known_done, known_adds_nothing}
use Rattle.pie_model_pipeline.specs.World.{world}
use Rattle.pie_builder_laws.proofs.Naming.{among_at}
use Rattle.pie_running.specs.declared.frame.RunningTask.{RunningTask}
use Rattle.pie_fresh.specs.declared.builder.Builder.{Builder}
use Rattle.pie_fresh.specs.declared.turn.Turn.{Turn}
use Rattle.pie_fresh.specs.declared.turn.Turn.TheVariants.{Goes, Rests, Stops}
use Rattle.pie_fresh.specs.declared.builder.Entered.TheVariants.{Runs, Refused as NotStarted}
use Rattle.pie_fresh.specs.inner.Means.{Site, project_of, table_of, names_of, Means, TurnMeans, TurnsAs, NewAs, RunsOn, RunsAs, BeginsAs}
use Rattle.pie_fresh.proofs.Starting.{root_means, root_refused}

-- ---- from one event of the running task to the next

module _ (first held : Option Directory) (a b c : Builder) (began f : RunningTask) (same : held ≡ first) (so_far : RunsOn first a began b f) (t : Turn)
    (turns : TurnsAs held b c f t) where
  came : (s : Site) → first ≡ Some s.directory → Means s a began.code.now began.machine began.notes → TurnMeans s c t
  came s h M = turns s (same ∙ h) (so_far s h M)

  pub runs_on : (g : RunningTask) → t ≡ Goes g → RunsOn first a began c g
  runs_on g is s h M = subst (λ x. TurnMeans s c x) is (came s h M)

  pub runs_out : t ≡ Rests → RunsAs first a c began None
  runs_out is s h M = subst (λ x. TurnMeans s c x) is (came s h M)

  pub runs_stop : (r : Refusal) → t ≡ Stops r → RunsAs first a c began (Some r)
  runs_stop r is s h M = subst (λ x. TurnMeans s c x) is (came s h M)

-- a root begins to run
pub runs_first : (held : Option Directory) (b : Builder) (f : RunningTask) → RunsOn held b f b f
runs_first held b f s h M = M

-- ---- from its first event to its answer

-- a root that was entered runs to its answer
pub begins_runs : (held : Option Directory) (b c new : Builder) (root : Task) (f : RunningTask) → NewAs b c root (Runs f) → (why : Option Refusal)
    → RunsAs held c new f why → BeginsAs held b new root why
begins_runs held b c new root f enters why goes s n h R found same base =
    let E = enters s R.there R.table in goes s h (root_means s b c root R same base f E.0 E.1)

-- or isn't started
pub begins_refused : (held : Option Directory) (b c : Builder) (root : Task) (r : Refusal) → NewAs b c root (NotStarted r) → BeginsAs held b c root (Some r)
begins_refused held b c root r enters s n h R found same base = root_refused s b c root R same base (n, found) r (enters s R.there R.table)

-- an outcome that is a value
record IsValue (e : Outcome) : Type 0 where
  value : List ℕ
  is : e ≡ Ended value

value_of : (e : Outcome) → is_done e ≡ true → IsValue e
value_of (Ended v) h = record { value = v; is = refl }
value_of (Failed t k) h = cc
value_of (Cycled ts) h = cc
value_of Many h = cc

-- a root that was entered before has ended with a value
pub known_rests : (held : Option Directory) (b : Builder) (root : Task) (number : ℕ) → slice_get b.ledger.names number ≡ Some root
    → BeginsAs held b b root None
known_rests held b root number named s n h R found same base =
    let known = among_at b.ledger.names number root named in
    let v = value_of (outcome_of (evaluation world (project_of s) (enc_task root)))
    (known_done world (project_of s) (table_of b.ledger) (names_of b.ledger) (enc_task root) R.rests known) in
    record {
      resting = R;
      value = v.value;
      ended = subst (λ r. HasEnded world (project_of s) r s.base (names_of b.ledger) (Ended v.value)) (sym same)
          (subst (λ ns. HasEnded world (project_of s) (enc_task root) ns (names_of b.ledger) (Ended v.value)) (sym base) (record {
            outcome = v.is;
            enters = known_adds_nothing world (project_of s) (table_of b.ledger) (names_of b.ledger) (enc_task root) R.rests known;
            few = R.rests.table.few;
          }));
    }
