-- A running task that ends has a right record.
use Rattle.std.proofs.Common.{◌≡◌, ℕ, suc, ◌-◌, ◌<◌, true, List, [], ◌∷◌, ◌++◌, map, take, refl, sym, ap, ◌∙◌, append-nil}
use Rattle.std.proofs.lemmas.List.{map-append}
use Rattle.pie_base.specs.declared.fault.FaultKind.{FaultKind}
use Rattle.pie_value.specs.Canonical.{enc_task}
use Rattle.pie_value.specs.Tree.{Tree}
use Rattle.pie_operators.specs.Domain.{Outcome as Given}
use Rattle.pie_code.specs.declared.code.Code.{Code}
use Rattle.pie_vm.specs.Machines.{Standing}
use Rattle.pie_view.specs.Content.{content}
use Rattle.pie_record.specs.declared.dep.Dep.{Dep}
use Rattle.pie_record.specs.declared.task_record.Outcome.{Outcome as Ending}
use Rattle.pie_model.specs.declared.words.Event.TheVariants.{Fail}
use Rattle.pie_model.specs.declared.words.Outcome.{Outcome}
use Rattle.pie_model.specs.declared.words.Outcome.TheVariants.{Failed}
use Rattle.pie_model.specs.Trees.{is_plain, trace_of, writes_of}
use Rattle.pie_model.specs.Seen.{first_write}
use Rattle.pie_model.specs.Evaluation.{evaluation}
use Rattle.pie_model.specs.Records.{Observation}
use Rattle.pie_model.specs.inner.RecordLaws.{Passes}
use Rattle.pie_settle_laws.specs.Going.{Ends, HasLeft}
use Rattle.pie_settle_laws.specs.Going.Ends.{failing}
use Rattle.pie_settle_laws.proofs.Leaving.{going_ends}
use Rattle.pie_model_pipeline.specs.Words.{fault_of, event_of}
use Rattle.pie_model_pipeline.specs.Answers.{answer_of}
use Rattle.pie_model_pipeline.specs.Rows.{observation_of, outcome_of, record_of}
use Rattle.pie_model_pipeline.specs.World.{world, next}
use Rattle.pie_builder_laws.specs.Tables.{recorded}
use Rattle.pie_builder_laws.proofs.Naming.{canonical_at}
use Rattle.pie_running.specs.declared.frame.Caller.{Caller}
use Rattle.pie_running.specs.inner.Noted.{Noted, observed}
use Rattle.pie_running.specs.inner.Told.{EvaluatedTo}
use Rattle.pie_running.proofs.FrameLemmas.{one_less}
use Rattle.pie_core_laws.specs.Update.{present}
use Rattle.pie_core_laws.specs.Exact.{busy_by}
use Rattle.pie_core_laws.specs.Running.{IsBaseOf, left_record}
use Rattle.pie_core_laws.proofs.Runs.{ended_right}
use Rattle.pie_model.specs.inner.Stack.{Frame}
use Rattle.pie_task_laws.specs.Sites.{Site, Build, IsThere, IsExactAt}
use Rattle.pie_task_laws.specs.Frames.{IsFrame}
use Rattle.pie_task_laws.specs.Going.{Runs}
use Rattle.pie_task_laws.specs.Coming.{left_as, EndsRight, failed_by}
use Rattle.pie_task_laws.proofs.Frames.{does}

-- ---- notes at an end

-- notes of the same task with these observations more
pub record Adds (n k : Noted) (ds : List Dep) : Type 0 where
  pub task : k.task ≡ n.task
  pub number : k.number ≡ n.number
  pub deps : k.deps ≡ n.deps ++ ds
  pub writes : k.writes ≡ n.writes

pub adds_none : (n : Noted) → Adds n n []
adds_none n = record { task = refl; number = refl; deps = sym (append-nil n.deps); writes = refl }

pub adds_one : (n : Noted) (d : Dep) → Adds n (observed d n) (d ∷ [])
adds_one n d = record { task = refl; number = refl; deps = refl; writes = refl }

module _ (x : Site) (b : Build) (code : Code) (m : Standing) (n : Noted) (left : ℕ) (g : Frame)
    (F : IsFrame x b code m n left g) where
  -- the record that notes give is the one that the frame leaves
  record_left : (k : Noted) (ds : List Dep) (last : List Observation) (e : Outcome) (o : Ending) → Adds n k ds → map observation_of ds ≡ last
      → outcome_of o ≡ e → record_of (left_as k o) ≡ left_record g last e
  record_left k ds last e o K same ended = λ i. record {
    task = (ap enc_task K.task ∙ sym F.task) i;
    observations = (ap (map observation_of) K.deps ∙ map-append observation_of n.deps ds ∙ ap (λ z. z ++ map observation_of ds) F.seen
        ∙ ap (λ z. g.seen ++ z) same) i;
    writes = (K.writes ∙ F.writes) i;
    outcome = ended i;
  }

  -- and it is right
  pub has_ended : (base : List ℕ) (k : Noted) (ds : List Dep) (last : List Observation) (e : Outcome) (o : Ending) → IsBaseOf x.update base
      → HasLeft world (present x.update) base g last e → is_plain e ≡ true → Adds n k ds → map observation_of ds ≡ last → outcome_of o ≡ e
      → EndsRight x b k o
  has_ended base k ds last e o is_base L plain K same ended = record {
    right = ended_right x.update base g last e (left_as k o) is_base L plain (record_left k ds last e o K same ended);
    staged = λ p.
        ap (λ i. content b.stage i p) K.number ∙ F.staged p ∙ ap (first_write p) (sym L.wrote)
        ∙ ap (λ t. first_write p (writes_of (trace_of (evaluation world (present x.update) t)))) (F.task ∙ ap enc_task (sym K.task));
  }

module _ (x : Site) (b : Build) (cs : List Caller) (code : Code) (m : Standing) (n : Noted) (R : Runs x b cs code m n) where
  -- what its code evaluates to is what it does
  pub next_is : IsThere x → IsExactAt x b → (o : Given Tree) → EvaluatedTo code n.task.args (map answer_of R.frame.progress.answers) o
      → next x.update.functions R.frame.task R.frame.progress.answers ≡ event_of o
  next_is there e o came =
      does x b code m n n.left R.frame R.means there (canonical_at b.names e.tasks n.number n.task R.means.named) o came

  pub left_right : (k : Noted) (ds : List Dep) (last : List Observation) (e : Outcome) (o : Ending) → Ends world (present x.update) R.frame last e
      → is_plain e ≡ true → Adds n k ds → map observation_of ds ≡ last → outcome_of o ≡ e → EndsRight x b k o
  left_right k ds last e o ends plain K same ended =
      has_ended x b code m n n.left R.frame R.means R.goes.base k ds last e o R.goes.is_base
      (going_ends world (present x.update) (recorded b.names b.records) (Passes (busy_by b.names b.walk)) R.goes.base (take R.goes.depth R.below) R.frame
      R.goes.goes last e ends) plain K same ended

  -- a task that fails
  pub fails_right : (k : Noted) (ds : List Dep) (last : List Observation) (fault : FaultKind)
      → Ends world (present x.update) R.frame last (Failed R.frame.task (fault_of fault)) → Adds n k ds → map observation_of ds ≡ last
      → EndsRight x b k (failed_by k fault)
  fails_right k ds last fault ends K same =
      left_right k ds last (Failed R.frame.task (fault_of fault)) (failed_by k fault) ends refl K same
      (ap (λ t. Failed t (fault_of fault)) (ap enc_task K.task ∙ sym R.means.task))

  -- it has an event left
  pub some_left : 0 < n.left → R.frame.left ≡ suc (n.left - 1)
  some_left left = R.means.left ∙ one_less n.left left

  -- for a fault of its own
  pub fails_own : (fault : FaultKind) → 0 < n.left → next x.update.functions R.frame.task R.frame.progress.answers ≡ Fail (fault_of fault)
      → EndsRight x b n (failed_by n fault)
  fails_own fault left q =
      fails_right n [] [] fault (failing (n.left - 1) (fault_of fault) (some_left left) q) (adds_none n) refl
