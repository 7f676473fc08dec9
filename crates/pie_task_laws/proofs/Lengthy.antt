-- A task that reads a file which is too long to be a value fails for it.
use Rattle.std.proofs.Common.{◌≡◌, ℕ, suc, ◌-◌, ◌<◌, Bool, true, false, cond, Some, List, [], ◌∷◌, ◌++◌, length, map, take, refl, sym, ap, ◌∙◌}
use Rattle.std.proofs.Common.{append-nil, arith}
use Rattle.std.proofs.lemmas.Bool.Decides.{nat_tests}
use Rattle.std.specs.Prelude.{◌==◌}
use Rattle.pie_base.specs.declared.fault.FaultKind.TheVariants as faults
use Rattle.pie_value.specs.declared.event.Answer.TheVariants as answers
use Rattle.pie_value.specs.declared.event.By.{By}
use Rattle.pie_value.specs.declared.event.By.TheVariants as stamped
use Rattle.pie_value.specs.declared.event.Event.TheVariants as events
use Rattle.pie_operators.specs.Domain.{fails}
use Rattle.pie_record.specs.declared.dep.Dep.{Dep}
use Rattle.pie_model.specs.declared.words.Event.TheVariants.{Fail}
use Rattle.pie_model.specs.declared.words.FaultKind.TheVariants as model_faults
use Rattle.pie_model.specs.declared.words.Outcome.{Outcome}
use Rattle.pie_model.specs.declared.words.Outcome.TheVariants.{Failed}
use Rattle.pie_model.specs.Evaluation.{present_answer}
use Rattle.pie_model.specs.Records.{Observation, Looked, observed as observation, contents_stamp, hashed}
use Rattle.pie_model.specs.inner.RecordLaws.{Passes}
use Rattle.pie_model.specs.inner.Stack.{Frame}
use Rattle.pie_step_laws.specs.Frames.{saw_contents}
use Rattle.pie_step_laws.proofs.StepLemmas.{map_end}
use Rattle.pie_settle_laws.specs.Going.{Ends, HasLeft}
use Rattle.pie_settle_laws.specs.Going.Ends.{failing, without_events}
use Rattle.pie_settle_laws.proofs.Goings.{present_look}
use Rattle.pie_settle_laws.proofs.Leaving.{going_ends}
use Rattle.pie_model_pipeline.specs.Words.{fault_of, look_by}
use Rattle.pie_model_pipeline.specs.Answers.{answer_of}
use Rattle.pie_model_pipeline.specs.Rows.{observation_of}
use Rattle.pie_model_pipeline.specs.World.{world, next}
use Rattle.pie_builder_laws.specs.Tables.{recorded}
use Rattle.pie_builder_laws.proofs.Naming.{canonical_at}
use Rattle.pie_builder_laws.proofs.Coded.{event_is}
use Rattle.pie_running.specs.declared.frame.Waiting.{Waiting}
use Rattle.pie_running.specs.declared.frame.Caller.{Caller}
use Rattle.pie_running.specs.inner.Noted.{observed}
use Rattle.pie_running.specs.inner.Sights.{most_content, Sees}
use Rattle.pie_running.specs.inner.Told.{told_reading, too_much}
use Rattle.pie_running.proofs.Sighting.{reading_as, same_sight}
use Rattle.pie_running.proofs.TooLong.{comes_big}
use Rattle.pie_core_laws.specs.Update.{present}
use Rattle.pie_core_laws.specs.Exact.{busy_by}
use Rattle.pie_core_laws.specs.Running.{GoesIn}
use Rattle.pie_task_laws.specs.Sites.{Site, Build, IsThere}
use Rattle.pie_task_laws.specs.Coming.{EndsRight, failed_by}
use Rattle.pie_task_laws.specs.Sights.{SeesOut}
use Rattle.pie_task_laws.specs.Telling.{Looks}
use Rattle.pie_task_laws.proofs.Ending.{adds_one, has_ended, some_left}
use Rattle.pie_task_laws.proofs.Seeing.{seen_visible}

-- the answer of the model to a task that reads, as the language has it
bytes_told : (by : By) (bytes : List ℕ) → answer_of (present_answer world bytes (look_by by)) ≡ answers.Bytes (Some bytes)
bytes_told stamped.Hash bytes = refl
bytes_told stamped.Mark bytes = refl
bytes_told stamped.Raw bytes = refl

none_left : (n : ℕ) → (n == 1) ≡ true → n - 1 ≡ 0
none_left n e = grind (arith, nat_tests)

two_left : (n : ℕ) → 0 < n → (n == 1) ≡ false → n - 1 ≡ suc (n - 2)
two_left n some e = grind (arith, nat_tests)

module _ (x : Site) (b : Build) (cs : List Caller) (w : Waiting) (path : List ℕ) (by : By) (f : List ℕ × ℕ) (there : IsThere x)
    (L : Looks x b cs w (events.Read path by)) (sees : Sees x.update.directory path (SeesOut x b w.notes path) (Some (Some f)))
    (long : most_content < length f.0) where
  -- the running frame
  abbrev g : Frame
  g = L.asking.runs.frame

  -- after the look
  abbrev told : Frame
  told = saw_contents world g (w.notes.left - 1) (look_by by) path f.0 f.1

  abbrev seen : Observation
  seen = observation (Looked (look_by by) path) (contents_stamp world path f.0 f.1 (look_by by))

  goes : GoesIn x.update b.names b.records b.walk L.asking.runs.goes.base (take L.asking.runs.goes.depth L.asking.runs.below) told
  goes =
      present_look world (present x.update) (recorded b.names b.records) (Passes (busy_by b.names b.walk)) L.asking.runs.goes.base
      (take L.asking.runs.goes.depth L.asking.runs.below) g L.asking.runs.goes.goes (w.notes.left - 1) (look_by by) path f.0 f.1
      (some_left x b cs w.code.now w.machine w.notes L.asking.runs L.left) L.asking.asks
      (seen_visible x b cs w.code.now w.machine w.notes L.asking.runs L.sound L.outputs (SeesOut x b w.notes path) path (Some (Some f)) (λ o i. i) sees)

  -- what it does next is to fail
  fails_next : next x.update.functions g.task (g.progress.answers ++ present_answer world f.0 (look_by by) ∷ []) ≡ Fail model_faults.Big
  fails_next =
      let given = g.progress.answers in
      let all : map answer_of (given ++ present_answer world f.0 (look_by by) ∷ []) ≡ map answer_of given ++ answers.Bytes (Some f.0) ∷ []
      = map_end answer_of given (present_answer world f.0 (look_by by)) ∙ ap (λ y. map answer_of given ++ y ∷ []) (bytes_told by f.0) in
      let big = comes_big f.0 long w.code.now w.notes.task.args (map answer_of given) path by L.asking.came.state L.asking.came.is in
      ap (λ t. next x.update.functions t (given ++ present_answer world f.0 (look_by by) ∷ [])) L.asking.runs.means.task
      ∙ event_is x.update.functions x.codes w.notes.task L.asking.runs.means.function w.code.now (given ++ present_answer world f.0 (look_by by) ∷ [])
      (map answer_of given ++ answers.Bytes (Some f.0) ∷ []) (fails faults.Big) big.0
      there L.asking.runs.means.found L.asking.runs.means.coded L.asking.runs.means.takes
      (canonical_at b.names L.sound.exact.tasks w.notes.number w.notes.task L.asking.runs.means.named) all big.1

  ended : (last : Bool) → (w.notes.left == 1) ≡ last
      → Ends world (present x.update) told [] (Failed g.task (fault_of (cond last faults.Budget faults.Big)))
  ended true e = without_events (none_left w.notes.left e)
  ended false e = failing (w.notes.left - 2) model_faults.Big (two_left w.notes.left L.left e) fails_next

  abbrev end : Outcome
  end = Failed g.task (fault_of (too_much w.notes.left))

  left_there : HasLeft world (present x.update) L.asking.runs.goes.base told [] end
  left_there =
      going_ends world (present x.update) (recorded b.names b.records) (Passes (busy_by b.names b.walk)) L.asking.runs.goes.base
      (take L.asking.runs.goes.depth L.asking.runs.below) told goes [] end (ended (w.notes.left == 1) refl)

  left_here : HasLeft world (present x.update) L.asking.runs.goes.base g (seen ∷ []) end
  left_here = record {
    is = left_there.is
        ∙ ap (λ (os : List Observation). record { task = g.task; observations = os; writes = hashed world g.progress.own; outcome = end })
        (append-nil (g.seen ++ seen ∷ []));
    wrote = left_there.wrote;
    stands = left_there.stands;
  }

  abbrev noted : Dep
  noted = (told_reading by path (Some f)).0

  noted_is : observation_of noted ≡ seen
  noted_is = (reading_as by path (Some f) (λ o s. same_sight (Some (Some f)) (Some f) refl (sees.kept o s))).observation

  pub long_ends : EndsRight x b (observed noted w.notes) (failed_by w.notes (too_much w.notes.left))
  long_ends =
      has_ended x b w.code.now w.machine w.notes w.notes.left g L.asking.runs.means L.asking.runs.goes.base (observed noted w.notes) (noted ∷ []) (seen ∷ [])
      end (failed_by w.notes (too_much w.notes.left)) L.asking.runs.goes.is_base left_here refl (adds_one w.notes noted) (ap (λ o. o ∷ []) noted_is)
      (ap (λ t. Failed t (fault_of (too_much w.notes.left))) (sym L.asking.runs.means.task))
