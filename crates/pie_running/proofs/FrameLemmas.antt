-- A task that was answered is the frame of the model with this answer.
use Rattle.std.proofs.Common.{◌≡◌, ℕ, suc, ◌-◌, ◌<◌, cond, Some, None, List, [], ◌∷◌, ◌++◌, map, length, refl, sym, ap, subst, ◌∙◌, append-nil, append_assoc, arith}
use Rattle.std.specs.Prelude.{slice_get}
use Rattle.sha2.specs.Sha256.{sha256}
use Rattle.pie_value.specs.declared.task.Task.{Task}
use Rattle.pie_value.specs.declared.value.Value.{Value}
use Rattle.pie_value.specs.declared.event.How.{How}
use Rattle.pie_value.specs.declared.event.Answer.{Answer}
use Rattle.pie_value.specs.declared.event.Answer.TheVariants as answers
use Rattle.pie_value.specs.declared.event.Event.{Event}
use Rattle.pie_value.specs.declared.event.Event.TheVariants as events
use Rattle.pie_value.specs.Tree.{Tree}
use Rattle.pie_value.specs.Values.{tree_of}
use Rattle.pie_value.specs.Canonical.{enc, enc_task, IsCanonical, IsCanonicalTask}
use Rattle.pie_operators.specs.Domain.{Outcome, wants}
use Rattle.pie_code.specs.declared.code.Code.{Code}
use Rattle.pie_code.specs.Running.{start}
use Rattle.pie_vm.specs.Machines.{Standing, Leads, Follows}
use Rattle.pie_view.specs.Content.{Staged, content}
use Rattle.pie_record.specs.declared.dep.Dep.{Dep}
use Rattle.pie_parser.specs.FunctionTrees.{FunctionTree}
use Rattle.pie_types.specs.Headings.{Heading}
use Rattle.pie_types.specs.Whole.{number_from}
use Rattle.pie_type_laws.specs.Fitting.{AnswerFits}
use Rattle.pie_model.specs.declared.words.Answer.{Answer as ModelAnswer}
use Rattle.pie_model.specs.declared.words.Answer.TheVariants as model_answers
use Rattle.pie_model.specs.Trees.{Node}
use Rattle.pie_model.specs.Evaluation.{answered, required as model_required, output_answer}
use Rattle.pie_model.specs.Records.{Observation, Required, observed as observation, value_stamp, hashed}
use Rattle.pie_model.specs.inner.Stack.{Frame as ModelFrame}
use Rattle.pie_step_laws.specs.Frames.{begun as model_begun, gone_on, has_written, set_aside}
use Rattle.pie_step_laws.proofs.StepLemmas.{map_end}
use Rattle.pie_model_pipeline.specs.Words.{event_of, how_of}
use Rattle.pie_model_pipeline.specs.Answers.{answer_of}
use Rattle.pie_model_pipeline.specs.Rows.{observation_of}
use Rattle.pie_model_pipeline.specs.World.{world, next}
use Rattle.pie_builder_laws.specs.Names.{called_on, called_in}
use Rattle.pie_builder_laws.specs.Views.{AreNumbersOf}
use Rattle.pie_builder_laws.specs.Events.{AreCompiled}
use Rattle.pie_builder_laws.specs.Fits.{Fit}
use Rattle.pie_builder_laws.specs.Requiring.{of_task, requiring_answer}
use Rattle.pie_builder_laws.proofs.Coded.{event_is}
use Rattle.pie_builder_laws.proofs.Fitted.{no_answers}
use Rattle.pie_builder_laws.proofs.Required.{require_is, answer_is}
use Rattle.pie_running.specs.declared.frame.RunningTask.{RunningTask}
use Rattle.pie_running.specs.declared.frame.Waiting.{Waiting}
use Rattle.pie_running.specs.inner.Noted.{Noted, begun, observed, required, wrote}
use Rattle.pie_running.specs.inner.Coded.{HasFunction}
use Rattle.pie_running.specs.inner.Told.{EvaluatedTo, IsTold, KeepsFirst}
use Rattle.pie_running.specs.inner.Means.{MeansFrame}
use Rattle.pie_running.proofs.Firsts.{first_after, hashed_end, hash_is_sha}
use Rattle.pie_running.proofs.Fitting.{fits_more}

-- the tasks that observations require, with one observation more
pub called_end : (ds : List Dep) (d : Dep) → called_in (ds ++ d ∷ []) ≡ called_in ds ++ called_on d.what
called_end [] d = append-nil (called_on d.what)
called_end (e ∷ ds) d = ap (λ ts. called_on e.what ++ ts) (called_end ds d) ∙ sym (append_assoc (called_on e.what) (called_in ds) (called_on d.what))

called_same : (ds : List Dep) (d : Dep) → called_on d.what ≡ [] → called_in (ds ++ d ∷ []) ≡ called_in ds
called_same ds d e = called_end ds d ∙ ap (λ ts. called_in ds ++ ts) e ∙ append-nil (called_in ds)

pub one_less : (n : ℕ) → 0 < n → n ≡ suc (n - 1)
one_less n h = omega (arith, h)

pub most_events_is : world.most_events ≡ 1000001
unfolding world
most_events_is = refl

follows_start : (code : Code) (args : List Tree) (m : Standing) → m.config ≡ start code args [] → Follows code args [] m
follows_start code args m e = subst (λ c. Leads code (start code args []) c) (sym e) (record { ends = λ rest o h. h })

module _ (fs : List FunctionTree) (hs : List Heading) (codes : List Code) (names : List Task) (stage : Staged) where
  -- ---- a task that begins

  -- a new task before its first event is the new frame of the model, where nothing is staged under its number
  pub begun_frame : (t : Task) (f : RunningTask) (number : ℕ) → slice_get names number ≡ Some t → HasFunction fs codes t f.code.now
      → f.machine.config ≡ start f.code.now t.args [] → f.notes ≡ begun t number 1000001 → ((p : List ℕ) → content stage number p ≡ None)
      → MeansFrame fs hs codes names stage f.code.now f.machine f.notes f.notes.left (model_begun world (enc_task t))
  begun_frame t f number named function started notes empty =
      subst (λ n. MeansFrame fs hs codes names stage f.code.now f.machine n n.left (model_begun world (enc_task t))) (sym notes) (record {
        task = refl;
        named = named;
        function = function.number;
        found = function.found;
        coded = function.coded;
        takes = function.takes;
        follows = follows_start f.code.now t.args f.machine started;
        fits = no_answers fs hs t;
        seen = refl;
        writes = refl;
        needs = refl;
        staged = empty;
        left = most_events_is;
      })

  module _ (code : Code) (m : Standing) (n : Noted) (left : ℕ) (g : ModelFrame) (F : MeansFrame fs hs codes names stage code m n left g) where
    -- ---- a task that runs on

    -- what the code evaluates to is what the task does
    pub does : AreCompiled fs codes → IsCanonicalTask n.task (enc_task n.task) → (o : Outcome Tree)
        → EvaluatedTo code n.task.args (map answer_of g.progress.answers) o → next fs g.task g.progress.answers ≡ event_of o
    does compiled canonical o h =
        ap (λ t. next fs t g.progress.answers) F.task
        ∙ event_is fs codes n.task F.function code g.progress.answers (map answer_of g.progress.answers) o h.state compiled F.found F.coded F.takes canonical
        refl h.is

    -- the same with its machine further on
    pub moved_frame : (k : Standing) → Follows code n.task.args (map answer_of g.progress.answers) k → MeansFrame fs hs codes names stage code k n left g
    moved_frame k h = record {
      task = F.task;
      named = F.named;
      function = F.function;
      found = F.found;
      coded = F.coded;
      takes = F.takes;
      follows = h;
      fits = F.fits;
      seen = F.seen;
      writes = F.writes;
      needs = F.needs;
      staged = F.staged;
      left = F.left;
    }

    -- a frame that waits is the one that ran
    pub aside_frame : (k : ℕ) → MeansFrame fs hs codes names stage code m n k (set_aside g k)
    aside_frame k = record {
      task = F.task;
      named = F.named;
      function = F.function;
      found = F.found;
      coded = F.coded;
      takes = F.takes;
      follows = F.follows;
      fits = F.fits;
      seen = F.seen;
      writes = F.writes;
      needs = F.needs;
      staged = F.staged;
      left = refl;
    }

    -- the same in a build that has grown
    pub frame_moves : (more : List Task) (later : Staged) → slice_get more n.number ≡ Some n.task → AreNumbersOf more n.needs (called_in n.deps)
        → ((p : List ℕ) → content later n.number p ≡ content stage n.number p) → MeansFrame fs hs codes more later code m n left g
    frame_moves more later named needs same = record {
      task = F.task;
      named = named;
      function = F.function;
      found = F.found;
      coded = F.coded;
      takes = F.takes;
      follows = F.follows;
      fits = F.fits;
      seen = F.seen;
      writes = F.writes;
      needs = needs;
      staged = λ p. same p ∙ F.staged p;
      left = F.left;
    }

    -- ---- a task that was answered

    -- with one more answer, which is this one of the model
    answer_more : (x : ModelAnswer) (a : Answer) → a ≡ answer_of x
        → map answer_of g.progress.answers ++ a ∷ [] ≡ map answer_of (g.progress.answers ++ x ∷ [])
    answer_more x a same = ap (λ y. map answer_of g.progress.answers ++ y ∷ []) same ∙ sym (map_end answer_of g.progress.answers x)

    -- a task that observed something and was told what it is
    pub told_frame : AreCompiled fs codes → (k : ℕ) (m2 : Standing) (d : Dep) (a : Answer) (x : ModelAnswer) (o : Observation) (e : Event)
        → EvaluatedTo code n.task.args (map answer_of g.progress.answers) (wants e) → AnswerFits hs e a
        → ((args : List Tree) (given : List Answer) → Follows code args given m → Follows code args (given ++ a ∷ []) m2)
        → called_on d.what ≡ [] → a ≡ answer_of x → observation_of d ≡ o
        → MeansFrame fs hs codes names stage code m2 (observed d n) k (gone_on g (answered g.progress x) (g.seen ++ o ∷ []) k)
    told_frame compiled k m2 d a x o e came fits follows none same note = record {
      task = F.task;
      named = F.named;
      function = F.function;
      found = F.found;
      coded = F.coded;
      takes = F.takes;
      follows = subst (λ given. Follows code n.task.args given m2) (answer_more x a same)
          (follows n.task.args (map answer_of g.progress.answers) F.follows);
      fits = subst (λ given. Fit fs hs n.task given) (answer_more x a same)
          (fits_more fs hs codes compiled names stage code m n left g F e a came fits);
      seen = map_end observation_of n.deps d ∙ ap (λ z. z ++ observation_of d ∷ []) F.seen ∙ ap (λ y. g.seen ++ y ∷ []) note;
      writes = F.writes;
      needs = subst (AreNumbersOf names n.needs) (sym (called_same n.deps d none)) F.needs;
      staged = F.staged;
      left = refl;
    }

    -- a task with one more required task and its answer
    pub given_frame : (k : ℕ) (m2 : Standing) (how : How) (t : Task) (v : Value) (number height : ℕ) (x : Node) → slice_get names number ≡ Some t
        → IsCanonical (tree_of v) (enc (tree_of v))
        → ((args : List Tree) (given : List Answer) → Follows code args given m → Follows code args (given ++ requiring_answer how v ∷ []) m2)
        → Fit fs hs n.task (map answer_of g.progress.answers ++ requiring_answer how v ∷ [])
        → MeansFrame fs hs codes names stage code m2 (required (of_task how t v) number height n) k
        (gone_on g (model_required g.progress x (output_answer (enc (tree_of v)) (how_of how)))
        (g.seen ++ observation (Required (how_of how) (enc_task t)) (value_stamp world (enc (tree_of v)) (how_of how)) ∷ []) k)
    given_frame k m2 how t v number height x called canonical follows fits = record {
      task = F.task;
      named = F.named;
      function = F.function;
      found = F.found;
      coded = F.coded;
      takes = F.takes;
      follows = subst (λ given. Follows code n.task.args given m2)
          (answer_more (output_answer (enc (tree_of v)) (how_of how)) (requiring_answer how v) (answer_is how v canonical))
          (follows n.task.args (map answer_of g.progress.answers) F.follows);
      fits = subst (λ given. Fit fs hs n.task given)
          (answer_more (output_answer (enc (tree_of v)) (how_of how)) (requiring_answer how v) (answer_is how v canonical)) fits;
      seen = map_end observation_of n.deps (of_task how t v) ∙ ap (λ z. z ++ observation_of (of_task how t v) ∷ []) F.seen
          ∙ ap (λ y. g.seen ++ y ∷ []) (require_is how t v);
      writes = F.writes;
      needs = map_end (slice_get names) n.needs number ∙ ap (λ z. z ++ slice_get names number ∷ []) F.needs
          ∙ ap (λ y. map Some (called_in n.deps) ++ y ∷ []) called
          ∙ sym (map_end Some (called_in n.deps) t) ∙ ap (map Some) (sym (called_end n.deps (of_task how t v)));
      staged = F.staged;
      left = refl;
    }

    -- a task that wrote something, with the contents that are staged then
    pub wrote_frame : AreCompiled fs codes → (k : ℕ) (m2 : Standing) (later : Staged) (path bytes hash : List ℕ)
        → KeepsFirst stage later n.number path bytes → hash ≡ sha256 bytes
        → EvaluatedTo code n.task.args (map answer_of g.progress.answers) (wants (events.Write path bytes))
        → ((args : List Tree) (given : List Answer) → Follows code args given m → Follows code args (given ++ answers.Wrote ∷ []) m2)
        → MeansFrame fs hs codes names later code m2 (wrote path hash n) k (has_written g k path bytes)
    wrote_frame compiled k m2 later path bytes hash keeps sha came follows = record {
      task = F.task;
      named = F.named;
      function = F.function;
      found = F.found;
      coded = F.coded;
      takes = F.takes;
      follows = subst (λ given. Follows code n.task.args given m2) (answer_more model_answers.Wrote answers.Wrote refl)
          (follows n.task.args (map answer_of g.progress.answers) F.follows);
      fits = subst (λ given. Fit fs hs n.task given) (answer_more model_answers.Wrote answers.Wrote refl)
          (fits_more fs hs codes compiled names stage code m n left g F (events.Write path bytes) answers.Wrote came tt);
      seen = F.seen;
      writes = ap (λ ws. ws ++ (path, hash) ∷ []) F.writes
          ∙ ap (λ x. hashed world g.progress.own ++ (path, x) ∷ []) (sha ∙ sym (hash_is_sha bytes))
          ∙ sym (hashed_end world g.progress.own path bytes);
      needs = F.needs;
      staged = first_after stage later n.number path bytes keeps g.progress.own F.staged;
      left = refl;
    }
