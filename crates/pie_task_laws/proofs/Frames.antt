-- A task that was answered is the frame of the model with this answer.
use Rattle.std.proofs.Common.{◌≡◌, ℕ, Some, None, List, [], ◌∷◌, ◌++◌, map, refl, sym, ap, subst, ◌∙◌, append-nil}
use Rattle.std.specs.Prelude.{slice_get}
use Rattle.sha2.specs.Sha256.{sha256}
use Rattle.pie_value.specs.declared.task.Task.{Task}
use Rattle.pie_value.specs.declared.value.Value.{Value}
use Rattle.pie_value.specs.declared.event.How.{How}
use Rattle.pie_value.specs.declared.event.Answer.{Answer}
use Rattle.pie_value.specs.declared.event.Answer.TheVariants as answers
use Rattle.pie_value.specs.Tree.{Tree}
use Rattle.pie_value.specs.Values.{tree_of}
use Rattle.pie_value.specs.Canonical.{enc, enc_task, IsCanonical, IsCanonicalTask}
use Rattle.pie_operators.specs.Domain.{Outcome}
use Rattle.pie_code.specs.declared.code.Code.{Code}
use Rattle.pie_code.specs.Running.{start}
use Rattle.pie_vm.specs.Machines.{Standing, Leads, Follows}
use Rattle.pie_view.specs.Content.{Staged, content}
use Rattle.pie_record.specs.declared.dep.Dep.{Dep}
use Rattle.pie_model.specs.declared.words.Answer.{Answer as ModelAnswer}
use Rattle.pie_model.specs.declared.words.Answer.TheVariants as model_answers
use Rattle.pie_model.specs.Trees.{Node}
use Rattle.pie_model.specs.Evaluation.{answered, required as model_required, output_answer}
use Rattle.pie_model.specs.Records.{Observation, Required, observed as observation, value_stamp, hashed}
use Rattle.pie_model.specs.inner.Stack.{Frame}
use Rattle.pie_step_laws.specs.Frames.{begun as model_begun, gone_on, has_written, set_aside}
use Rattle.pie_step_laws.proofs.StepLemmas.{map_end}
use Rattle.pie_model_pipeline.specs.Words.{event_of, how_of}
use Rattle.pie_model_pipeline.specs.Answers.{answer_of}
use Rattle.pie_model_pipeline.specs.Rows.{observation_of}
use Rattle.pie_model_pipeline.specs.World.{world, next}
use Rattle.pie_builder_laws.specs.Names.{called_on, called_in}
use Rattle.pie_builder_laws.specs.Views.{AreNumbersOf}
use Rattle.pie_builder_laws.specs.Requiring.{of_task, requiring_answer}
use Rattle.pie_builder_laws.proofs.Coded.{event_is}
use Rattle.pie_builder_laws.proofs.Required.{require_is, answer_is}
use Rattle.pie_running.specs.declared.frame.RunningTask.{RunningTask}
use Rattle.pie_running.specs.inner.Noted.{Noted, begun, observed, required, wrote}
use Rattle.pie_running.specs.inner.Coded.{HasFunction}
use Rattle.pie_running.specs.inner.Told.{EvaluatedTo, KeepsFirst}
use Rattle.pie_running.proofs.Firsts.{first_after, hashed_end, hash_is_sha}
use Rattle.pie_running.proofs.FrameLemmas.{called_end, most_events_is}
use Rattle.pie_task_laws.specs.Sites.{Site, Build, IsThere}
use Rattle.pie_task_laws.specs.Frames.{IsFrame}

called_same : (ds : List Dep) (d : Dep) → called_on d.what ≡ [] → called_in (ds ++ d ∷ []) ≡ called_in ds
called_same ds d e = called_end ds d ∙ ap (λ ts. called_in ds ++ ts) e ∙ append-nil (called_in ds)

follows_start : (code : Code) (args : List Tree) (m : Standing) → m.config ≡ start code args [] → Follows code args [] m
follows_start code args m e = subst (λ c. Leads code (start code args []) c) (sym e) (record { ends = λ rest o h. h })

-- a build with other contents
abbrev pub with_stage : Build → Staged → Build
with_stage b st = record b { stage = st }

module _ (x : Site) (b : Build) where
  -- a new task before its first event is the new frame of the model, where nothing is staged under its number
  pub begun_frame : (t : Task) (f : RunningTask) (number : ℕ) → slice_get b.names number ≡ Some t → HasFunction x.update.functions x.codes t f.code.now
      → f.machine.config ≡ start f.code.now t.args [] → f.notes ≡ begun t number 1000001 → ((p : List ℕ) → content b.stage number p ≡ None)
      → IsFrame x b f.code.now f.machine f.notes f.notes.left (model_begun world (enc_task t))
  begun_frame t f number named function started notes empty =
      subst (λ n. IsFrame x b f.code.now f.machine n n.left (model_begun world (enc_task t))) (sym notes) (record {
        task = refl;
        named = named;
        function = function.number;
        found = function.found;
        coded = function.coded;
        takes = function.takes;
        follows = follows_start f.code.now t.args f.machine started;
        seen = refl;
        writes = refl;
        needs = refl;
        staged = empty;
        left = most_events_is;
      })

  module _ (code : Code) (m : Standing) (n : Noted) (left : ℕ) (g : Frame) (F : IsFrame x b code m n left g) where
    -- what the code evaluates to is what the task does
    pub does : IsThere x → IsCanonicalTask n.task (enc_task n.task) → (o : Outcome Tree)
        → EvaluatedTo code n.task.args (map answer_of g.progress.answers) o → next x.update.functions g.task g.progress.answers ≡ event_of o
    does compiled canonical o h =
        ap (λ t. next x.update.functions t g.progress.answers) F.task
        ∙ event_is x.update.functions x.codes n.task F.function code g.progress.answers (map answer_of g.progress.answers) o h.state compiled F.found
        F.coded F.takes canonical refl h.is

    -- the same with its machine further on
    pub moved_frame : (k : Standing) → Follows code n.task.args (map answer_of g.progress.answers) k → IsFrame x b code k n left g
    moved_frame k h = record {
      task = F.task;
      named = F.named;
      function = F.function;
      found = F.found;
      coded = F.coded;
      takes = F.takes;
      follows = h;
      seen = F.seen;
      writes = F.writes;
      needs = F.needs;
      staged = F.staged;
      left = F.left;
    }

    -- a frame that waits is the one that ran
    pub aside_frame : (k : ℕ) → IsFrame x b code m n k (set_aside g k)
    aside_frame k = record {
      task = F.task;
      named = F.named;
      function = F.function;
      found = F.found;
      coded = F.coded;
      takes = F.takes;
      follows = F.follows;
      seen = F.seen;
      writes = F.writes;
      needs = F.needs;
      staged = F.staged;
      left = refl;
    }

    -- the same in a build that has gone on
    pub frame_moves : (c : Build) → slice_get c.names n.number ≡ Some n.task → AreNumbersOf c.names n.needs (called_in n.deps)
        → ((p : List ℕ) → content c.stage n.number p ≡ content b.stage n.number p) → IsFrame x c code m n left g
    frame_moves c named needs same = record {
      task = F.task;
      named = named;
      function = F.function;
      found = F.found;
      coded = F.coded;
      takes = F.takes;
      follows = F.follows;
      seen = F.seen;
      writes = F.writes;
      needs = needs;
      staged = λ p. same p ∙ F.staged p;
      left = F.left;
    }

    -- with one more answer, which is this one of the model
    answer_more : (y : ModelAnswer) (a : Answer) → a ≡ answer_of y
        → map answer_of g.progress.answers ++ a ∷ [] ≡ map answer_of (g.progress.answers ++ y ∷ [])
    answer_more y a same = ap (λ z. map answer_of g.progress.answers ++ z ∷ []) same ∙ sym (map_end answer_of g.progress.answers y)

    -- a task that observed something and was told what it is
    pub told_frame : (k : ℕ) (m2 : Standing) (d : Dep) (a : Answer) (y : ModelAnswer) (o : Observation)
        → ((args : List Tree) (given : List Answer) → Follows code args given m → Follows code args (given ++ a ∷ []) m2)
        → called_on d.what ≡ [] → a ≡ answer_of y → observation_of d ≡ o
        → IsFrame x b code m2 (observed d n) k (gone_on g (answered g.progress y) (g.seen ++ o ∷ []) k)
    told_frame k m2 d a y o follows none same note = record {
      task = F.task;
      named = F.named;
      function = F.function;
      found = F.found;
      coded = F.coded;
      takes = F.takes;
      follows = subst (λ given. Follows code n.task.args given m2) (answer_more y a same)
          (follows n.task.args (map answer_of g.progress.answers) F.follows);
      seen = map_end observation_of n.deps d ∙ ap (λ z. z ++ observation_of d ∷ []) F.seen ∙ ap (λ z. g.seen ++ z ∷ []) note;
      writes = F.writes;
      needs = subst (AreNumbersOf b.names n.needs) (sym (called_same n.deps d none)) F.needs;
      staged = F.staged;
      left = refl;
    }

    -- a task with one more required task and its answer
    pub given_frame : (k : ℕ) (m2 : Standing) (how : How) (t : Task) (v : Value) (number height : ℕ) (kid : Node) → slice_get b.names number ≡ Some t
        → IsCanonical (tree_of v) (enc (tree_of v))
        → ((args : List Tree) (given : List Answer) → Follows code args given m → Follows code args (given ++ requiring_answer how v ∷ []) m2)
        → IsFrame x b code m2 (required (of_task how t v) number height n) k
        (gone_on g (model_required g.progress kid (output_answer (enc (tree_of v)) (how_of how)))
        (g.seen ++ observation (Required (how_of how) (enc_task t)) (value_stamp world (enc (tree_of v)) (how_of how)) ∷ []) k)
    given_frame k m2 how t v number height kid called canonical follows = record {
      task = F.task;
      named = F.named;
      function = F.function;
      found = F.found;
      coded = F.coded;
      takes = F.takes;
      follows = subst (λ given. Follows code n.task.args given m2)
          (answer_more (output_answer (enc (tree_of v)) (how_of how)) (requiring_answer how v) (answer_is how v canonical))
          (follows n.task.args (map answer_of g.progress.answers) F.follows);
      seen = map_end observation_of n.deps (of_task how t v) ∙ ap (λ z. z ++ observation_of (of_task how t v) ∷ []) F.seen
          ∙ ap (λ z. g.seen ++ z ∷ []) (require_is how t v);
      writes = F.writes;
      needs = map_end (slice_get b.names) n.needs number ∙ ap (λ z. z ++ slice_get b.names number ∷ []) F.needs
          ∙ ap (λ z. map Some (called_in n.deps) ++ z ∷ []) called
          ∙ sym (map_end Some (called_in n.deps) t) ∙ ap (map Some) (sym (called_end n.deps (of_task how t v)));
      staged = F.staged;
      left = refl;
    }

    -- a task that wrote something, with the contents that are staged then
    pub wrote_frame : (k : ℕ) (m2 : Standing) (later : Staged) (path bytes hash : List ℕ) → KeepsFirst b.stage later n.number path bytes
        → hash ≡ sha256 bytes
        → ((args : List Tree) (given : List Answer) → Follows code args given m → Follows code args (given ++ answers.Wrote ∷ []) m2)
        → IsFrame x (with_stage b later) code m2 (wrote path hash n) k (has_written g k path bytes)
    wrote_frame k m2 later path bytes hash keeps sha follows = record {
      task = F.task;
      named = F.named;
      function = F.function;
      found = F.found;
      coded = F.coded;
      takes = F.takes;
      follows = subst (λ given. Follows code n.task.args given m2) (answer_more model_answers.Wrote answers.Wrote refl)
          (follows n.task.args (map answer_of g.progress.answers) F.follows);
      seen = F.seen;
      writes = ap (λ ws. ws ++ (path, hash) ∷ []) F.writes
          ∙ ap (λ z. hashed world g.progress.own ++ (path, z) ∷ []) (sha ∙ sym (hash_is_sha bytes))
          ∙ sym (hashed_end world g.progress.own path bytes);
      needs = F.needs;
      staged = first_after b.stage later n.number path bytes keeps g.progress.own F.staged;
      left = refl;
    }
