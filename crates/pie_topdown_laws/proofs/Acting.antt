-- A task that runs above those that wait goes on as in the model, or ends.
use Rattle.std.proofs.Common.{◌≡◌, inl, inr, ℕ, suc, ◌-◌, ◌<◌, Bool, true, false, cond, Option, Some, None, List, [], ◌∷◌, ◌++◌, map, length, refl, sym, ap}
use Rattle.std.proofs.Common.{subst, ◌∙◌, arith}
use Rattle.std.proofs.lemmas.Bool.Decides.{nat_tests}
use Rattle.std.specs.Prelude.{is_some, slice_get, ◌==◌}
use Rattle.std.specs.Option.{option_map}
use Rattle.sha2.specs.Sha256.{sha256}
use Rattle.pie_base.specs.declared.fault.FaultKind.{FaultKind}
use Rattle.pie_base.specs.declared.fault.FaultKind.TheVariants as faults
use Rattle.pie_base.specs.Path.{is_source, is_out}
use Rattle.pie_value.specs.declared.task.Task.{Task}
use Rattle.pie_value.specs.declared.value.Value.{Value}
use Rattle.pie_value.specs.declared.event.Answer.{Answer}
use Rattle.pie_value.specs.declared.event.Answer.TheVariants as answers
use Rattle.pie_value.specs.declared.event.By.{By}
use Rattle.pie_value.specs.declared.event.By.TheVariants as stamped
use Rattle.pie_value.specs.declared.event.Event.{Event}
use Rattle.pie_value.specs.declared.event.Event.TheVariants as events
use Rattle.pie_value.specs.declared.event.How.{How}
use Rattle.pie_value.specs.Tree.{Tree, TPath}
use Rattle.pie_value.specs.Values.{tree_of}
use Rattle.pie_value.specs.Canonical.{enc, enc_task, IsCanonicalTask}
use Rattle.pie_value.specs.Limits.{is_small, is_small_task}
use Rattle.pie_operators.specs.Domain.{Outcome as Given, done, fails, wants}
use Rattle.pie_code.specs.declared.code.Code.{Code}
use Rattle.pie_vm.specs.Machines.{Standing, Follows}
use Rattle.pie_view.specs.Content.{Staged, content}
use Rattle.pie_view.specs.declared.seen.Seen.{Seen}
use Rattle.pie_view.specs.declared.seen.Seen.TheVariants.{Absent as NoOne, By as OneBy, Clash as TwoBy}
use Rattle.pie_files.specs.Directory.{file_at, entries_of}
use Rattle.pie_record.specs.declared.dep.Dep.{Dep}
use Rattle.pie_record.specs.declared.dep.DepKind.TheVariants as kinds
use Rattle.pie_record.specs.declared.task_record.Outcome.TheVariants as outcomes
use Rattle.pie_record.specs.declared.task_record.TaskRecord.{TaskRecord}
use Rattle.pie_record.specs.inner.Records.{record_of as kept_of}
use Rattle.pie_model.specs.Paths.{among}
use Rattle.pie_model.specs.declared.words.Look.{Look}
use Rattle.pie_model.specs.declared.words.Look.TheVariants as looks
use Rattle.pie_model.specs.declared.words.Answer.{Answer as ModelAnswer}
use Rattle.pie_model.specs.declared.words.Answer.TheVariants.{Entries}
use Rattle.pie_model.specs.declared.words.Event.TheVariants.{Done, LookAt, ListOf, Write, Require, Fail}
use Rattle.pie_model.specs.declared.words.FaultKind.TheVariants as model_faults
use Rattle.pie_model.specs.declared.words.Outcome.TheVariants.{Ended, Failed}
use Rattle.pie_model.specs.Seen.{first_write, provided, seen_file, visible_at}
use Rattle.pie_model.specs.Evaluation.{answered, absent_answer, present_answer, evaluation}
use Rattle.pie_model.specs.Trees.{outcome_of}
use Rattle.pie_model.specs.Records.{Record, Observation, Absent, Hash, Looked, Listed, observed as observation, contents_stamp, needs_of}
use Rattle.pie_model.specs.inner.RecordLaws.{Passes}
use Rattle.pie_model.specs.inner.Stack.{Frame, tasks_of}
use Rattle.pie_model.proofs.Basics.{among_here}
use Rattle.pie_step_laws.specs.Table.{IsTable}
use Rattle.pie_step_laws.specs.Frames.{begun, gone_on, saw_contents, has_written, was_answered}
use Rattle.pie_step_laws.proofs.StepLemmas.{map_end}
use Rattle.pie_settle_laws.specs.Going.{Ends, HasLeft, before_wait}
use Rattle.pie_settle_laws.specs.Going.Ends.{with_value, failing, clashing, listing_too_much, without_events}
use Rattle.pie_settle_laws.proofs.Goings.{absent_look, present_look, listing_made, write_made, is_told}
use Rattle.pie_settle_laws.proofs.Leaving.{going_ends}
use Rattle.pie_model_pipeline.specs.Words.{event_of, fault_of, how_of, look_by}
use Rattle.pie_model_pipeline.specs.Answers.{answer_of}
use Rattle.pie_model_pipeline.specs.Rows.{observation_of, record_of}
use Rattle.pie_model_pipeline.specs.World.{world, next}
use Rattle.pie_builder_laws.specs.Names.{AreTasks, called_on, called_in}
use Rattle.pie_builder_laws.specs.Looks.{IsLook, Sight}
use Rattle.pie_builder_laws.specs.Tables.{recorded}
use Rattle.pie_builder_laws.specs.Views.{found}
use Rattle.pie_builder_laws.specs.Requiring.{of_task, requiring_answer}
use Rattle.pie_builder_laws.proofs.Coded.{event_is}
use Rattle.pie_builder_laws.proofs.Lookings.{listing_is, limit_is}
use Rattle.pie_builder_laws.proofs.Naming.{canonical_at}
use Rattle.pie_builder_laws.proofs.Tabled.{needs_called, record_by_number}
use Rattle.pie_builder_laws.proofs.KindLemmas.{source_is_file, kept_is_empty, own_is_visible, others_are_visible}
use Rattle.pie_running.specs.declared.frame.RunningTask.{RunningTask}
use Rattle.pie_running.specs.declared.frame.Waiting.{Waiting}
use Rattle.pie_running.specs.declared.frame.Caller.{Caller}
use Rattle.pie_running.specs.declared.frame.Paused.{Paused}
use Rattle.pie_running.specs.declared.frame.Paused.TheVariants as paused
use Rattle.pie_running.specs.declared.frame.Told.{Told}
use Rattle.pie_running.specs.declared.frame.Told.TheVariants as told
use Rattle.pie_running.specs.inner.Coded.{HasFunction}
use Rattle.pie_running.specs.inner.Frames.{IsStarted}
use Rattle.pie_running.specs.inner.Noted.{Noted, absent_dep, file_dep, observed, read_kind, required, wrote}
use Rattle.pie_running.specs.inner.Sights.{Sighted, found_in, hash_in, Sees, SightSays, listing_in, most_content}
use Rattle.pie_running.specs.inner.Told.{EvaluatedTo, StopsFor, HasFailed, IsTold, IsToldOrFails, IsToldReading, IsToldSmall, IsToldList, IsToldWrite, listed_dep}
use Rattle.pie_running.specs.inner.Told.{paths_list, told_flag, told_reading, told_hash, too_much, KeepsFirst}
use Rattle.pie_running.specs.declared.looking.Sight.{Sight as Found}
use Rattle.pie_running.specs.declared.looking.Sight.TheVariants.{File, Long, Clash as Clashes}
use Rattle.pie_running.specs.inner.Looks.{IsToldPresence, IsToldSight, IsToldDigest}
use Rattle.pie_running.proofs.Sighting.{map_twice, flag_is, reading_as, hash_is, same_sight}
use Rattle.pie_running.proofs.FrameLemmas.{one_less}
use Rattle.pie_running.proofs.TooLong.{comes_big}
use Rattle.pie_core_laws.specs.Update.{present}
use Rattle.pie_core_laws.proofs.Seen.{provides}
use Rattle.pie_task_laws.specs.Sites.{Site, Build, IsThere, IsSound, HaveOutputs}
use Rattle.pie_task_laws.specs.Frames.{IsFrame, IsCaller}
use Rattle.pie_task_laws.specs.Coming.{EndsRight, Gives}
use Rattle.pie_task_laws.specs.Answering.{HasGiven}
use Rattle.pie_task_laws.specs.Sights.{sight_by, SeesOthers, OwnFirst, SeesOut}
use Rattle.pie_task_laws.proofs.Frames.{begun_frame, does, moved_frame, aside_frame, told_frame, given_frame, with_stage, wrote_frame}
use Rattle.pie_task_laws.proofs.Ending.{adds_none, has_ended}
use Rattle.pie_task_laws.proofs.Seeing.{seen_by}
use Rattle.pie_topdown_laws.specs.Tables.{unrecorded, IsSettledTask}
use Rattle.pie_topdown_laws.specs.Checks.{GoesOn}
use Rattle.pie_topdown_laws.specs.Ledgers.{setting}
use Rattle.pie_topdown_laws.specs.Running.{IsTop, RunsAbove, AsksAbove, FailsAbove, DoneAbove, EndsAbove, PausesAbove, GoesOrFails, LooksAbove, RequiresAbove}
use Rattle.pie_topdown_laws.proofs.Tabling.{no_record, settled_task, counted}
use Rattle.pie_topdown_laws.proofs.Stacking.{goes_on}

-- ---- a task begins

pub begins_above : (x : Site) (b : Build) (root : List ℕ) (fs : List Frame) (t : Task) (k : ℕ) (f : RunningTask) → slice_get b.names k ≡ Some t
    → HasFunction x.update.functions x.codes t f.code.now → IsStarted f.code.now t k f → ((p : List ℕ) → content b.stage k p ≡ None)
    → IsTop x b root fs (begun world (enc_task t)) → RunsAbove x b root fs f.code.now f.machine f.notes
begins_above x b root fs t k f named function started empty top = record {
  frame = begun world (enc_task t);
  means = begun_frame x b t f k named function started.config started.notes empty;
  top = top;
}

module _ (x : Site) (b : Build) (root : List ℕ) (fs : List Frame) (code : Code) (m : Standing) (n : Noted) (R : RunsAbove x b root fs code m n) where
  abbrev Records : List ℕ → Option Record
  Records = recorded b.names b.records

  abbrev busy : List ℕ → Type 0
  busy = Passes (unrecorded (recorded b.names b.records))

  pub some_left : 0 < n.left → R.frame.left ≡ suc (n.left - 1)
  some_left left = R.means.left ∙ one_less n.left left

  -- what its code evaluates to is what it does
  pub next_is : IsThere x → AreTasks b.names → (o : Given Tree) → EvaluatedTo code n.task.args (map answer_of R.frame.progress.answers) o
      → next x.update.functions R.frame.task R.frame.progress.answers ≡ event_of o
  next_is there tasks o came = does x b code m n n.left R.frame R.means there (canonical_at b.names tasks n.number n.task R.means.named) o came

  -- it goes on as another frame of its task
  pub further : (g : Frame) → g.task ≡ R.frame.task → GoesOn (setting x.update) (recorded b.names b.records) root fs g → IsTop x b root fs g
  further g e G = goes_on (setting x.update) (recorded b.names b.records) (map enc_task b.names) root fs R.frame R.top g e G

  -- it fails
  pub fails_so : (last : List Observation) (k : FaultKind) → Ends world (present x.update) R.frame last (Failed R.frame.task (fault_of k))
      → FailsAbove x b root fs n.task k
  fails_so last k e = record { frame = R.frame; task = R.means.task; top = R.top; last = last; ends = e }

  pub fails_own : (k : FaultKind) → 0 < n.left → next x.update.functions R.frame.task R.frame.progress.answers ≡ Fail (fault_of k)
      → FailsAbove x b root fs n.task k
  fails_own k left q = fails_so [] k (failing (n.left - 1) (fault_of k) (some_left left) q)

  -- it is done
  done_so : among root x.update.roots ≡ true → (v : Value) → 0 < n.left
      → next x.update.functions R.frame.task R.frame.progress.answers ≡ Done (enc (tree_of v)) → DoneAbove x b n v
  done_so i v left q = record {
    right = right;
    ends = λ S change. record {
      entered = subst (λ z. among z (map enc_task b.names) ≡ true) R.means.task (R.top.under_way.counted R.frame.task (among_here R.frame.task (tasks_of fs)));
      unrecorded = no_record (recorded b.names b.records) (enc_task n.task)
          (subst (λ z. Passes (unrecorded (recorded b.names b.records)) z) R.means.task
          (R.top.under_way.each R.frame.task (among_here R.frame.task (tasks_of fs))));
      changes = change;
      right = right.right.is;
      done = refl;
      closed = λ u j. (R.top.goes.settled u (subst (λ z. among u (needs_of z) ≡ true) R.means.seen j)).recorded;
    };
  }
    where
      left_there : HasLeft world (present x.update) root R.frame [] (Ended (enc (tree_of v)))
      left_there =
          going_ends world (present x.update) (recorded b.names b.records) (Passes (unrecorded (recorded b.names b.records))) root fs R.frame R.top.goes []
          (Ended (enc (tree_of v))) (with_value (n.left - 1) (enc (tree_of v)) (some_left left) q)

      right : EndsRight x b n (outcomes.Done v)
      right =
          has_ended x b code m n n.left R.frame R.means root n [] [] (Ended (enc (tree_of v))) (outcomes.Done v) (inr i) left_there refl (adds_none n) refl refl

  -- ---- what comes of it

  gives_value : among root x.update.roots ≡ true → IsThere x → AreTasks b.names → (v : Value) → 0 < n.left
      → EvaluatedTo code n.task.args (map answer_of R.frame.progress.answers) (done (tree_of v)) → EndsAbove x b root fs n v (is_small (tree_of v))
  gives_value i there tasks v left came = by (is_small (tree_of v)) refl
    where
      next_one : next x.update.functions R.frame.task R.frame.progress.answers ≡ cond (is_small (tree_of v)) (Done (enc (tree_of v))) (Fail model_faults.Big)
      next_one = next_is there tasks (done (tree_of v)) came

      by : (z : Bool) → is_small (tree_of v) ≡ z → EndsAbove x b root fs n v z
      by true f = done_so i v left (next_one ∙ ap (λ z. cond z (Done (enc (tree_of v))) (Fail model_faults.Big)) f)
      by false f = fails_own faults.Big left (next_one ∙ ap (λ z. cond z (Done (enc (tree_of v))) (Fail model_faults.Big)) f)

  stops : IsThere x → AreTasks b.names → (k : FaultKind) → StopsFor code n (map answer_of R.frame.progress.answers) k → FailsAbove x b root fs n.task k
  stops there tasks k (inl h) =
      subst (FailsAbove x b root fs n.task) (sym h.1) (fails_so [] faults.Budget (without_events (R.means.left ∙ h.0)))
  stops there tasks k (inr h) = fails_own k h.0 (next_is there tasks (fails k) h.1)

module _ (x : Site) (b : Build) (root : List ℕ) (fs : List Frame) (there : IsThere x) (tasks : AreTasks b.names) where
  -- a machine that goes further with these answers asks this
  abbrev Asked : Waiting → Event → Code → Standing → Noted → Type 0
  Asked w v code m n =
      (given : List Answer) → Follows code n.task.args given m → Follows code n.task.args given w.machine × EvaluatedTo code n.task.args given (wants v)

  asks_there : (w : Waiting) (v : Event) (m : Standing) → RunsAbove x b root fs w.code.now m w.notes → Asked w v w.code.now m w.notes
      → AsksAbove x b root fs w v
  asks_there w v m R h =
      let c = h (map answer_of R.frame.progress.answers) R.means.follows in
      record {
        runs = record {
          frame = R.frame;
          means = moved_frame x b w.code.now m w.notes w.notes.left R.frame R.means w.machine c.0;
          top = R.top;
        };
        asks = next_is x b root fs w.code.now m w.notes R there tasks (wants v) c.1;
        came = c.1;
      }

  asks_as : (w : Waiting) (v : Event) (code : Code) (m : Standing) (n : Noted) → w.code.now ≡ code → w.notes ≡ n → RunsAbove x b root fs code m n
      → Asked w v code m n → AsksAbove x b root fs w v
  asks_as w v code m n c q =
      subst (λ k. RunsAbove x b root fs k m n → Asked w v k m n → AsksAbove x b root fs w v) c
      (subst (λ k. RunsAbove x b root fs w.code.now m k → Asked w v w.code.now m k → AsksAbove x b root fs w v) q (asks_there w v m))

  pub pauses_above : (f : RunningTask) (p : Paused) → among root x.update.roots ≡ true → RunsAbove x b root fs f.code.now f.machine f.notes → Gives f p
      → PausesAbove x b root fs p
  pauses_above f (paused.Asks w v) i R G =
      asks_as w v f.code.now f.machine f.notes (G.means (map answer_of R.frame.progress.answers) R.means.follows).0 G.comes.1 R
      (λ given h. let c = G.means given h in (c.1, c.2))
  pauses_above f (paused.Ends n v) i R G =
      let c = G.means (map answer_of R.frame.progress.answers) R.means.follows in
      subst (λ k. EndsAbove x b root fs k v (is_small (tree_of v))) (sym G.comes)
      (gives_value x b root fs f.code.now f.machine f.notes R i there tasks v c.0 c.1)
  pauses_above f (paused.Fails n k) i R G =
      let c = G.means (map answer_of R.frame.progress.answers) R.means.follows in
      subst (λ (j : Noted). FailsAbove x b root fs j.task k) (sym G.comes)
      (stops x b root fs f.code.now f.machine f.notes R there tasks k c.1)

-- ---- what it sees

found_same : (staged : Staged) (path : List ℕ) (seen : Seen) → seen_by (sight_by (λ n. content staged n path) seen) ≡ found (content staged) path seen
found_same staged path NoOne = refl
found_same staged path (OneBy one) = refl
found_same staged path TwoBy = refl

module _ (x : Site) (b : Build) (root : List ℕ) (fs : List Frame) (code : Code) (m : Standing) (n : Noted) (R : RunsAbove x b root fs code m n)
    (sound : IsSound x b) (outputs : HaveOutputs b n.needs) where
  others_see : (path : List ℕ) (sight : Sighted) → SeesOthers x b n.needs path sight → provided R.frame.progress.kids path ≡ seen_by sight
  others_see path sight h =
      ap (λ ks. provided ks path) (R.top.goes.kids
      ∙ ap (map (evaluation world (present x.update))) (ap needs_of (sym R.means.seen) ∙ needs_called n.deps))
      ∙ provides x.update b.names b.records b.walk sound.exact sound.stands sound.apart n.needs (called_in n.deps) R.means.needs outputs path
      (content b.stage) h.seen h.only h.staged
      ∙ sym (found_same b.stage path h.seen) ∙ ap seen_by (sym h.is)

  out_seen : (path : List ℕ) (sight : Sighted) → is_out path ≡ true → SeesOut x b n path sight
      → visible_at (file_at x.update.directory) R.frame.progress.own R.frame.progress.kids path ≡ seen_by sight
  out_seen path sight e h = by (content b.stage n.number path) (R.means.staged path) h
    where
      by : (o : Option (List ℕ)) → o ≡ first_write path R.frame.progress.own → OwnFirst o (SeesOthers x b n.needs path sight) sight
          → visible_at (file_at x.update.directory) R.frame.progress.own R.frame.progress.kids path ≡ seen_by sight
      by (Some bytes) f g =
          own_is_visible (file_at x.update.directory) R.frame.progress.own R.frame.progress.kids path bytes e (sym f) ∙ ap seen_by (sym g)
      by None f g = others_are_visible (file_at x.update.directory) R.frame.progress.own R.frame.progress.kids path e (sym f) ∙ others_see path sight g

  -- a task sees what is visible to it
  pub seen_visible : (path : List ℕ) (sight : Sighted) → Sees x.update.directory path (SeesOut x b n path) sight
      → visible_at (file_at x.update.directory) R.frame.progress.own R.frame.progress.kids path ≡ seen_by sight
  seen_visible path sight h = by (is_out path) refl (is_source path) refl
    where
      by : (o : Bool) → is_out path ≡ o → (f : Bool) → is_source path ≡ f
          → visible_at (file_at x.update.directory) R.frame.progress.own R.frame.progress.kids path ≡ seen_by sight
      by true e f g = out_seen path sight e (h.out e)
      by false e true g =
          source_is_file (file_at x.update.directory) R.frame.progress.own R.frame.progress.kids path g ∙ ap seen_by (sym (h.source e g))
      by false e false g =
          kept_is_empty (file_at x.update.directory) R.frame.progress.own R.frame.progress.kids path e g ∙ ap seen_by (sym (h.kept e g))

-- ---- what it is told

module _ (x : Site) (b : Build) (root : List ℕ) (fs : List Frame) (w : Waiting) (R : RunsAbove x b root fs w.code.now w.machine w.notes)
    (left : 0 < w.notes.left) where
  abbrev B : List ℕ → Type 0
  B = Passes (unrecorded (recorded b.names b.records))

  one_more : R.frame.left ≡ suc (w.notes.left - 1)
  one_more = some_left x b root fs w.code.now w.machine w.notes R left

  -- a task that observed something and was told what it is
  told_runs : (f : RunningTask) (d : Dep) (a : Answer) (y : ModelAnswer) (o : Observation)
      → IsTold w f (observed d w.notes) a → called_on d.what ≡ [] → a ≡ answer_of y → observation_of d ≡ o
      → GoesOn (setting x.update) (recorded b.names b.records) root fs
      (gone_on R.frame (answered R.frame.progress y) (R.frame.seen ++ o ∷ []) (w.notes.left - 1))
      → RunsAbove x b root fs f.code.now f.machine f.notes
  told_runs f d a y o t none same note goes =
      subst (λ c. RunsAbove x b root fs c f.machine f.notes) (sym t.code)
      (subst (λ n. RunsAbove x b root fs w.code.now f.machine n) (sym t.notes) (record {
        frame = gone_on R.frame (answered R.frame.progress y) (R.frame.seen ++ o ∷ []) (w.notes.left - 1);
        means = told_frame x b w.code.now w.machine w.notes w.notes.left R.frame R.means (w.notes.left - 1) f.machine d a y o t.follows none same note;
        top = further x b root fs w.code.now w.machine w.notes R _ refl goes;
      }))

  -- it has failed
  pub failed_as : (n : Noted) (k : FaultKind) → FailsAbove x b root fs w.notes.task k → (t : Told) → HasFailed n k t
      → GoesOrFails x b root fs w.notes.task t
  failed_as n k r (told.Goes f) h = absurd h
  failed_as n k r (told.Fails m j) h = subst (FailsAbove x b root fs w.notes.task) (sym h.1) r

  look_goes : (l : Look) (p : List ℕ) → next x.update.functions R.frame.task R.frame.progress.answers ≡ LookAt l p → (seen : Sight)
      → visible_at (file_at x.update.directory) R.frame.progress.own R.frame.progress.kids p ≡ seen_file seen → (f : RunningTask) (y : Dep × Answer)
      → IsLook l p seen y.0 y.1 → called_on y.0.what ≡ [] → IsTold w f (observed y.0 w.notes) y.1
      → RunsAbove x b root fs f.code.now f.machine f.notes
  look_goes l p q None v f y i none t =
      told_runs f y.0 y.1 (absent_answer l) (observation (Looked l p) Absent) t none i.answer i.observation
      (absent_look world (present x.update) (recorded b.names b.records) (Passes (unrecorded (recorded b.names b.records))) root fs R.frame R.top.goes
      (w.notes.left - 1) l p one_more q v)
  look_goes l p q (Some z) v f y i none t =
      told_runs f y.0 y.1 (present_answer world z.0 l) (observation (Looked l p) (contents_stamp world p z.0 z.1 l)) t none i.answer i.observation
      (present_look world (present x.update) (recorded b.names b.records) (Passes (unrecorded (recorded b.names b.records))) root fs R.frame R.top.goes
      (w.notes.left - 1) l p z.0 z.1 one_more q v)

  -- a look: the task goes on with what it sees, or fails for a clash
  look_told : (l : Look) (p : List ℕ) → next x.update.functions R.frame.task R.frame.progress.answers ≡ LookAt l p → (o : Sighted)
      → visible_at (file_at x.update.directory) R.frame.progress.own R.frame.progress.kids p ≡ seen_by o → (tells : Sight → Dep × Answer)
      → ((seen : Sight) → o ≡ Some seen → IsLook l p seen (tells seen).0 (tells seen).1) → ((seen : Sight) → called_on (tells seen).0.what ≡ [])
      → (missed : Dep) → (t : Told) → IsToldOrFails w missed (option_map tells o) t → GoesOrFails x b root fs w.notes.task t
  look_told l p q (Some seen) v tells is none missed (told.Goes f) h = look_goes l p q seen v f (tells seen) (is seen refl) (none seen) h
  look_told l p q (Some seen) v tells is none missed (told.Fails n k) h = absurd h
  look_told l p q None v tells is none missed t h =
      failed_as (observed missed w.notes) faults.Clash
      (fails_so x b root fs w.code.now w.machine w.notes R (observation (Looked l p) Absent ∷ []) faults.Clash (clashing (w.notes.left - 1) l p one_more q v))
      t h

  -- a listing: the task goes on with the entries, or fails where they are too many
  list_goes : (d : List ℕ) → next x.update.functions R.frame.task R.frame.progress.answers ≡ ListOf d → (small : Bool)
      → is_small (paths_list (entries_of x.update.directory d)) ≡ small → (t : Told) → IsToldSmall small w d (entries_of x.update.directory d) t
      → GoesOrFails x b root fs w.notes.task t
  list_goes d q true e (told.Goes f) h =
      let es : List (List ℕ) = entries_of x.update.directory d in
      told_runs f (listed_dep d es) (answers.Entries (map TPath es)) (Entries es) (observation (Listed d) (Hash (world.hash (world.listing_bytes es))))
      h refl (listing_is d es).answer (listing_is d es).observation
      (listing_made world (present x.update) (recorded b.names b.records) (Passes (unrecorded (recorded b.names b.records))) root fs R.frame R.top.goes
      (w.notes.left - 1) d es one_more q
      (limit_is x.update.functions x.update.directory d ∙ ap (λ z. cond z (Some es) None) e))
  list_goes d q true e (told.Fails n k) h = absurd h
  list_goes d q false e t h =
      failed_as (observed (absent_dep kinds.List d) w.notes) faults.Big
      (fails_so x b root fs w.code.now w.machine w.notes R (observation (Listed d) Absent ∷ []) faults.Big
      (listing_too_much (w.notes.left - 1) d one_more q
      (limit_is x.update.functions x.update.directory d ∙ ap (λ z. cond z (Some (entries_of x.update.directory d)) None) e)))
      t h

-- ---- the events that look

none_left : (n : ℕ) → (n == 1) ≡ true → n - 1 ≡ 0
none_left n e = grind (arith, nat_tests)

two_left : (n : ℕ) → 0 < n → (n == 1) ≡ false → n - 1 ≡ suc (n - 2)
two_left n some e = grind (arith, nat_tests)

-- the answer of the model to a task that reads, as the language has it
bytes_told : (by : By) (bytes : List ℕ) → answer_of (present_answer world bytes (look_by by)) ≡ answers.Bytes (Some bytes)
bytes_told stamped.Hash bytes = refl
bytes_told stamped.Mark bytes = refl
bytes_told stamped.Raw bytes = refl

-- a file that is too long to be a value
module _ (x : Site) (b : Build) (root : List ℕ) (fs : List Frame) (w : Waiting) (path : List ℕ) (by : By) (f : List ℕ × ℕ)
    (L : LooksAbove x b root fs w (events.Read path by)) (sees : Sees x.update.directory path (SeesOut x b w.notes path) (Some (Some f)))
    (long : most_content < length f.0) where
  -- the running frame
  abbrev g : Frame
  g = L.asking.runs.frame

  -- after the look
  abbrev looked : Frame
  looked = saw_contents world g (w.notes.left - 1) (look_by by) path f.0 f.1

  goes : GoesOn (setting x.update) (recorded b.names b.records) root fs looked
  goes =
      present_look world (present x.update) (recorded b.names b.records) (Passes (unrecorded (recorded b.names b.records))) root fs g
      L.asking.runs.top.goes (w.notes.left - 1) (look_by by) path f.0 f.1
      (some_left x b root fs w.code.now w.machine w.notes L.asking.runs L.left) L.asking.asks
      (seen_visible x b root fs w.code.now w.machine w.notes L.asking.runs L.sound L.outputs path (Some (Some f)) sees)

  -- what it does next is to fail
  fails_next : next x.update.functions g.task (g.progress.answers ++ present_answer world f.0 (look_by by) ∷ []) ≡ Fail model_faults.Big
  fails_next =
      let given = g.progress.answers in
      let all : map answer_of (given ++ present_answer world f.0 (look_by by) ∷ []) ≡ map answer_of given ++ answers.Bytes (Some f.0) ∷ []
      = map_end answer_of given (present_answer world f.0 (look_by by)) ∙ ap (λ y. map answer_of given ++ y ∷ []) (bytes_told by f.0) in
      let big = comes_big f.0 long w.code.now w.notes.task.args (map answer_of given) path by L.asking.came.state L.asking.came.is in
      ap (λ t. next x.update.functions t (given ++ present_answer world f.0 (look_by by) ∷ [])) L.asking.runs.means.task
      ∙ event_is x.update.functions x.codes w.notes.task L.asking.runs.means.function w.code.now (given ++ present_answer world f.0 (look_by by) ∷ [])
      (map answer_of given ++ answers.Bytes (Some f.0) ∷ []) (fails faults.Big) big.0
      L.there L.asking.runs.means.found L.asking.runs.means.coded L.asking.runs.means.takes
      (canonical_at b.names L.sound.exact.tasks w.notes.number w.notes.task L.asking.runs.means.named) all big.1

  ended : (last : Bool) → (w.notes.left == 1) ≡ last
      → Ends world (present x.update) looked [] (Failed g.task (fault_of (cond last faults.Budget faults.Big)))
  ended true e = without_events (none_left w.notes.left e)
  ended false e = failing (w.notes.left - 2) model_faults.Big (two_left w.notes.left L.left e) fails_next

  pub long_fails : FailsAbove x b root fs w.notes.task (too_much w.notes.left)
  long_fails = record {
    frame = looked;
    task = L.asking.runs.means.task;
    top = further x b root fs w.code.now w.machine w.notes L.asking.runs looked refl goes;
    last = [];
    ends = ended (w.notes.left == 1) refl;
  }

module _ (x : Site) (b : Build) (root : List ℕ) (fs : List Frame) (w : Waiting) where
  pub exists_told : (path : List ℕ) (t : Told) → LooksAbove x b root fs w (events.Exists path)
      → IsToldPresence x.update.directory (SeesOut x b w.notes path) w path t → GoesOrFails x b root fs w.notes.task t
  exists_told path t L h =
      look_told x b root fs w L.asking.runs L.left looks.Exists path L.asking.asks h.sees.sight
      (seen_visible x b root fs w.code.now w.machine w.notes L.asking.runs L.sound L.outputs path h.sees.sight h.sees.sees)
      (λ seen. told_flag path (is_some seen)) (λ seen _. flag_is path seen) (λ seen. refl) (absent_dep kinds.Exists path) t
      (subst (λ o. IsToldOrFails w (absent_dep kinds.Exists path) o t) (ap (option_map (told_flag path)) h.sees.is
      ∙ map_twice is_some (told_flag path) h.sees.sight) h.told)

  read_told : (path : List ℕ) (by : By) (sight : Sighted) (t : Told) → LooksAbove x b root fs w (events.Read path by)
      → Sees x.update.directory path (SeesOut x b w.notes path) sight
      → IsToldOrFails w (absent_dep (read_kind by) path) (option_map (told_reading by path) sight) t → GoesOrFails x b root fs w.notes.task t
  read_told path by sight t L p h =
      look_told x b root fs w L.asking.runs L.left (look_by by) path L.asking.asks sight
      (seen_visible x b root fs w.code.now w.machine w.notes L.asking.runs L.sound L.outputs path sight p)
      (told_reading by path) (λ seen e. reading_as by path seen (λ f g. same_sight sight seen e (p.kept f g))) (λ seen. refl)
      (absent_dep (read_kind by) path) t h

  pub reading_told : (path : List ℕ) (by : By) (t : Told) → LooksAbove x b root fs w (events.Read path by)
      → IsToldSight x.update.directory (SeesOut x b w.notes path) w path by t → GoesOrFails x b root fs w.notes.task t
  reading_told path by t L h = each h.sight h.sees h.told
    where
      each : (s : Found) → SightSays by path s (Sees x.update.directory path (SeesOut x b w.notes path)) → IsToldReading w by path s t
          → GoesOrFails x b root fs w.notes.task t
      each (File found) p d = read_told path by (Some (found_in found)) t L p d
      each (Long stamp) p d =
          failed_as x b root fs w L.asking.runs L.left (observed (file_dep (read_kind by) path stamp) w.notes) (too_much w.notes.left)
          (long_fails x b root fs w path by p.0 L p.1 p.2.long) t d
      each Clashes p d = read_told path by None t L p d

  pub digest_told : (path : List ℕ) (t : Told) → LooksAbove x b root fs w (events.Digest path)
      → IsToldDigest x.update.directory (SeesOut x b w.notes path) w path t → GoesOrFails x b root fs w.notes.task t
  digest_told path t L h =
      look_told x b root fs w L.asking.runs L.left looks.Digest path L.asking.asks h.sees.sight
      (seen_visible x b root fs w.code.now w.machine w.notes L.asking.runs L.sound L.outputs path h.sees.sight h.sees.sees)
      (λ seen. told_hash path (hash_in seen)) (λ seen _. hash_is path seen) (λ seen. refl) (absent_dep kinds.Digest path) t
      (subst (λ o. IsToldOrFails w (absent_dep kinds.Digest path) o t) (ap (option_map (told_hash path)) h.sees.is
      ∙ map_twice hash_in (told_hash path) h.sees.sight) h.told)

  pub list_told : (dir : List ℕ) (t : Told) → AsksAbove x b root fs w (events.List dir) → 0 < w.notes.left
      → IsToldList w dir (listing_in x.update.directory dir) t → GoesOrFails x b root fs w.notes.task t
  list_told dir t A left h = by (is_source dir) refl t h
    where
      by : (z : Bool) → is_source dir ≡ z → (u : Told) → IsToldList w dir (cond z (Some (entries_of x.update.directory dir)) None) u
          → GoesOrFails x b root fs w.notes.task u
      by true f u k =
          list_goes x b root fs w A.runs left dir (A.asks ∙ ap (λ z. cond z (ListOf dir) (Fail model_faults.BadList)) f)
          (is_small (paths_list (entries_of x.update.directory dir))) refl u k
      by false f u k =
          failed_as x b root fs w A.runs left w.notes faults.BadList
          (fails_own x b root fs w.code.now w.machine w.notes A.runs faults.BadList left
          (A.asks ∙ ap (λ z. cond z (ListOf dir) (Fail model_faults.BadList)) f)) u k

  -- ---- writes

  wrote_runs : (R : RunsAbove x b root fs w.code.now w.machine w.notes) → 0 < w.notes.left → (path bytes : List ℕ) (st : Staged)
      → KeepsFirst b.stage st w.notes.number path bytes → (f : RunningTask) → IsTold w f (wrote path (sha256 bytes) w.notes) answers.Wrote
      → next x.update.functions R.frame.task R.frame.progress.answers ≡ Write path bytes
      → RunsAbove x (with_stage b st) root fs f.code.now f.machine f.notes
  wrote_runs R left path bytes st keeps f t q =
      subst (λ c. RunsAbove x (with_stage b st) root fs c f.machine f.notes) (sym t.code)
      (subst (λ n. RunsAbove x (with_stage b st) root fs w.code.now f.machine n) (sym t.notes) (record {
        frame = has_written R.frame (w.notes.left - 1) path bytes;
        means = wrote_frame x b w.code.now w.machine w.notes w.notes.left R.frame R.means (w.notes.left - 1) f.machine st path bytes (sha256 bytes) keeps
            refl t.follows;
        top = further x b root fs w.code.now w.machine w.notes R (has_written R.frame (w.notes.left - 1) path bytes) refl
            (write_made world (present x.update) (recorded b.names b.records) (Passes (unrecorded (recorded b.names b.records))) root fs R.frame R.top.goes
            (w.notes.left - 1) path bytes (some_left x b root fs w.code.now w.machine w.notes R left) q);
      }))

  pub write_told : (path bytes : List ℕ) (later : Staged) (t : Told) → AsksAbove x b root fs w (events.Write path bytes) → 0 < w.notes.left
      → IsToldWrite (is_out path) w b.stage later path bytes t → GoesOrFails x (with_stage b later) root fs w.notes.task t
  write_told path bytes st t A left h = by (is_out path) refl t h
    where
      by : (z : Bool) → is_out path ≡ z → (u : Told) → IsToldWrite z w b.stage st path bytes u → GoesOrFails x (with_stage b st) root fs w.notes.task u
      by true f (told.Goes g) k =
          wrote_runs A.runs left path bytes st k.0 g k.1 (A.asks ∙ ap (λ z. cond z (Write path bytes) (Fail model_faults.BadWrite)) f)
      by true f (told.Fails n j) k = absurd k
      by false f (told.Goes g) k = absurd k.1
      by false f (told.Fails n j) k =
          subst (λ z. GoesOrFails x (with_stage b z) root fs w.notes.task (told.Fails n j)) (sym k.0)
          (failed_as x b root fs w A.runs left w.notes faults.BadWrite
          (fails_own x b root fs w.code.now w.machine w.notes A.runs faults.BadWrite left
          (A.asks ∙ ap (λ z. cond z (Write path bytes) (Fail model_faults.BadWrite)) f))
          (told.Fails n j) k.1)

  -- ---- requires

  pub requirer_waits : (t : Task) (how : How) (A : AsksAbove x b root fs w (events.Require t how)) → 0 < w.notes.left → is_small_task t ≡ true
      → IsCanonicalTask t (enc_task t) → RequiresAbove x b A.runs.frame w t how
  requirer_waits t how A left small canonical = record {
    requires = record {
      left = w.notes.left - 1;
      is_left = some_left x b root fs w.code.now w.machine w.notes A.runs left;
      next = requires;
    };
    waits = record {
      left = w.notes.left - 1;
      is_left = one_less w.notes.left left;
      frame = aside_frame x b w.code.now w.machine w.notes w.notes.left A.runs.frame A.runs.means (w.notes.left - 1);
      waits = requires;
      canonical = canonical;
    };
  }
    where
      requires : next x.update.functions A.runs.frame.task A.runs.frame.progress.answers ≡ Require (how_of how) (enc_task t)
      requires = A.asks ∙ ap (λ z. cond z (Require (how_of how) (enc_task t)) (Fail model_faults.Big)) small

  pub big_fails : (t : Task) (how : How) → AsksAbove x b root fs w (events.Require t how) → 0 < w.notes.left → is_small_task t ≡ false
      → FailsAbove x b root fs w.notes.task faults.Big
  big_fails t how A left big =
      fails_own x b root fs w.code.now w.machine w.notes A.runs faults.Big left
      (A.asks ∙ ap (λ z. cond z (Require (how_of how) (enc_task t)) (Fail model_faults.Big)) big)

one_off : (k n : ℕ) → n ≡ suc k → k ≡ n - 1
one_off k n e = omega (arith, e)

pub caller_runs : (x : Site) (b : Build) (root : List ℕ) (fs : List Frame) (g : Frame) (c : Caller) (k : ℕ) (rec : TaskRecord) (v : Value) (height : ℕ)
    (f : RunningTask) → AreTasks b.names → IsTable world (present x.update) (recorded b.names b.records) (map enc_task b.names)
    → IsTop x b root fs (before_wait g) → IsCaller x b g c → slice_get b.names k ≡ Some c.required → kept_of b.records k ≡ Some rec → HasGiven rec v
    → IsTold c.waiting f (required (of_task c.how c.required v) k height c.waiting.notes) (requiring_answer c.how v)
    → RunsAbove x b root fs f.code.now f.machine f.notes
caller_runs x b root fs g c k rec v height f tasks table top m named kept given t =
    subst (λ code. RunsAbove x b root fs code f.machine f.notes) (sym t.code)
    (subst (λ n. RunsAbove x b root fs c.waiting.code.now f.machine n) (sym t.notes) (record {
      frame = was_answered world (present x.update) g g.left (how_of c.how) (enc_task c.required) (enc (tree_of v));
      means = subst (λ z. IsFrame x b c.waiting.code.now f.machine (required (of_task c.how c.required v) k height c.waiting.notes) z
          (was_answered world (present x.update) g g.left (how_of c.how) (enc_task c.required) (enc (tree_of v))))
          (m.frame.left ∙ one_off m.left c.waiting.notes.left m.is_left)
          (given_frame x b c.waiting.code.now c.waiting.machine c.waiting.notes m.left g m.frame g.left f.machine c.how c.required v k height
          (evaluation world (present x.update) (enc_task c.required)) named given.canonical t.follows);
      top = goes_on (setting x.update) (recorded b.names b.records) (map enc_task b.names) root fs (before_wait g) top
          (was_answered world (present x.update) g g.left (how_of c.how) (enc_task c.required) (enc (tree_of v))) refl
          (is_told world (present x.update) (recorded b.names b.records) (Passes (unrecorded (recorded b.names b.records))) root fs (before_wait g) top.goes
          (map enc_task b.names) (counted world (present x.update) (recorded b.names b.records) (map enc_task b.names) table) top.under_way
          (enc_task c.required) settled.known settled.settled g.left (how_of c.how) (enc (tree_of v)) refl m.waits ended);
    }))
  where
    now : recorded b.names b.records (enc_task c.required) ≡ Some (record_of rec)
    now = record_by_number b.names b.records k c.required tasks named ∙ ap (option_map record_of) kept

    settled : IsSettledTask world (present x.update) (recorded b.names b.records) (enc_task c.required)
    settled = settled_task world (present x.update) (recorded b.names b.records) (map enc_task b.names) table (enc_task c.required)
        (record { kept = record_of rec; is = now })

    ended : outcome_of (evaluation world (present x.update) (enc_task c.required)) ≡ Ended (enc (tree_of v))
    ended =
        sym (ap (λ (z : Record). z.outcome) (table.right (enc_task c.required) (record_of rec) now))
        ∙ ap Rattle.pie_model_pipeline.specs.Rows.outcome_of given.outcome
