-- A task that was told something goes on as in the model.
use Rattle.std.proofs.Common.{◌≡◌, ℕ, suc, ◌-◌, ◌<◌, Bool, true, false, cond, Some, None, List, [], ◌∷◌, ◌++◌, map, refl, sym, ap, subst, ◌∙◌}
use Rattle.std.specs.Prelude.{is_some}
use Rattle.std.specs.Option.{option_map}
use Rattle.pie_base.specs.declared.fault.FaultKind.{FaultKind}
use Rattle.pie_base.specs.declared.fault.FaultKind.TheVariants as faults
use Rattle.pie_value.specs.declared.event.Answer.{Answer}
use Rattle.pie_value.specs.declared.event.Answer.TheVariants as answers
use Rattle.pie_value.specs.declared.event.By.{By}
use Rattle.pie_value.specs.declared.event.Event.{Event}
use Rattle.pie_value.specs.declared.event.Event.TheVariants as events
use Rattle.pie_value.specs.declared.task.Task.{Task}
use Rattle.pie_value.specs.declared.verdict.Refusal.{Refusal}
use Rattle.pie_value.specs.declared.verdict.Refusal.TheVariants.{Fault}
use Rattle.pie_value.specs.Tree.{TPath}
use Rattle.pie_value.specs.Limits.{is_small}
use Rattle.pie_files.specs.Directory.{file_at, entries_of}
use Rattle.pie_operators.specs.Domain.{wants}
use Rattle.pie_model.specs.declared.words.Look.{Look}
use Rattle.pie_model.specs.declared.words.Look.TheVariants as looks
use Rattle.pie_model.specs.declared.words.Answer.{Answer as ModelAnswer}
use Rattle.pie_model.specs.declared.words.Answer.TheVariants.{Entries}
use Rattle.pie_model.specs.declared.words.Event.TheVariants.{LookAt, ListOf, Fail}
use Rattle.pie_model.specs.declared.words.FaultKind.TheVariants as model_faults
use Rattle.pie_model.specs.declared.words.Outcome.TheVariants.{Failed}
use Rattle.pie_model.specs.Seen.{seen_file, visible_at}
use Rattle.pie_model.specs.Evaluation.{answered, absent_answer, present_answer}
use Rattle.pie_model.specs.Records.{Observation, Absent, Hash, Looked, Listed, observed as observation, contents_stamp}
use Rattle.pie_step_laws.specs.Frames.{gone_on}
use Rattle.pie_step_laws.specs.UnderWay.{UnderWay, HasEnded}
use Rattle.pie_step_laws.proofs.StepLemmas.{absent_look, present_look, listing_made}
use Rattle.pie_step_laws.proofs.EndLemmas.{failed, clashes, lists_too_much}
use Rattle.pie_model_pipeline.specs.Words.{fault_of, look_by}
use Rattle.pie_model_pipeline.specs.Answers.{answer_of}
use Rattle.pie_model_pipeline.specs.Rows.{observation_of}
use Rattle.pie_model_pipeline.specs.World.{world}
use Rattle.pie_type_laws.specs.Fitting.{AnswerFits}
use Rattle.pie_builder_laws.proofs.Fitted.{builders_fit}
use Rattle.pie_running.specs.declared.frame.RunningTask.{RunningTask}
use Rattle.pie_running.specs.declared.frame.Waiting.{Waiting}
use Rattle.pie_fresh.specs.declared.builder.Builder.{Builder}
use Rattle.pie_base.specs.Path.{is_source}
use Rattle.pie_record.specs.declared.dep.Dep.{Dep}
use Rattle.pie_record.specs.declared.dep.DepKind.TheVariants as kinds
use Rattle.pie_builder_laws.specs.Names.{called_on}
use Rattle.pie_builder_laws.specs.Looks.{IsLook, Sight}
use Rattle.pie_builder_laws.proofs.Lookings.{listing_is, limit_is}
use Rattle.pie_running.specs.declared.frame.Told.{Told}
use Rattle.pie_running.specs.declared.frame.Told.TheVariants as told
use Rattle.pie_running.specs.inner.Noted.{Noted, absent_dep, observed, read_kind}
use Rattle.pie_running.specs.inner.Sights.{Sighted, hash_in, Sees, listing_in}
use Rattle.pie_running.specs.inner.Told.{EvaluatedTo, HasFailed, IsTold, IsToldOrFails, IsToldSmall, IsToldList, listed_dep, paths_list}
use Rattle.pie_running.specs.inner.Told.{told_flag, told_reading, told_hash}
use Rattle.pie_running.specs.inner.Looks.{IsToldPresence, IsToldDigest}
use Rattle.pie_running.proofs.FrameLemmas.{one_less, told_frame}
use Rattle.pie_running.proofs.Sighting.{map_twice, flag_is, reading_as, hash_is, same_sight}
use Rattle.pie_fresh.specs.declared.turn.Turn.{Turn}
use Rattle.pie_fresh.specs.declared.turn.Turn.TheVariants.{Stops}
use Rattle.pie_fresh.specs.inner.Turns.{turned}
use Rattle.pie_fresh.specs.inner.Sights.{SeesOut}
use Rattle.pie_fresh.specs.inner.Means.{Site, project_of, table_of, names_of, Means, IsAsking, RefusesAs, TurnMeans}
use Rattle.pie_fresh.proofs.Seeing.{seen_by, seen_visible}
use Rattle.pie_builder_laws.proofs.Naming.{canonical_at}
use Rattle.pie_fresh.specs.Told.{IsTrueTask}

-- the running task fails for this
abbrev pub fails_by : Waiting → FaultKind → Refusal
fails_by w k = Fault (record { task = w.notes.task; kind = k })

module _ (s : Site) (b : Builder) (w : Waiting) (M : Means s b w.code.now w.machine w.notes) (left : 0 < w.notes.left) where
  some_left : M.running.left ≡ suc (w.notes.left - 1)
  some_left = M.top.left ∙ one_less w.notes.left left

  -- a task that observed something and was told what it is
  pub told_means : (f : RunningTask) (d : Dep) (a : Answer) (x : ModelAnswer) (o : Observation) (e : Event)
      → EvaluatedTo w.code.now w.notes.task.args (map answer_of M.running.progress.answers) (wants e) → AnswerFits s.headings e a
      → IsTold w f (observed d w.notes) a → called_on d.what ≡ [] → a ≡ answer_of x → observation_of d ≡ o
      → UnderWay world (project_of s) s.root s.base (table_of b.ledger) (names_of b.ledger) M.waiting
      (gone_on M.running (answered M.running.progress x) (M.running.seen ++ o ∷ []) (w.notes.left - 1))
      → Means s b f.code.now f.machine f.notes
  told_means f d a x o e came fits t none same note under =
      subst (λ c. Means s b c f.machine f.notes) (sym t.code) (subst (λ n. Means s b w.code.now f.machine n) (sym t.notes) (record {
        there = M.there;
        table = M.table;
        waiting = M.waiting;
        running = gone_on M.running (answered M.running.progress x) (M.running.seen ++ o ∷ []) (w.notes.left - 1);
        stack = M.stack;
        top = told_frame s.functions s.headings s.codes b.ledger.names b.ledger.stage w.code.now w.machine w.notes w.notes.left M.running M.top
            M.there.compiled (w.notes.left - 1) f.machine d a x o e came fits t.follows none same note;
        under = under;
      }))

  -- the running task is one that the program has
  true_task : IsTrueTask w.notes.task
  true_task = canonical_at b.ledger.names M.table.tasks w.notes.number w.notes.task M.top.named

  -- the running task fails
  pub fails_turn : (k : FaultKind) → (project_of s).next M.running.task M.running.progress.answers ≡ Fail (fault_of k) → RefusesAs s b.ledger (fails_by w k)
  fails_turn k q = (
    subst (λ t. HasEnded world (project_of s) s.root s.base (names_of b.ledger) (Failed t (fault_of k))) M.top.task
        (failed world (project_of s) s.root s.base (table_of b.ledger) (names_of b.ledger) M.waiting M.running M.under (w.notes.left - 1)
        (fault_of k) some_left q),
    true_task,
  )

  -- it has failed with notes of this task
  pub failed_turn : (n : Noted) (k : FaultKind) → n.task ≡ w.notes.task → RefusesAs s b.ledger (fails_by w k) → (t : Told) → HasFailed n k t
      → TurnMeans s b (turned t)
  failed_turn n k same r (told.Goes f) h = absurd h
  failed_turn n k same r (told.Fails m j) h =
      subst (λ (x : Noted). RefusesAs s b.ledger (Fault (record { task = x.task; kind = j }))) (sym h.0)
      (subst (λ i. RefusesAs s b.ledger (Fault (record { task = n.task; kind = i }))) (sym h.1)
      (subst (λ x. RefusesAs s b.ledger (Fault (record { task = x; kind = k }))) (sym same) r))

  look_goes : (l : Look) (p : List ℕ) → (project_of s).next M.running.task M.running.progress.answers ≡ LookAt l p → (seen : Sight)
      → visible_at (file_at s.directory) M.running.progress.own M.running.progress.kids p ≡ seen_file seen → (f : RunningTask) (x : Dep × Answer)
      → IsLook l p seen x.0 x.1 → called_on x.0.what ≡ [] → (e : Event)
      → EvaluatedTo w.code.now w.notes.task.args (map answer_of M.running.progress.answers) (wants e)
      → AnswerFits s.headings e x.1 → IsTold w f (observed x.0 w.notes) x.1 → Means s b f.code.now f.machine f.notes
  look_goes l p q None v f x i none e came fits t =
      told_means f x.0 x.1 (absent_answer l) (observation (Looked l p) Absent) e came fits t none i.answer i.observation
      (absent_look world (project_of s) s.root s.base (table_of b.ledger) (names_of b.ledger) M.waiting M.running M.under (w.notes.left - 1) l p some_left q v)
  look_goes l p q (Some y) v f x i none e came fits t =
      told_means f x.0 x.1 (present_answer world y.0 l) (observation (Looked l p) (contents_stamp world p y.0 y.1 l)) e came fits t none i.answer i.observation
      (present_look world (project_of s) s.root s.base (table_of b.ledger) (names_of b.ledger) M.waiting M.running M.under (w.notes.left - 1) l p y.0 y.1
      some_left q v)

  -- a look: the task goes on with what it sees, or fails for a clash
  look_turn : (l : Look) (p : List ℕ) → (project_of s).next M.running.task M.running.progress.answers ≡ LookAt l p → (o : Sighted)
      → visible_at (file_at s.directory) M.running.progress.own M.running.progress.kids p ≡ seen_by o → (tells : Sight → Dep × Answer)
      → ((seen : Sight) → o ≡ Some seen → IsLook l p seen (tells seen).0 (tells seen).1) → ((seen : Sight) → called_on (tells seen).0.what ≡ [])
      → (e : Event) → EvaluatedTo w.code.now w.notes.task.args (map answer_of M.running.progress.answers) (wants e)
      → ((seen : Sight) → AnswerFits s.headings e (tells seen).1) → (missed : Dep) (t : Told) → IsToldOrFails w missed (option_map tells o) t
      → TurnMeans s b (turned t)
  look_turn l p q (Some seen) v tells is none e came fits missed (told.Goes f) h =
      look_goes l p q seen v f (tells seen) (is seen refl) (none seen) e came (fits seen) h
  look_turn l p q (Some seen) v tells is none e came fits missed (told.Fails n k) h = absurd h
  look_turn l p q None v tells is none e came fits missed t h =
      failed_turn (observed missed w.notes) faults.Clash refl (
        subst (λ t. HasEnded world (project_of s) s.root s.base (names_of b.ledger) (Failed t model_faults.Clash)) M.top.task
            (clashes world (project_of s) s.root s.base (table_of b.ledger) (names_of b.ledger) M.waiting M.running M.under (w.notes.left - 1) l p some_left q v),
        true_task,
      ) t h

  -- a listing: the task goes on with the entries, or fails where they are too many
  list_goes : (d : List ℕ) → (project_of s).next M.running.task M.running.progress.answers ≡ ListOf d
      → EvaluatedTo w.code.now w.notes.task.args (map answer_of M.running.progress.answers) (wants (events.List d)) → (small : Bool)
      → is_small (paths_list (entries_of s.directory d)) ≡ small → (t : Told) → IsToldSmall small w d (entries_of s.directory d) t → TurnMeans s b (turned t)
  list_goes d q came true e (told.Goes f) h =
      let es : List (List ℕ) = entries_of s.directory d in
      told_means f (listed_dep d es) (answers.Entries (map TPath es)) (Entries es) (observation (Listed d) (Hash (world.hash (world.listing_bytes es))))
      (events.List d) came ((builders_fit s.headings).listings d es) h refl
      (listing_is d es).answer (listing_is d es).observation
      (listing_made world (project_of s) s.root s.base (table_of b.ledger) (names_of b.ledger) M.waiting M.running M.under (w.notes.left - 1) d es some_left q
      (limit_is s.functions s.directory d ∙ ap (λ z. cond z (Some es) None) e))
  list_goes d q came true e (told.Fails n k) h = absurd h
  list_goes d q came false e t h =
      failed_turn (observed (absent_dep kinds.List d) w.notes) faults.Big refl (
        subst (λ t. HasEnded world (project_of s) s.root s.base (names_of b.ledger) (Failed t model_faults.Big)) M.top.task
            (lists_too_much world (project_of s) s.root s.base (table_of b.ledger) (names_of b.ledger) M.waiting M.running M.under (w.notes.left - 1) d some_left q
            (limit_is s.functions s.directory d ∙ ap (λ z. cond z (Some (entries_of s.directory d)) None) e)),
        true_task,
      ) t h

-- a step that stops for this fault of the running task
pub stops_turn : (s : Site) (b : Builder) (w : Waiting) (k : FaultKind) (task : Task) (t : Turn) → t ≡ Stops (Fault (record { task = task; kind = k }))
    → task ≡ w.notes.task → RefusesAs s b.ledger (fails_by w k) → TurnMeans s b t
stops_turn s b w k task t e same h =
    subst (TurnMeans s b) (sym e) (subst (λ x. RefusesAs s b.ledger (Fault (record { task = x; kind = k }))) (sym same) h)

-- ---- the events that look

pub exists_turn : (s : Site) (b : Builder) (w : Waiting) (path : List ℕ) (t : Told) → IsAsking s b w (events.Exists path) → 0 < w.notes.left
    → IsToldPresence s.directory (SeesOut b.ledger.stage b.ledger.rows w.notes path) w path t → TurnMeans s b (turned t)
exists_turn s b w path t A left h =
    look_turn s b w A.means left looks.Exists path A.asks h.sees.sight
    (seen_visible s b w.code.now w.machine w.notes A.means path h.sees.sight h.sees.sees)
    (λ seen. told_flag path (is_some seen)) (λ seen _. flag_is path seen) (λ seen. refl) (events.Exists path) A.came (λ seen. tt)
    (absent_dep kinds.Exists path) t
    (subst (λ o. IsToldOrFails w (absent_dep kinds.Exists path) o t) (ap (option_map (told_flag path)) h.sees.is
    ∙ map_twice is_some (told_flag path) h.sees.sight) h.told)

pub read_turn : (s : Site) (b : Builder) (w : Waiting) (path : List ℕ) (by : By) (sight : Sighted) (t : Told) → IsAsking s b w (events.Read path by)
    → 0 < w.notes.left → Sees s.directory path (SeesOut b.ledger.stage b.ledger.rows w.notes path) sight
    → IsToldOrFails w (absent_dep (read_kind by) path) (option_map (told_reading by path) sight) t → TurnMeans s b (turned t)
read_turn s b w path by sight t A left p h =
    look_turn s b w A.means left (look_by by) path A.asks sight (seen_visible s b w.code.now w.machine w.notes A.means path sight p)
    (told_reading by path) (λ seen e. reading_as by path seen (λ f g. same_sight sight seen e (p.kept f g))) (λ seen. refl) (events.Read path by) A.came
    (λ seen. (builders_fit s.headings).readings path by seen) (absent_dep (read_kind by) path) t h

pub digest_turn : (s : Site) (b : Builder) (w : Waiting) (path : List ℕ) (t : Told) → IsAsking s b w (events.Digest path) → 0 < w.notes.left
    → IsToldDigest s.directory (SeesOut b.ledger.stage b.ledger.rows w.notes path) w path t → TurnMeans s b (turned t)
digest_turn s b w path t A left h =
    look_turn s b w A.means left looks.Digest path A.asks h.sees.sight
    (seen_visible s b w.code.now w.machine w.notes A.means path h.sees.sight h.sees.sees)
    (λ seen. told_hash path (hash_in seen)) (λ seen _. hash_is path seen) (λ seen. refl) (events.Digest path) A.came (λ seen. tt)
    (absent_dep kinds.Digest path) t
    (subst (λ o. IsToldOrFails w (absent_dep kinds.Digest path) o t) (ap (option_map (told_hash path)) h.sees.is
    ∙ map_twice hash_in (told_hash path) h.sees.sight) h.told)

pub list_turn : (s : Site) (b : Builder) (w : Waiting) (dir : List ℕ) (t : Told) → IsAsking s b w (events.List dir) → 0 < w.notes.left
    → IsToldList w dir (listing_in s.directory dir) t → TurnMeans s b (turned t)
list_turn s b w dir t A left h = by (is_source dir) refl t h
  where
    by : (z : Bool) → is_source dir ≡ z → (u : Told) → IsToldList w dir (cond z (Some (entries_of s.directory dir)) None) u → TurnMeans s b (turned u)
    by true f u k =
        list_goes s b w A.means left dir (A.asks ∙ ap (λ z. cond z (ListOf dir) (Fail model_faults.BadList)) f) A.came
        (is_small (paths_list (entries_of s.directory dir))) refl u k
    by false f u k =
        failed_turn s b w A.means left w.notes faults.BadList refl
        (fails_turn s b w A.means left faults.BadList (A.asks ∙ ap (λ z. cond z (ListOf dir) (Fail model_faults.BadList)) f)) u k
