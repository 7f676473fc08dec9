-- A task that is entered begins as in the model.
use Rattle.std.proofs.Common.{get_or, ◌≡◌, ◌⊎◌, inl, inr, ℕ, zero, suc, ◌+◌, ◌-◌, ◌<◌, ◌≤◌, true, false, cond, Option, Some, None, List, [], ◌∷◌}
use Rattle.std.proofs.Common.{◌++◌, map, length, reverse, refl, sym, ap, subst, ◌∙◌, arith}
use Rattle.std.specs.Prelude.{slice_get, IfSome, Contains}
use Rattle.std.proofs.lemmas.List.{length-append, length-map, reverse-append}
use Rattle.std.proofs.lemmas.Option.{slice_get_cases}
use Rattle.pie_base.specs.declared.fault.FaultKind.TheVariants as faults
use Rattle.pie_value.specs.declared.task.Task.{Task}
use Rattle.pie_value.specs.declared.event.How.{How}
use Rattle.pie_value.specs.declared.event.Event.TheVariants as events
use Rattle.pie_value.specs.declared.verdict.Refusal.{Refusal}
use Rattle.pie_value.specs.declared.verdict.Refusal.TheVariants as refusals
use Rattle.pie_value.specs.Limits.{is_small_task}
use Rattle.pie_value.specs.Canonical.{enc_task, IsCanonicalTask}
use Rattle.pie_graph.specs.Rows.{no_edges}
use Rattle.pie_view.specs.Content.{content}
use Rattle.pie_code.specs.declared.code.Code.{Code}
use Rattle.pie_code.specs.Running.{start}
use Rattle.pie_record.specs.declared.task_record.TaskRecord.{TaskRecord}
use Rattle.pie_record.specs.inner.Records.{record_of as kept_of}
use Rattle.pie_types.specs.Whole.{number_from}
use Rattle.pie_model.specs.Paths.{among}
use Rattle.pie_model.specs.declared.words.Event.TheVariants.{Require, Fail}
use Rattle.pie_model.specs.declared.words.FaultKind.TheVariants as model_faults
use Rattle.pie_model.specs.Trees.{entered}
use Rattle.pie_model.specs.Evaluation.{evaluation}
use Rattle.pie_model.specs.inner.Stack.{Begins}
use Rattle.pie_step_laws.specs.Frames.{begun as model_begun, set_aside}
use Rattle.pie_step_laws.specs.UnderWay.{UnderWay}
use Rattle.pie_step_laws.proofs.StepLemmas.{map_end, root_begins, require_descends}
use Rattle.pie_step_laws.proofs.EndLemmas.{enters_one_more, new_root_entered}
use Rattle.pie_model_pipeline.specs.Words.{how_of}
use Rattle.pie_model_pipeline.specs.World.{world}
use Rattle.pie_builder_laws.specs.Names.{AreTasks}
use Rattle.pie_builder_laws.specs.Tables.{recorded}
use Rattle.pie_builder_laws.specs.Views.{IsGraphOf}
use Rattle.pie_builder_laws.specs.Events.{AreCompiled}
use Rattle.pie_builder_laws.proofs.Naming.{canonical_at, other_back}
use Rattle.pie_builder_laws.proofs.Numbered.{code_found}
use Rattle.pie_builder_laws.proofs.Tabled.{no_record_named}
use Rattle.pie_builder_laws.proofs.Provided.{numbers_stay, graph_grows}
use Rattle.pie_running.specs.declared.frame.RunningTask.{RunningTask}
use Rattle.pie_running.specs.declared.frame.Caller.{Caller}
use Rattle.pie_running.specs.declared.frame.Waiting.{Waiting}
use Rattle.pie_fresh.specs.declared.ledger.Ledger.{Ledger}
use Rattle.pie_fresh.specs.declared.builder.Builder.{Builder}
use Rattle.pie_running.specs.inner.Coded.{IsCodeFor, HasFunction}
use Rattle.pie_fresh.specs.inner.Means as means
use Rattle.pie_fresh.specs.inner.Means.{Site, project_of, table_of, names_of, IsThere, MeansTable, MeansFrame, MeanCallers, Means, IsAsking}
use Rattle.pie_fresh.specs.inner.Means.{AddsTask, HasNoRoom, RefusesNew, RefusesAs, IsResting}
use Rattle.pie_running.proofs.Fitting.{required_has}
use Rattle.pie_fresh.proofs.Moving.{Extends, frame_moves, callers_move}
use Rattle.pie_running.specs.inner.Frames.{IsStarted}
use Rattle.pie_running.proofs.FrameLemmas as frames
use Rattle.pie_running.proofs.FrameLemmas.{one_less, aside_frame}

some_same : {X : Type 0} {x y : X} → Some x ≡ Some y → x ≡ y
some_same h = cc

not_some : {A : Type 0} {X : Type 0} {x : X} → None ≡ Some x → A
not_some h = absurd (apart h)
  where
    apart : {Y : Type 0} {y : Y} → None ≡ Some y → ⊥
    apart e = cc

pub most_tasks_is : world.most_tasks ≡ 50000
unfolding world
most_tasks_is = refl

-- ---- a name more

name_stays : (ts : List Task) (t u : Task) (n : ℕ) → slice_get ts n ≡ Some u → slice_get (ts ++ t ∷ []) n ≡ Some u
name_stays [] t u n e = not_some e
name_stays (x ∷ ts) t u zero e = e
name_stays (x ∷ ts) t u (suc n) e = name_stays ts t u n e

name_was : (ts : List Task) (t u : Task) (n : ℕ) → n < length ts → slice_get (ts ++ t ∷ []) n ≡ Some u → slice_get ts n ≡ Some u
name_was [] t u n l e = absurd (omega (arith, l))
name_was (x ∷ ts) t u zero l e = e
name_was (x ∷ ts) t u (suc n) l e = name_was ts t u n (omega (arith, l)) e

pub name_new : (ts : List Task) (t : Task) → slice_get (ts ++ t ∷ []) (length ts) ≡ Some t
name_new [] t = refl
name_new (x ∷ ts) t = name_new ts t

pub names_extend : (old new : Ledger) (t : Task) → new.names ≡ old.names ++ t ∷ [] → Extends old new
names_extend old new t e = record {
  named = λ n u h. subst (λ ts. slice_get ts n ≡ Some u) (sym e) (name_stays old.names t u n h);
  numbers = λ ns ts h. subst (λ us. map (slice_get us) ns ≡ map Some ts) (sym e) (numbers_stay old.names t ns ts h);
}

-- ---- the ledger with one task more

module _ (s : Site) (old new : Ledger) (t : Task) (T : MeansTable s old) (names : new.names ≡ old.names ++ t ∷ [])
    (rows : new.rows ≡ old.rows ++ no_edges ∷ []) (records : new.records ≡ old.records) (stage : new.stage ≡ old.stage) (tasks : AreTasks new.names) where
  longer : length new.names ≡ length old.names + 1
  longer = ap length names ∙ length-append old.names (t ∷ [])

  was_named : (n : ℕ) (u : Task) (rec : TaskRecord) → slice_get new.names n ≡ Some u → kept_of new.records n ≡ Some rec → slice_get old.names n ≡ Some u
  was_named n u rec e k = by (slice_get_cases old.names n).1
    where
      by : ((v : Task) × (n < length old.names) × (slice_get old.names n ≡ Some v) × (get_or old.names n v ≡ v))
          ⊎ ((length old.names ≤ n) × (slice_get old.names n ≡ None)) → slice_get old.names n ≡ Some u
      by (inl m) = name_was old.names t u n m.1 (subst (λ ts. slice_get ts n ≡ Some u) names e)
      by (inr m) = not_some (sym (T.unused n m.0).unrecorded ∙ sym (ap (λ r. kept_of r n) records) ∙ k)

  pub table_added : MeansTable s new
  table_added = record {
    tasks = tasks;
    graph = subst (λ ts. IsGraphOf ts new.records new.rows) (sym names)
        (subst (λ r. IsGraphOf (old.names ++ t ∷ []) r new.rows) (sym records)
        (subst (IsGraphOf (old.names ++ t ∷ []) old.records) (sym rows) (graph_grows old.names old.records old.rows t T.graph)));
    staged = λ n u rec e k p.
        ap (λ z. content z n p) stage ∙ T.staged n u rec (was_named n u rec e k) (sym (ap (λ r. kept_of r n) records) ∙ k) p;
    unused = λ n h.
        let past : length old.names ≤ n = omega (arith, h, longer) in
        record {
          unrecorded = ap (λ r. kept_of r n) records ∙ (T.unused n past).unrecorded;
          unstaged = λ p. ap (λ z. content z n p) stage ∙ (T.unused n past).unstaged p;
        };
    outputs = λ n. subst (λ r. IfSome (kept_of r n) (λ rec. means.IsKeptOutput rec.outcome)) (sym records) (T.outputs n);
    fits = λ n u rec e k. T.fits n u rec (was_named n u rec e k) (sym (ap (λ r. kept_of r n) records) ∙ k);
  }

  pub new_canonical : IsCanonicalTask t (enc_task t)
  new_canonical = canonical_at new.names tasks (length old.names) t (subst (λ ts. slice_get ts (length old.names) ≡ Some t) (sym names) (name_new old.names t))

  pub new_absent : ¬ (Contains old.names t) → among (enc_task t) (names_of old) ≡ false
  new_absent h = other_back old.names t T.tasks new_canonical h

-- ---- a new task

-- a task without code has no function
pub no_function : (s : Site) (t : Task) → AreCompiled s.functions s.codes → IsCodeFor s.functions s.codes t None → number_from 0 s.functions t ≡ None
no_function s t compiled none = by (number_from 0 s.functions t) refl
  where
    by : (o : Option ℕ) → number_from 0 s.functions t ≡ o → o ≡ None
    by None e = refl
    by (Some n) e = let c = code_found s.functions s.codes t n compiled e in absurd (none n e c.code c.is c.takes)

-- the build after a task was added
pub added : (s : Site) (old new : Builder) (t : Task) → IsThere s old → MeansTable s old.ledger → IsThere s new → new.ledger.names ≡ old.ledger.names ++ t ∷ []
    → new.ledger.rows ≡ old.ledger.rows ++ no_edges ∷ [] → new.ledger.records ≡ old.ledger.records → new.ledger.stage ≡ old.ledger.stage
    → AreTasks new.ledger.names → new.stack ≡ old.stack → length old.ledger.names < 50000 → ¬ (Contains old.ledger.names t) → AddsTask s old new t
added s old new t there T now names rows records stage tasks stack room absent = record {
  there = now;
  table = table_added s old.ledger new.ledger t T names rows records stage tasks;
  names = names;
  records = records;
  stage = stage;
  stack = stack;
  room = room;
  absent = new_absent s old.ledger new.ledger t T names rows records stage tasks absent;
}

-- a new task before its first event is the new frame of the model
pub begun_frame : (s : Site) (old new : Builder) (t : Task) (code : Code) (f : RunningTask) (number : ℕ) → AddsTask s old new t → MeansTable s old.ledger
    → number ≡ length old.ledger.names → HasFunction s.functions s.codes t code → IsStarted code t number f
    → MeansFrame s new.ledger f.code.now f.machine f.notes f.notes.left (model_begun world (enc_task t))
begun_frame s old new t code f number A T place function started =
    frames.begun_frame s.functions s.headings s.codes new.ledger.names new.ledger.stage t f number
    (subst (λ ts. slice_get ts number ≡ Some t) (sym A.names)
    (subst (λ n. slice_get (old.ledger.names ++ t ∷ []) n ≡ Some t) (sym place) (name_new old.ledger.names t)))
    (subst (HasFunction s.functions s.codes t) (sym started.coded) function)
    (subst (λ c. f.machine.config ≡ start c t.args []) (sym started.coded) started.config) started.notes
    (λ p. ap (λ z. content z number p) A.stage ∙ (T.unused number (omega (arith, place))).unstaged p)

-- a function by the codes of the build is one of the site
pub function_there : (s : Site) (b : Builder) (t : Task) (o : Option Code) → IsThere s b → IsCodeFor b.typed.now b.code.now t o
    → IsCodeFor s.functions s.codes t o
function_there s b t o there h =
    subst (λ cs. IsCodeFor s.functions cs t o) there.codes (subst (λ fs. IsCodeFor fs b.code.now t o) there.functions h)

-- without room nothing is added
pub no_room : (s : Site) (old : Builder) (t : Task) (bytes : List ℕ) → MeansTable s old.ledger → 50000 ≤ length old.ledger.names
    → length old.ledger.names ≤ 50000 → IsCanonicalTask t bytes → bytes ≡ enc_task t → ¬ (Contains old.ledger.names t) → HasNoRoom old old t
no_room s old t bytes T full few canonical same absent = record {
  names = refl;
  full = omega (arith, full, few);
  absent = other_back old.ledger.names t T.tasks (subst (λ x. IsCanonicalTask t x) same canonical) absent;
}

-- a task that has no function is refused
pub unknown_new : (s : Site) (old new : Builder) (t : Task) (r : Refusal) → AreCompiled s.functions s.codes → IsCodeFor s.functions s.codes t None
    → r ≡ refusals.Fault (record { task = t; kind = faults.Unknown }) → RefusesNew s old new t r
unknown_new s old new t r compiled none e = subst (λ x. RefusesNew s old new t x) (sym e) (no_function s t compiled none)

-- ---- the table with one name more

pub table_same : (s : Site) (old new : Builder) (t : Task) → MeansTable s old.ledger → AddsTask s old new t → table_of new.ledger ≡ table_of old.ledger
table_same s old new t T A = λ i x. each x i
  where
    each : (x : List ℕ) → recorded new.ledger.names new.ledger.records x ≡ recorded old.ledger.names old.ledger.records x
    each x =
        ap (λ r. recorded new.ledger.names r x) A.records ∙ ap (λ ns. recorded ns old.ledger.records x) A.names
        ∙ no_record_named old.ledger.names old.ledger.records t x (T.unused (length old.ledger.names) (omega arith)).unrecorded

pub names_one_more : (old new : Builder) (t : Task) → new.ledger.names ≡ old.ledger.names ++ t ∷ []
    → names_of new.ledger ≡ names_of old.ledger ++ enc_task t ∷ []
names_one_more old new t e = ap (map enc_task) e ∙ map_end enc_task old.ledger.names t

room_left : (ts : List Task) → length ts < 50000 → length (map enc_task ts) < world.most_tasks
room_left ts h = subst (λ k. length (map enc_task ts) < k) (sym most_tasks_is) (subst (λ k. k < 50000) (sym (length-map ts enc_task)) h)

-- ---- a required task that is new

module _ (s : Site) (b c : Builder) (w : Waiting) (t : Task) (how : How) (A : IsAsking s b w (events.Require t how)) (left : 0 < w.notes.left)
    (small : is_small_task t ≡ true) where
  some_left : A.means.running.left ≡ suc (w.notes.left - 1)
  some_left = A.means.top.left ∙ one_less w.notes.left left

  requires : (project_of s).next A.means.running.task A.means.running.progress.answers ≡ Require (how_of how) (enc_task t)
  requires = A.asks ∙ ap (λ z. cond z (Require (how_of how) (enc_task t)) (Fail model_faults.Big)) small

  goes_below : (E : AddsTask s b c t) → UnderWay world (project_of s) s.root s.base (table_of c.ledger) (names_of c.ledger)
      (set_aside A.means.running (w.notes.left - 1) ∷ A.means.waiting) (model_begun world (enc_task t))
  goes_below E =
      subst (λ R. UnderWay world (project_of s) s.root s.base R (names_of c.ledger) (set_aside A.means.running (w.notes.left - 1) ∷ A.means.waiting)
      (model_begun world (enc_task t))) (sym (table_same s b c t A.means.table E))
      (subst (λ ns. UnderWay world (project_of s) s.root s.base (table_of b.ledger) ns (set_aside A.means.running (w.notes.left - 1) ∷ A.means.waiting)
      (model_begun world (enc_task t))) (sym (names_one_more b c t E.names))
      (require_descends world (project_of s) s.root s.base (table_of b.ledger) (names_of b.ledger) A.means.waiting A.means.running A.means.under
      (w.notes.left - 1) (how_of how) (enc_task t) some_left requires E.absent (room_left b.ledger.names E.room)))

  -- it runs first, above the one that requires it
  pub descended_means : (d : Builder) (f : RunningTask) → AddsTask s b c t
      → MeansFrame s c.ledger f.code.now f.machine f.notes f.notes.left (model_begun world (enc_task t)) → d.ledger ≡ c.ledger
      → d.stack.items ≡ c.stack.items ++ record { waiting = w; required = t; how = how } ∷ [] → IsThere s d → Means s d f.code.now f.machine f.notes
  descended_means d f E top same pushed there =
      let caller : Caller = record { waiting = w; required = t; how = how } in
      record {
        there = there;
        table = subst (MeansTable s) (sym same) E.table;
        waiting = set_aside A.means.running (w.notes.left - 1) ∷ A.means.waiting;
        running = model_begun world (enc_task t);
        stack = subst (MeanCallers s d.ledger (set_aside A.means.running (w.notes.left - 1) ∷ A.means.waiting))
            (sym (ap reverse pushed ∙ reverse-append c.stack.items (caller ∷ []) ∙ ap (λ st. caller ∷ reverse st.items) E.stack))
            (subst (λ l. MeanCallers s l (set_aside A.means.running (w.notes.left - 1) ∷ A.means.waiting) (caller ∷ reverse b.stack.items)) (sym same) (
              record {
                left = w.notes.left - 1;
                is_left = one_less w.notes.left left;
                frame = aside_frame s.functions s.headings s.codes c.ledger.names c.ledger.stage w.code.now w.machine w.notes w.notes.left
                    A.means.running (frame_moves s b.ledger c.ledger w.code.now w.machine w.notes w.notes.left A.means.running (names_extend b.ledger c.ledger t E.names)
                    (λ p. ap (λ z. content z w.notes.number p) E.stage) A.means.top) (w.notes.left - 1);
                waits = requires;
                canonical = canonical_at c.ledger.names E.table.tasks (length b.ledger.names) t
                    (subst (λ ts. slice_get ts (length b.ledger.names) ≡ Some t) (sym E.names) (name_new b.ledger.names t));
                came = A.came;
              },
              callers_move s b.ledger c.ledger A.means.waiting _ (names_extend b.ledger c.ledger t E.names) (λ n u e i p. ap (λ z. content z n p) E.stage)
                  A.means.stack,
            ));
        top = subst (λ l. MeansFrame s l f.code.now f.machine f.notes f.notes.left (model_begun world (enc_task t))) (sym same) top;
        under = subst (λ l. UnderWay world (project_of s) s.root s.base (table_of l) (names_of l)
            (set_aside A.means.running (w.notes.left - 1) ∷ A.means.waiting) (model_begun world (enc_task t))) (sym same) (goes_below E);
      }

  too_many : HasNoRoom b c t → RefusesAs s c.ledger refusals.Many
  too_many H = record {
    full = ap length H.names ∙ H.full;
    one = enc_task t;
    begins = subst (λ ns. Begins (ns ++ enc_task t ∷ []) (entered (evaluation world (project_of s) s.root) s.base)) (sym (ap (map enc_task) H.names))
        (enters_one_more world (project_of s) s.root s.base (table_of b.ledger) (names_of b.ledger) A.means.waiting A.means.running A.means.under
        (w.notes.left - 1) (how_of how) (enc_task t) some_left requires H.absent);
  }

  -- it isn't started
  pub refused_means : (r : Refusal) → RefusesNew s b c t r → RefusesAs s c.ledger r
  refused_means (refusals.Fault f) h =
      not_some (sym h ∙ (required_has s.functions s.headings s.codes A.means.there.compiled b.ledger.names b.ledger.stage w.code.now w.machine w.notes
      w.notes.left A.means.running A.means.top A.means.there.headings t how A.came).1)
  refused_means refusals.Many h = too_many h
  refused_means (refusals.Cycle ts) h = absurd h
  refused_means (refusals.Overlap p x y) h = absurd h
  refused_means (refusals.Nested p q) h = absurd h
  refused_means (refusals.Hidden p x y) h = absurd h

-- ---- a root that is new

module _ (s : Site) (b c : Builder) (t : Task) (R : IsResting s b) (root : s.root ≡ enc_task t) (base : s.base ≡ names_of b.ledger) where
  root_goes : (E : AddsTask s b c t) → UnderWay world (project_of s) s.root s.base (table_of c.ledger) (names_of c.ledger) [] (model_begun world (enc_task t))
  root_goes E =
      subst (λ r. UnderWay world (project_of s) r s.base (table_of c.ledger) (names_of c.ledger) [] (model_begun world (enc_task t))) (sym root)
      (subst (λ base. UnderWay world (project_of s) (enc_task t) base (table_of c.ledger) (names_of c.ledger) [] (model_begun world (enc_task t))) (sym base)
      (subst (λ T. UnderWay world (project_of s) (enc_task t) (names_of b.ledger) T (names_of c.ledger) [] (model_begun world (enc_task t)))
      (sym (table_same s b c t R.table E))
      (subst (λ ns. UnderWay world (project_of s) (enc_task t) (names_of b.ledger) (table_of b.ledger) ns [] (model_begun world (enc_task t)))
      (sym (names_one_more b c t E.names))
      (root_begins world (project_of s) (enc_task t) (table_of b.ledger) (names_of b.ledger) R.rests E.absent (room_left b.ledger.names E.room)))))

  pub root_means : (f : RunningTask) → AddsTask s b c t → MeansFrame s c.ledger f.code.now f.machine f.notes f.notes.left (model_begun world (enc_task t))
      → Means s c f.code.now f.machine f.notes
  root_means f E top = record {
    there = E.there;
    table = E.table;
    waiting = [];
    running = model_begun world (enc_task t);
    stack = subst (λ cs. MeanCallers s c.ledger [] (reverse cs)) (sym (ap (λ st. st.items) E.stack ∙ R.alone)) tt;
    top = top;
    under = root_goes E;
  }

  root_too_many : HasNoRoom b c t → RefusesAs s c.ledger refusals.Many
  root_too_many H = record {
    full = ap length H.names ∙ H.full;
    one = enc_task t;
    begins = subst (λ ns. Begins (ns ++ enc_task t ∷ []) (entered (evaluation world (project_of s) s.root) s.base)) (sym (ap (map enc_task) H.names))
        (subst (λ r. Begins (names_of b.ledger ++ enc_task t ∷ []) (entered (evaluation world (project_of s) r) s.base)) (sym root)
        (subst (λ base. Begins (names_of b.ledger ++ enc_task t ∷ []) (entered (evaluation world (project_of s) (enc_task t)) base)) (sym base)
        (new_root_entered world (project_of s) (names_of b.ledger) (enc_task t) H.absent)));
  }

  pub root_refused : (n : ℕ) × (number_from 0 s.functions t ≡ Some n) → (r : Refusal) → RefusesNew s b c t r → RefusesAs s c.ledger r
  root_refused known (refusals.Fault f) h = not_some (sym h ∙ known.1)
  root_refused known refusals.Many h = root_too_many h
  root_refused known (refusals.Cycle ts) h = absurd h
  root_refused known (refusals.Overlap p x y) h = absurd h
  root_refused known (refusals.Nested p q) h = absurd h
  root_refused known (refusals.Hidden p x y) h = absurd h
