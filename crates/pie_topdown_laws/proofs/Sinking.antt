-- A root ends as one of the tasks above it, and enters what was entered.
use Rattle.std.proofs.Common.{ℕ, suc, ◌≤◌, ◌<◌, ◌-◌, ◌≡◌, Bool, true, false, cond, Option, Some, List, [], ◌∷◌, ◌++◌, length, ◌⊎◌, inl, inr}
use Rattle.std.proofs.Common.{sym, ◌∙◌, ap, subst, refl, arith, append-nil}
use Rattle.pie_model.specs.Paths.{among}
use Rattle.pie_model.specs.Tasks.{Task, Value}
use Rattle.pie_model.specs.declared.words.How.{How}
use Rattle.pie_model.specs.declared.words.FaultKind.{FaultKind}
use Rattle.pie_model.specs.declared.words.FaultKind.TheVariants.{Clash, Budget, Big}
use Rattle.pie_model.specs.declared.words.Event.TheVariants.{Done, Fail, LookAt, ListOf, Require}
use Rattle.pie_model.specs.declared.words.Outcome.{Outcome}
use Rattle.pie_model.specs.declared.words.Outcome.TheVariants.{Ended, Failed, Cycled}
use Rattle.pie_model.specs.Trees.{node, Trace, ends, outcome_of, end_of, is_done, HasTask, enter, entered, entered_below}
use Rattle.pie_model.specs.Evaluation.{World, Project, start, follow, on_event, on_seen, on_listing, evaluation_with, evaluation_under, evaluation, round}
use Rattle.pie_model.specs.Records.{Record, Observation, hashed, needs_of}
use Rattle.pie_model.specs.Running.{rest_of_run, entered_all}
use Rattle.pie_model.specs.inner.RecordLaws.{Passes}
use Rattle.pie_model.specs.inner.Steps.{ChangesAt}
use Rattle.pie_model.specs.inner.Stack.{Frame, tasks_of, entered_by}
use Rattle.pie_model.specs.inner.Stack.IsWaiting.{waits}
use Rattle.pie_model.specs.Forest.{entered_tasks}
use Rattle.pie_model.proofs.Basics.{clash, among_here, among_there, among_left, among_right, among_either}
use Rattle.pie_model.proofs.MovedLemmas.{opened_apart, opened_among}
use Rattle.pie_model.proofs.StackLemmas.{sinks, sinks_entered}
use Rattle.pie_step_laws.specs.Table.{IsTable}
use Rattle.pie_step_laws.specs.Frames.{record_left}
use Rattle.pie_step_laws.proofs.Tables.{among_one, no_more, all_right, reached_recorded, standing_recorded}
use Rattle.pie_settle_laws.specs.Known.{AreDone}
use Rattle.pie_settle_laws.specs.Going.{Ends, before_wait}
use Rattle.pie_settle_laws.specs.Going.Ends.{with_value, failing, clashing, listing_too_much, without_events}
use Rattle.pie_settle_laws.proofs.Goings.{runs_with}
use Rattle.pie_settle_laws.proofs.Leaving.{going_ends}
use Rattle.pie_settle_laws.proofs.Entering.{StandsUnder, all_split}
use Rattle.pie_settle_laws.proofs.Ending.{entered_are_reached}
use Rattle.pie_topdown_laws.specs.Tables.{unrecorded, EndsIn}
use Rattle.pie_topdown_laws.specs.Checks.{Setting, GoesOn, AreUnderWay}
use Rattle.pie_topdown_laws.specs.Stacks.{AllGo, IsStack}
use Rattle.pie_topdown_laws.specs.Ends.{AreRecorded, AllEntered}
use Rattle.pie_topdown_laws.proofs.Beside.{rest_at}
use Rattle.pie_topdown_laws.proofs.Tabling.{no_record}

-- ---- the rest of a run that ends by itself

pub record EndsSo (k : Trace) (e : Outcome) : Type 0 where
  pub outcome : end_of k ≡ e
  pub nothing : (all : List Task) → entered_below k all ≡ all

pub rest_ends : (w : World) (P : Project) (room : ℕ) (above : List Task) (f : Frame) (last : List Observation) (e : Outcome) → Ends w P f last e
    → EndsSo (rest_of_run w P room above f.task f.left f.progress) e
rest_ends w P room above f _ _ (with_value n v l h) =
    subst (λ k. EndsSo k (Ended v)) (sym (rest_at w P room above f.task f.left n f.progress (Done v) l h)) (record { outcome = refl; nothing = λ all. refl })
rest_ends w P room above f _ _ (failing n k l h) =
    subst (λ z. EndsSo z (Failed f.task k)) (sym (rest_at w P room above f.task f.left n f.progress (Fail k) l h))
    (record { outcome = refl; nothing = λ all. refl })
rest_ends w P room above f _ _ (clashing n k p l h v) =
    subst (λ z. EndsSo z (Failed f.task Clash))
    (sym (rest_at w P room above f.task f.left n f.progress (LookAt k p) l h
    ∙ ap (on_seen w f.task k p f.progress (rest_of_run w P room above f.task n)) v)) (record { outcome = refl; nothing = λ all. refl })
rest_ends w P room above f _ _ (listing_too_much n d l h v) =
    subst (λ z. EndsSo z (Failed f.task Big))
    (sym (rest_at w P room above f.task f.left n f.progress (ListOf d) l h ∙ ap (on_listing f.task d f.progress (rest_of_run w P room above f.task n)) v))
    (record { outcome = refl; nothing = λ all. refl })
rest_ends w P room above f _ _ (without_events l) =
    subst (λ z. EndsSo z (Failed f.task Budget)) (sym (ap (λ m. rest_of_run w P room above f.task m f.progress) l))
    (record { outcome = refl; nothing = λ all. refl })

-- a new task that fails at once
pub new_fails : (w : World) (P : Project) (above : List Task) (u : Task) (k : FaultKind) → among u above ≡ false → length above < w.most_tasks
    → 0 < w.most_events → P.next u [] ≡ Fail k → evaluation_under w P above u ≡ node u (ends (Failed u k))
new_fails w P above u k apart few some h =
    ap (λ n. evaluation_with n w P above u) (room_is w.most_tasks (length above) few)
    ∙ opened_apart (suc (w.most_tasks - length above - 1)) w P above u apart
    ∙ ap (node u) (ap (λ n. follow w P (evaluation_with (w.most_tasks - length above - 1) w P (u ∷ above)) u n start) (one_event w.most_events some)
    ∙ ap (on_event w P (evaluation_with (w.most_tasks - length above - 1) w P (u ∷ above)) u start
    (follow w P (evaluation_with (w.most_tasks - length above - 1) w P (u ∷ above)) u (w.most_events - 1))) h)
  where
    room_is : (a b : ℕ) → b < a → a - b ≡ suc (a - b - 1)
    room_is a b q = omega arith

    one_event : (a : ℕ) → 0 < a → a ≡ suc (a - 1)
    one_event a q = omega arith

module _ (x : Setting) (R : Task → Option Record) (root : Task) (fs : List Frame) (f : Frame) (G : GoesOn x R root fs f) where
  abbrev w : World
  w = x.world

  abbrev P : Project
  P = x.now

  -- ---- a value

  pub running_ends : (S : Task → Option Record) (names : List Task) (n : ℕ) (v : Value) → AreUnderWay R names (tasks_of (f ∷ fs)) → f.left ≡ suc n
      → P.next f.task f.progress.answers ≡ Done v → ChangesAt R S f.task (record_left w f v) → EndsIn w P R S names f.task (record_left w f v)
  running_ends S names n v B l h change = record {
    entered = B.counted f.task (among_here f.task (tasks_of fs));
    unrecorded = no_record R f.task (B.each f.task (among_here f.task (tasks_of fs)));
    changes = change;
    right = (λ i. record {
      task = f.task;
      observations = sym (append-nil f.seen) i;
      writes = hashed w f.progress.own;
      outcome = Ended v;
    }) ∙ sym (going_ends w P R (Passes (unrecorded R)) root fs f G [] (Ended v) (with_value n v l h)).is;
    done = refl;
    closed = λ u i. (G.settled u i).recorded;
  }

  -- ---- no value

  under_is : evaluation_under w P (tasks_of fs) f.task ≡ evaluation_with (suc G.room) w P (tasks_of fs) f.task
  under_is = ap (λ m. evaluation_with m w P (tasks_of fs) f.task) G.is_room

  ends_under : (last : List Observation) (e : Outcome) → Ends w P f last e → outcome_of (evaluation_under w P (tasks_of fs) f.task) ≡ e
  ends_under last e h = ap outcome_of under_is ∙ G.runs.end ∙ (rest_ends w P G.room (tasks_of fs) f last e h).outcome

  pub failure_sinks : (last : List Observation) (e : Outcome) → Ends w P f last e → is_done e ≡ false → outcome_of (evaluation w P root) ≡ e
  failure_sinks last e h d = sinks w P root fs f.task e G.waits (ends_under last e h) d

  pub failure_enters : (last : List Observation) (e : Outcome) → Ends w P f last e → is_done e ≡ false → (base : List Task)
      → entered (evaluation w P root) base ≡ entered_by base (f ∷ fs)
  failure_enters last e h d base =
      sinks_entered w P root base fs f.task e G.waits (ends_under last e h) d
      ∙ ap (λ n. entered n (entered_by base fs)) under_is
      ∙ G.runs.enters (entered_by base fs)
      ∙ (rest_ends w P G.room (tasks_of fs) f last e h).nothing (entered_by base (f ∷ fs))

  module _ (n : ℕ) (h : How) (u : Task) (l : f.left ≡ suc n) (q : P.next f.task f.progress.answers ≡ Require h u) where
    pub required_sinks : (e : Outcome) → outcome_of (evaluation_under w P (tasks_of (f ∷ fs)) u) ≡ e → is_done e ≡ false
        → outcome_of (evaluation w P root) ≡ e
    required_sinks e o d =
        sinks w P root (record f { left = n } ∷ fs) u e
        (waits h G.room G.is_room (runs_with w P R (Passes (unrecorded R)) root fs f G n l) q G.waits) o d

    pub required_enters : (e : Outcome) → evaluation_under w P (tasks_of (f ∷ fs)) u ≡ node u (ends e) → is_done e ≡ false → (base : List Task)
        → entered (evaluation w P root) base ≡ enter u (entered_by base (f ∷ fs))
    required_enters e o d base =
        sinks_entered w P root base (record f { left = n } ∷ fs) u e
        (waits h G.room G.is_room (runs_with w P R (Passes (unrecorded R)) root fs f G n l) q G.waits) (ap outcome_of o) d
        ∙ ap (λ z. entered z (entered_by base (f ∷ fs))) o

-- a task that stands above is in the cycle
pub closed_under : (w : World) (P : Project) (above : List Task) (u : Task) → among u above ≡ true
    → evaluation_under w P above u ≡ node u (ends (Cycled (round u above [])))
closed_under w P above u i = opened_among (w.most_tasks - length above) w P above u i

-- ---- what was entered

enter_split : (t u : Task) (all : List Task) → among t (enter u all) ≡ true → (among t all ≡ true) ⊎ (t ≡ u)
enter_split t u all h = go (among u all) h
  where
    last : (among t all ≡ true) ⊎ (among t (u ∷ []) ≡ true) → (among t all ≡ true) ⊎ (t ≡ u)
    last (inl i) = inl i
    last (inr i) = inr (among_one t u i)

    go : (b : Bool) → among t (cond b all (all ++ u ∷ [])) ≡ true → (among t all ≡ true) ⊎ (t ≡ u)
    go true i = inl i
    go false i = last (among_either t all (u ∷ []) i)

module _ (x : Setting) (R : Task → Option Record) (names : List Task) (T : IsTable x.world x.now R names) where
  abbrev Among : List Task → Type 0
  Among ts = (t : Task) → among t ts ≡ true → among t names ≡ true

  under_recorded : (u t : Task) (r : Record) → R u ≡ Some r → HasTask t (evaluation x.world x.now u) → among t names ≡ true
  under_recorded u t r e i =
      let k = standing_recorded x.world x.now R names T u (record { kept = r; is = e }) t i in T.counted t k.kept k.is

  pub recorded_done : (ts : List Task) → AreRecorded R ts → AreDone x.world x.now R ts
  recorded_done ts h = record {
    known = λ t i. let k : (r : Record) × (R t ≡ Some r) = h t i in
        record { recorded = record { kept = k.0; is = k.1 }; right = all_right x.world x.now R names T t (record { kept = k.0; is = k.1 }) };
    done = λ t i. let k : (r : Record) × (R t ≡ Some r) = h t i in T.done t k.0 k.1;
  }

  pub base_among : (done : List Task) → AreRecorded R done → Among (entered_tasks x.world x.now done)
  base_among done h t i =
      let s = (entered_are_reached x.world x.now R done t (recorded_done done h)).0 i in
      let from : (r : Record) × (R s.from ≡ Some r) = h s.from s.listed in
      let k = reached_recorded x.world x.now R names T s.reaches (record { kept = from.0; is = from.1 }) in T.counted t k.kept k.is

  -- one frame enters its task and what it required
  frame_among : (root : Task) (fs : List Frame) (g : Frame) (base : List Task) → GoesOn x R root fs g → among g.task names ≡ true → Among (entered_by base fs)
      → Among (entered_all g.progress.kids (enter g.task (entered_by base fs)))
  frame_among root fs g base G i h t k =
      go (all_split x.world x.now t (needs_of g.seen) (enter g.task (entered_by base fs))
      (subst (λ z. among t (entered_all z (enter g.task (entered_by base fs))) ≡ true) G.kids k))
    where
      mine : (among t (entered_by base fs) ≡ true) ⊎ (t ≡ g.task) → among t names ≡ true
      mine (inl j) = h t j
      mine (inr e) = ap (λ z. among z names) e ∙ i

      go : (among t (enter g.task (entered_by base fs)) ≡ true) ⊎ StandsUnder x.world x.now (needs_of g.seen) t → among t names ≡ true
      go (inl j) = mine (enter_split t g.task (entered_by base fs) j)
      go (inr s) = let r = (G.settled s.from s.listed).recorded in under_recorded s.from t r.kept r.is s.stands

  below_among : (root : Task) (fs : List Frame) (base : List Task) → AllGo x R root fs → Among (tasks_of fs) → Among base → Among (entered_by base fs)
  below_among root [] base G i h = h
  below_among root (g ∷ gs) base G i h =
      frame_among root gs (before_wait g) base G.0 (i g.task (among_here g.task (tasks_of gs)))
      (below_among root gs base G.1 (λ t j. i t (among_there t g.task (tasks_of gs) j)) h)

  pub stack_among : (root : Task) (fs : List Frame) (f : Frame) (base : List Task) → IsStack x R names root fs f → Among base
      → Among (entered_by base (f ∷ fs))
  stack_among root fs f base K h =
      frame_among root fs f base K.goes (K.under_way.counted f.task (among_here f.task (tasks_of fs)))
      (below_among root fs base K.below (λ t j. K.under_way.counted t (among_there t f.task (tasks_of fs) j)) h)

  module _ (done : List Task) (D : AreRecorded R done) (root : Task) (fs : List Frame) (f : Frame) (K : IsStack x R names root fs f) where
    abbrev base : List Task
    base = entered_tasks x.world x.now done

    pub failed_root : (last : List Observation) (e : Outcome) → Ends x.world x.now f last e → is_done e ≡ false → AllEntered x done root names
    failed_root last e h d t i =
        stack_among root fs f base K (base_among done D) t
        (subst (λ z. among t z ≡ true) (failure_enters x R root fs f K.goes last e h d base) i)

    module _ (n : ℕ) (h : How) (u : Task) (l : f.left ≡ suc n) (q : x.now.next f.task f.progress.answers ≡ Require h u) where
      both : (t : Task) → among t (enter u (entered_by base (f ∷ fs))) ≡ true → (among t names ≡ true) ⊎ (t ≡ u)
      both t i = go (enter_split t u (entered_by base (f ∷ fs)) i)
        where
          go : (among t (entered_by base (f ∷ fs)) ≡ true) ⊎ (t ≡ u) → (among t names ≡ true) ⊎ (t ≡ u)
          go (inl j) = inl (stack_among root fs f base K (base_among done D) t j)
          go (inr e) = inr e

      pub cycled_root : among u (tasks_of (f ∷ fs)) ≡ true → AllEntered x done root names
      cycled_root i t k =
          go (both t (subst (λ z. among t z ≡ true) (required_enters x R root fs f K.goes n h u l q (Cycled (round u (tasks_of (f ∷ fs)) []))
          (closed_under x.world x.now (tasks_of (f ∷ fs)) u i) refl base) k))
        where
          go : (among t names ≡ true) ⊎ (t ≡ u) → among t names ≡ true
          go (inl j) = j
          go (inr e) = ap (λ z. among z names) e ∙ K.under_way.counted u i

      pub lost_root : (k : FaultKind) → among u (tasks_of (f ∷ fs)) ≡ false → length (tasks_of (f ∷ fs)) < x.world.most_tasks → 0 < x.world.most_events
          → x.now.next u [] ≡ Fail k → AllEntered x done root (names ++ u ∷ [])
      lost_root k apart few some fails t i =
          go (both t (subst (λ z. among t z ≡ true) (required_enters x R root fs f K.goes n h u l q (Failed u k)
          (new_fails x.world x.now (tasks_of (f ∷ fs)) u k apart few some fails) refl base) i))
        where
          go : (among t names ≡ true) ⊎ (t ≡ u) → among t (names ++ u ∷ []) ≡ true
          go (inl j) = among_left t names (u ∷ []) j
          go (inr e) = among_right t names (u ∷ []) (subst (λ z. among z (u ∷ []) ≡ true) (sym e) (among_here u []))

      -- a new task doesn't stand above, and those that do are fewer than the entered ones
      pub lost_by_names : (k : FaultKind) → among u names ≡ false → length names < x.world.most_tasks → 0 < x.world.most_events
          → x.now.next u [] ≡ Fail k → AllEntered x done root (names ++ u ∷ [])
      lost_by_names k new few some fails =
          lost_root k apart (less (length (tasks_of (f ∷ fs))) (length names) x.world.most_tasks
          (no_more (tasks_of (f ∷ fs)) names K.goes.once K.under_way.counted) few) some fails
        where
          less : (a b c : ℕ) → a ≤ b → b < c → a < c
          less a b c p z = omega arith

          apart : among u (tasks_of (f ∷ fs)) ≡ false
          apart = go (among u (tasks_of (f ∷ fs))) refl
            where
              go : (b : Bool) → among u (tasks_of (f ∷ fs)) ≡ b → among u (tasks_of (f ∷ fs)) ≡ false
              go true i = clash (among u names) (K.under_way.counted u i) new
              go false i = i
