-- What requires a task that doesn't end with a value doesn't either, and no task ends with one that requires itself by others.
use Rattle.std.proofs.Common.{ℕ, suc, ◌≤◌, ◌<◌, ◌≡◌, Bool, true, false, Option, List, [], ◌∷◌, ◌++◌, ◌⊎◌, inl, inr, sym, ◌∙◌, ap, subst, refl, arith}
use Rattle.pie_model.specs.Paths.{among}
use Rattle.pie_model.specs.Tasks.{Task, Value}
use Rattle.pie_model.specs.declared.words.How.{How}
use Rattle.pie_model.specs.declared.words.Event.TheVariants.{Require}
use Rattle.pie_model.specs.declared.words.Outcome.{Outcome}
use Rattle.pie_model.specs.declared.words.Outcome.TheVariants.{Ended, Failed, Cycled, Many}
use Rattle.pie_model.specs.Trees.{Node, outcome_of, trace_of, is_done, levels, required_by}
use Rattle.pie_model.specs.Evaluation.{World, Project, Progress, required, output_answer, evaluation_with, evaluation}
use Rattle.pie_model.specs.Records.{Record, Required, Observation, observed, observations_of, value_stamp, needs_of}
use Rattle.pie_model.specs.Running.{rest_of_run, IsRunning}
use Rattle.pie_model.specs.inner.RecordLaws.{Passes}
use Rattle.pie_model.specs.inner.Stack.{Frame, tasks_of, IsWaiting}
use Rattle.pie_model.specs.inner.Stack.IsWaiting.{nobody, waits}
use Rattle.pie_model.proofs.Basics.{clash, among_here, among_left, among_right, among_split}
use Rattle.pie_model.proofs.BeginLemmas.{required_lower}
use Rattle.pie_model.proofs.Rooms.{room_of_none, alone}
use Rattle.pie_model.proofs.RunningLemmas.{is_answered, ends_as_required}
use Rattle.pie_model.proofs.Ways.{needs_of-observations}
use Rattle.pie_step_laws.proofs.StepLemmas.{needs_of-append}
use Rattle.pie_step_laws.proofs.Tables.{done_plain}
use Rattle.pie_settle_laws.specs.Going.{before_wait}
use Rattle.pie_settle_laws.proofs.Goings.{alone_with}
use Rattle.pie_topdown_laws.specs.Tables.{unrecorded}
use Rattle.pie_topdown_laws.specs.Checks.{Setting, GoesOn}
use Rattle.pie_topdown_laws.specs.Stacks.{AllGo, IsStack}

-- an outcome that is a value
with_value : (e : Outcome) → is_done e ≡ true → (v : Value) × (e ≡ Ended v)
with_value (Ended v) d = (v, refl)
with_value (Failed t k) d = clash false d refl
with_value (Cycled ts) d = clash false d refl
with_value Many d = clash false d refl

-- one task ends with a value, and its evaluation has fewer levels than that of the other
record IsLower (x : Setting) (u t : Task) : Type 0 where
  done : is_done (outcome_of (evaluation x.world x.now u)) ≡ true
  lower : levels (evaluation x.world x.now u) < levels (evaluation x.world x.now t)

-- ---- a task that requires another

module _ (x : Setting) (R : Task → Option Record) (root : Task) (fs : List Frame) (f : Frame) (G : GoesOn x R root fs f) (n : ℕ) (h : How) (u : Task)
    (l : f.left ≡ suc n) (q : x.now.next f.task f.progress.answers ≡ Require h u) where
  abbrev w : World
  w = x.world

  abbrev P : Project
  P = x.now

  -- the required one below it alone
  abbrev below : Node
  below = evaluation_with G.whole_room w P (f.task ∷ []) u

  run : IsRunning w P G.whole_room [] f.task (suc n) f.progress f.seen
  run = alone_with w P R (Passes (unrecorded R)) root fs f G n l

  whole : evaluation w P f.task ≡ evaluation_with (suc G.whole_room) w P [] f.task
  whole = ap (λ m. evaluation_with m w P [] f.task) (room_of_none w ∙ G.is_whole_room)

  -- if it ends with a value
  module _ (d : is_done (outcome_of (evaluation w P f.task)) ≡ true) where
    below_done : is_done (outcome_of below) ≡ true
    below_done = by (is_done (outcome_of below)) refl
      where
        by : (b : Bool) → is_done (outcome_of below) ≡ b → is_done (outcome_of below) ≡ true
        by true e = e
        by false e =
            clash (is_done (outcome_of (evaluation w P f.task))) d
            (ap (λ z. is_done (outcome_of z)) whole
            ∙ ap (λ (r : Record). is_done r.outcome)
            (ends_as_required w P G.whole_room [] f.task n f.progress f.seen h u (outcome_of below) q refl e run)
            ∙ e)

    own : evaluation w P u ≡ below
    own = alone G.whole_room w P (f.task ∷ []) u (fits w.most_tasks G.whole_room G.is_whole_room) (done_plain (outcome_of below) below_done)
      where
        fits : (a b : ℕ) → a ≡ suc b → b ≤ a
        fits a b e = omega arith

    v : (v : Value) × (outcome_of below ≡ Ended v)
    v = with_value (outcome_of below) below_done

    abbrev after : Progress
    after = required f.progress below (output_answer v.0 h)

    abbrev o : Observation
    o = observed (Required h u) (value_stamp w v.0 h)

    answered : IsRunning w P G.whole_room [] f.task n after (f.seen ++ o ∷ [])
    answered = is_answered w P G.whole_room [] f.task n f.progress f.seen h u v.0 q v.1 run

    abbrev rest : List Observation
    rest = observations_of w (rest_of_run w P G.whole_room [] f.task n after)

    is_required : among u (required_by (trace_of (evaluation w P f.task))) ≡ true
    is_required =
        subst (λ z. among u (required_by (trace_of z)) ≡ true) (sym whole)
        (subst (λ z. among u z ≡ true) (needs_of-observations w (trace_of (evaluation_with (suc G.whole_room) w P [] f.task)))
        (subst (λ z. among u (needs_of z) ≡ true) (sym answered.observations)
        (subst (λ z. among u z ≡ true) (sym (needs_of-append (f.seen ++ o ∷ []) rest ∙ ap (λ z. z ++ needs_of rest) (needs_of-append f.seen (o ∷ []))))
        (among_left u (needs_of f.seen ++ u ∷ []) (needs_of rest) (among_right u (needs_of f.seen) (u ∷ []) (among_here u []))))))

    required_done : IsLower x u f.task
    required_done = record {
      done = ap (λ z. is_done (outcome_of z)) own ∙ below_done;
      lower = required_lower w P f.task u (done_plain (outcome_of (evaluation w P f.task)) d) is_required;
    }

-- ---- those that wait

module _ (x : Setting) (R : Task → Option Record) (root : Task) where
  through : (u v t : Task) → IsLower x u v → levels (evaluation x.world x.now v) < levels (evaluation x.world x.now t) → IsLower x u t
  through u v t i below = record { done = i.done; lower = less _ _ _ i.lower below }
    where
      less : (a b c : ℕ) → a < b → b < c → a < c
      less a b c p q = omega arith

  -- where one of them ends with a value, so does the task for which the newest waits
  stack_lower : (fs : List Frame) (u : Task) → IsWaiting x.world x.now root fs u → AllGo x R root fs → (v : Task) → among v (tasks_of fs) ≡ true
      → is_done (outcome_of (evaluation x.world x.now v)) ≡ true → IsLower x u v
  stack_lower [] u nobody A v i d = clash false i refl
  stack_lower (g ∷ gs) u (waits h room is_room ran next below) A v i d =
      by (among_split v g.task (tasks_of gs) i) (λ j. stack_lower gs g.task below A.1 v j d)
    where
      one : is_done (outcome_of (evaluation x.world x.now g.task)) ≡ true → IsLower x u g.task
      one e = required_done x R root gs (before_wait g) A.0 g.left h u refl next e

      by : (v ≡ g.task) ⊎ (among v (tasks_of gs) ≡ true) → (among v (tasks_of gs) ≡ true → IsLower x g.task v) → IsLower x u v
      by (inl e) later =
          subst (IsLower x u) (sym e) (one (subst (λ t. is_done (outcome_of (evaluation x.world x.now t)) ≡ true) e d))
      by (inr j) later = let s = later j in through u g.task v (one s.done) s.lower

  module _ (names : List Task) (fs : List Frame) (f : Frame) (K : IsStack x R names root fs f) where
    -- no task that waits ends with a value where the one on top doesn't
    pub waiting_undone : (v : Task) → among v (tasks_of fs) ≡ true → is_done (outcome_of (evaluation x.world x.now f.task)) ≡ false
        → is_done (outcome_of (evaluation x.world x.now v)) ≡ false
    waiting_undone v i undone = by (is_done (outcome_of (evaluation x.world x.now v))) refl
      where
        by : (b : Bool) → is_done (outcome_of (evaluation x.world x.now v)) ≡ b → is_done (outcome_of (evaluation x.world x.now v)) ≡ false
        by false e = e
        by true e =
            clash (is_done (outcome_of (evaluation x.world x.now f.task))) (stack_lower fs f.task K.goes.waits K.below v i e).done undone

    module _ (n : ℕ) (h : How) (u : Task) (l : f.left ≡ suc n) (q : x.now.next f.task f.progress.answers ≡ Require h u) where
      -- nor does the one on top where one that it requires doesn't
      pub requirer_undone : is_done (outcome_of (evaluation x.world x.now u)) ≡ false → is_done (outcome_of (evaluation x.world x.now f.task)) ≡ false
      requirer_undone undone = by (is_done (outcome_of (evaluation x.world x.now f.task))) refl
        where
          by : (b : Bool) → is_done (outcome_of (evaluation x.world x.now f.task)) ≡ b → is_done (outcome_of (evaluation x.world x.now f.task)) ≡ false
          by false e = e
          by true e = clash (is_done (outcome_of (evaluation x.world x.now u))) (required_done x R root fs f K.goes n h u l q e).done undone

      -- nor one of them that it requires
      pub closing_undone : among u (f.task ∷ tasks_of fs) ≡ true → is_done (outcome_of (evaluation x.world x.now u)) ≡ false
      closing_undone i = by (is_done (outcome_of (evaluation x.world x.now u))) refl
        where
          round : (a b : ℕ) → a < b → b < a → ⊥
          round a b p q = omega arith

          ring : is_done (outcome_of (evaluation x.world x.now u)) ≡ true → (u ≡ f.task) ⊎ (among u (tasks_of fs) ≡ true) → ⊥
          ring d (inl e) =
              let s = required_done x R root fs f K.goes n h u l q (subst (λ t. is_done (outcome_of (evaluation x.world x.now t)) ≡ true) e d) in
              round _ _ s.lower (subst (λ t. levels (evaluation x.world x.now f.task) < levels (evaluation x.world x.now t)) (sym e)
              (subst (λ t. levels (evaluation x.world x.now t) < levels (evaluation x.world x.now f.task)) e s.lower))
          ring d (inr j) =
              let s = stack_lower fs f.task K.goes.waits K.below u j d in
              round _ _ s.lower (required_done x R root fs f K.goes n h u l q s.done).lower

          by : (b : Bool) → is_done (outcome_of (evaluation x.world x.now u)) ≡ b → is_done (outcome_of (evaluation x.world x.now u)) ≡ false
          by false e = e
          by true e = absurd (ring e (among_split u f.task (tasks_of fs) i))
