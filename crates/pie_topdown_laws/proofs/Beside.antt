-- A run now goes beside the run in the earlier project, from one observation of the old record to the next.
use Rattle.std.proofs.Common.{ℕ, zero, suc, ◌≡◌, false, Option, Some, None, List, [], ◌∷◌, ◌++◌, sym, ◌∙◌, ap, ap₂, subst, refl}
use Rattle.pie_model.specs.Paths.{Path}
use Rattle.pie_model.specs.Tasks.{Task}
use Rattle.pie_model.specs.declared.words.Look.{Look}
use Rattle.pie_model.specs.declared.words.How.{How}
use Rattle.pie_model.specs.declared.words.Answer.TheVariants.{Wrote}
use Rattle.pie_model.specs.declared.words.Event.{Event}
use Rattle.pie_model.specs.declared.words.Event.TheVariants.{Done, Fail, LookAt, ListOf, Write, Require}
use Rattle.pie_model.specs.Trees.{Node, Trace, needs, outcome_of, end_of, writes_of, is_done}
use Rattle.pie_model.specs.declared.words.Seen.{Seen}
use Rattle.pie_model.specs.declared.words.Seen.TheVariants.{Nothing, Holds, Clashing}
use Rattle.pie_model.specs.declared.words.Outcome.{Outcome}
use Rattle.pie_model.specs.declared.words.Outcome.TheVariants.{Ended, Failed, Cycled, Many}
use Rattle.pie_model.specs.Seen.{visible_at}
use Rattle.pie_model.specs.Evaluation.{World, Project, Progress, wrote, listing, on_seen, on_listing, on_outcome, on_event}
use Rattle.pie_model.specs.Evaluation.{evaluation_with, evaluation}
use Rattle.pie_model.specs.Records.{Stamp, Observation, observations_of}
use Rattle.pie_model.specs.Records.{hashed, Record, record_of}
use Rattle.pie_model.specs.Running.{rest_of_run, IsRunning}
use Rattle.pie_model.specs.Separate.{AllMet}
use Rattle.pie_model.specs.inner.Stack.{Frame}
use Rattle.pie_model.proofs.Basics.{clash}
use Rattle.pie_model.proofs.Rooms.{room_of_none}
use Rattle.pie_model.proofs.RunningLemmas.{writes_contents}
use Rattle.pie_step_laws.specs.Frames.{has_written}
use Rattle.pie_topdown_laws.specs.Beside.{asking, AsksNext, IsAsking, Writes, IsBeside}
use Rattle.pie_topdown_laws.specs.Beside.Writes.{no_more, once_more}

pub never_some : {A : Type 0} (s : Stamp) → None ≡ Some s → A
never_some s h = cc

pub first_same : (o p : Observation) (os ps : List Observation) → o ∷ os ≡ p ∷ ps → o ≡ p
first_same o p os ps h = cc

pub rest_same : (o p : Observation) (os ps : List Observation) → o ∷ os ≡ p ∷ ps → os ≡ ps
rest_same o p os ps h = cc

pub none_left : {A : Type 0} (o : Observation) (os : List Observation) → [] ≡ o ∷ os → A
none_left o os h = cc

-- the rest of a run at an event
pub rest_at : (w : World) (P : Project) (room : ℕ) (above : List Task) (t : Task) (m n : ℕ) (g : Progress) (e : Event) → m ≡ suc n → P.next t g.answers ≡ e
    → rest_of_run w P room above t m g ≡ on_event w P (evaluation_with room w P (t ∷ above)) t g (rest_of_run w P room above t n) e
rest_at w P room above t m n g e l h =
    ap (λ z. rest_of_run w P room above t z g) l
    ∙ ap (on_event w P (evaluation_with room w P (t ∷ above)) t g (rest_of_run w P room above t n)) h

module _ (w : World) (before now : Project) (Met : List ℕ → Type 0) (room : ℕ) (above : List Task) (r : Record) where
  module _ (f : Frame) (rest : List Observation) (B : IsBeside w before now Met room above r f rest) where
    pub old_is : evaluation w before f.task ≡ evaluation_with (suc B.old_room) w before [] f.task
    old_is = ap (λ n. evaluation_with n w before [] f.task) (room_of_none w ∙ B.is_old_room)

    -- what is known of the rest of the old run, in any form of it
    pub record Then (T : Trace) : Type 0 where
      pub comes : observations_of w T ≡ rest
      pub wrote : r.writes ≡ hashed w (B.progress.own ++ writes_of T)
      pub end : end_of T ≡ r.outcome
      pub met : AllMet w Met T

    then_whole : Then (rest_of_run w before B.old_room [] f.task f.left B.progress)
    then_whole = record {
      comes = B.comes;
      wrote = ap (λ z. z.writes) (B.was ∙ ap (record_of w) old_is) ∙ ap (hashed w) B.ran.written;
      end = sym B.ran.end ∙ sym (ap (λ z. z.outcome) (B.was ∙ ap (record_of w) old_is));
      met = B.met_then;
    }

    pub all_observed : r.observations ≡ f.seen ++ rest
    all_observed = ap (λ z. z.observations) (B.was ∙ ap (record_of w) old_is) ∙ B.ran.observations ∙ ap (λ z. f.seen ++ z) B.comes

    -- a rest that ends with no value isn't that of the old run
    pub undone : {A : Type 0} (T : Trace) → Then T → is_done (end_of T) ≡ false → A
    undone T H d = clash (is_done r.outcome) B.done (sym (ap is_done H.end) ∙ d)

    module _ (meaning : before.next f.task ≡ now.next f.task) where
      pub old_next : (e : Event) → now.next f.task f.progress.answers ≡ e → before.next f.task B.progress.answers ≡ e
      old_next e h = ap₂ (λ k a. k a) meaning B.answers ∙ h

      pub then_at : (n : ℕ) (e : Event) → f.left ≡ suc n → now.next f.task f.progress.answers ≡ e
          → Then (on_event w before (evaluation_with B.old_room w before (f.task ∷ [])) f.task B.progress (rest_of_run w before B.old_room [] f.task n) e)
      then_at n e l h = subst Then (rest_at w before B.old_room [] f.task f.left n B.progress e l (old_next e h)) then_whole

      pub met_at : (n : ℕ) (e : Event) → f.left ≡ suc n → now.next f.task f.progress.answers ≡ e
          → AllMet w Met (on_event w now (evaluation_with room w now (f.task ∷ above)) f.task f.progress (rest_of_run w now room above f.task n) e)
      met_at n e l h = subst (AllMet w Met) (rest_at w now room above f.task f.left n f.progress e l h) B.met_now

      pub ran_with : (n : ℕ) → f.left ≡ suc n → IsRunning w before B.old_room [] f.task (suc n) B.progress f.seen
      ran_with n l = subst (λ m. IsRunning w before B.old_room [] f.task m B.progress f.seen) l B.ran

      -- after a write
      write_beside : (n : ℕ) (p : Path) (b : List ℕ) → f.left ≡ suc n → now.next f.task f.progress.answers ≡ Write p b
          → IsBeside w before now Met room above r (has_written f n p b) rest
      write_beside n p b l h = let H = then_at n (Write p b) l h in record {
        was = B.was;
        done = B.done;
        old_room = B.old_room;
        is_old_room = B.is_old_room;
        progress = wrote B.progress p b;
        ran = writes_contents w before B.old_room [] f.task n B.progress f.seen p b (old_next (Write p b) h) (ran_with n l);
        comes = H.comes;
        answers = ap (λ z. z ++ Wrote ∷ []) B.answers;
        own = ap (λ z. z ++ (p, b) ∷ []) B.own;
        met_then = H.met.1;
        met_now = (met_at n (Write p b) l h).1;
      }

      -- ---- what the frame asks

      asks_first : (n : ℕ) (o : Observation) (os : List Observation) → f.left ≡ suc n → now.next f.task f.progress.answers ≡ asking o.query
          → o ∷ os ≡ rest → IsAsking now f rest r.outcome
      asks_first n o os l h e = record { left = n; is_left = l; next = subst (λ z. AsksNext now f z r.outcome) e h }

      look_asks : (n : ℕ) (l : Look) (p : Path) (s : Seen) → f.left ≡ suc n → now.next f.task f.progress.answers ≡ LookAt l p
          → Then (on_seen w f.task l p B.progress (rest_of_run w before B.old_room [] f.task n) s) → IsAsking now f rest r.outcome
      look_asks n l p Nothing k h H = asks_first n _ _ k h H.comes
      look_asks n l p (Holds b m) k h H = asks_first n _ _ k h H.comes
      look_asks n l p Clashing k h H = undone _ H refl

      list_asks : (n : ℕ) (d : Path) (es : Option (List Path)) → f.left ≡ suc n → now.next f.task f.progress.answers ≡ ListOf d
          → Then (on_listing f.task d B.progress (rest_of_run w before B.old_room [] f.task n) es) → IsAsking now f rest r.outcome
      list_asks n d None k h H = undone _ H refl
      list_asks n d (Some es) k h H = asks_first n _ _ k h H.comes

      require_asks : (n : ℕ) (k : How) (u : Task) (c : Node) (e : Outcome) → f.left ≡ suc n → now.next f.task f.progress.answers ≡ Require k u
          → Then (needs k u c (on_outcome k B.progress c (rest_of_run w before B.old_room [] f.task n) e)) → IsAsking now f rest r.outcome
      require_asks n k u c (Ended v) l h H = asks_first n _ _ l h H.comes
      require_asks n k u c (Failed x y) l h H = undone _ H refl
      require_asks n k u c (Cycled ts) l h H = undone _ H refl
      require_asks n k u c Many l h H = undone _ H refl

  -- ---- writes are passed

  pub record IsPast (f : Frame) (rest : List Observation) : Type 0 where
    pub to : Frame
    pub writes : Writes now to f
    pub beside : IsBeside w before now Met room above r to rest
    pub asks : IsAsking now to rest r.outcome
    pub seen : to.seen ≡ f.seen
    pub task : to.task ≡ f.task

  at_once : (f : Frame) (rest : List Observation) → IsBeside w before now Met room above r f rest → IsAsking now f rest r.outcome → IsPast f rest
  at_once f rest B q = record { to = f; writes = no_more; beside = B; asks = q; seen = refl; task = refl }

  module _ (rest : List Observation) (n : ℕ) (again : (g : Frame) → g.left ≡ n → before.next g.task ≡ now.next g.task
      → IsBeside w before now Met room above r g rest → IsPast g rest) (f : Frame) (l : f.left ≡ suc n) (meaning : before.next f.task ≡ now.next f.task)
      (B : IsBeside w before now Met room above r f rest) where
    by_event : (e : Event) → now.next f.task f.progress.answers ≡ e → IsPast f rest
    by_event (Done v) h =
        let H = then_at f rest B meaning n (Done v) l h in
        at_once f rest B (record { left = n; is_left = l; next = subst (λ z. AsksNext now f z r.outcome) H.comes (v, sym H.end, h) })
    by_event (Fail k) h = undone f rest B _ (then_at f rest B meaning n (Fail k) l h) refl
    by_event (LookAt k p) h =
        at_once f rest B (look_asks f rest B meaning n k p (visible_at before.file B.progress.own B.progress.kids p) l h
        (then_at f rest B meaning n (LookAt k p) l h))
    by_event (ListOf d) h =
        at_once f rest B (list_asks f rest B meaning n d (listing w before d) l h (then_at f rest B meaning n (ListOf d) l h))
    by_event (Write p b) h =
        let m = again (has_written f n p b) refl meaning (write_beside f rest B meaning n p b l h) in
        record { to = m.to; writes = once_more n p b l h m.writes; beside = m.beside; asks = m.asks; seen = m.seen; task = m.task }
    by_event (Require k u) h =
        at_once f rest B (require_asks f rest B meaning n k u (evaluation_with B.old_room w before (f.task ∷ []) u)
        (outcome_of (evaluation_with B.old_room w before (f.task ∷ []) u)) l h (then_at f rest B meaning n (Require k u) l h))

  pub past_writes : (n : ℕ) (f : Frame) (rest : List Observation) → f.left ≡ n → before.next f.task ≡ now.next f.task
      → IsBeside w before now Met room above r f rest → IsPast f rest
  past_writes zero f rest l meaning B =
      undone f rest B _ (subst (Then f rest B) (ap (λ z. rest_of_run w before B.old_room [] f.task z B.progress) l) (then_whole f rest B)) refl
  past_writes (suc n) f rest l meaning B =
      by_event rest n (λ g. past_writes n g rest) f l meaning B (now.next f.task f.progress.answers) refl
