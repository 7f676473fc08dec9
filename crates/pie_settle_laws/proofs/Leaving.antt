-- How running tasks end: with the records of their evaluations.
use Rattle.std.proofs.Common.{ℕ, suc, ◌≤◌, ◌-◌, ◌≡◌, true, false, Option, None, List, [], ◌∷◌, ◌++◌, length, sym, ◌∙◌, ap, subst, refl, arith}
use Rattle.std.proofs.Common.{append-nil}
use Rattle.pie_model.specs.Tasks.{Task}
use Rattle.pie_model.specs.declared.words.How.{How}
use Rattle.pie_model.specs.declared.words.FaultKind.TheVariants.{Clash, Budget, Big}
use Rattle.pie_model.specs.declared.words.Event.{Event}
use Rattle.pie_model.specs.declared.words.Event.TheVariants.{Done, Fail, LookAt, ListOf, Require}
use Rattle.pie_model.specs.Trees.{Node, Trace, ends, looks, lists, needs, outcome_of, end_of, trace_of, writes_of, is_done, is_plain, HasTask, StandsIn}
use Rattle.pie_model.specs.declared.words.Seen.TheVariants.{Clashing}
use Rattle.pie_model.specs.declared.words.Outcome.{Outcome}
use Rattle.pie_model.specs.declared.words.Outcome.TheVariants.{Ended, Failed, Cycled, Many}
use Rattle.pie_model.specs.Evaluation.{World, Project, Progress, on_seen, on_listing, on_outcome, on_event, evaluation_with, evaluation}
use Rattle.pie_model.specs.Records.{Record, Absent, Required, Observation, observed, observations_of, outcome_stamp, record_of, hashed}
use Rattle.pie_model.specs.inner.Consistent.{IsSettled}
use Rattle.pie_model.specs.Running.{rest_of_run, IsRunning}
use Rattle.pie_model.specs.inner.Stack.{Frame, tasks_of}
use Rattle.pie_model.specs.inner.Stack.IsWaiting.{waits}
use Rattle.pie_model.proofs.Basics.{clash}
use Rattle.pie_model.proofs.Rooms.{room_of_none, alone}
use Rattle.pie_model.proofs.Ways.{task_of-evaluation_with}
use Rattle.pie_settle_laws.specs.Known.{IsKnown, AreCounted}
use Rattle.pie_settle_laws.specs.Going.{IsGoing, AreBusy, Ends, HasLeft}
use Rattle.pie_settle_laws.specs.Going.Ends.{with_value, failing, clashing, listing_too_much, without_events}
use Rattle.pie_settle_laws.proofs.Standing.{stands_down, has_down}
use Rattle.pie_settle_laws.proofs.Goings.{runs_with, placed_below, placed_alone}

-- the rest of a run, below some tasks: it observes this last, writes nothing more and ends so
record RestIs (w : World) (P : Project) (room : ℕ) (above : List Task) (f : Frame) (last : List Observation) (e : Outcome) : Type 0 where
  rest : Trace
  is : rest_of_run w P room above f.task f.left f.progress ≡ rest
  observes : observations_of w rest ≡ last
  unwritten : writes_of rest ≡ []
  outcome : end_of rest ≡ e

module _ (w : World) (P : Project) (room : ℕ) (above : List Task) (f : Frame) where
  -- the rest at an event
  rest_at : (n : ℕ) (e : Event) → f.left ≡ suc n → P.next f.task f.progress.answers ≡ e
      → rest_of_run w P room above f.task f.left f.progress
      ≡ on_event w P (evaluation_with room w P (f.task ∷ above)) f.task f.progress (rest_of_run w P room above f.task n) e
  rest_at n e l h =
      ap (λ m. rest_of_run w P room above f.task m f.progress) l
      ∙ ap (on_event w P (evaluation_with room w P (f.task ∷ above)) f.task f.progress (rest_of_run w P room above f.task n)) h

  rest_ends : (last : List Observation) (e : Outcome) → Ends w P f last e → RestIs w P room above f last e
  rest_ends _ _ (with_value n v l h) =
      record { rest = ends (Ended v); is = rest_at n (Done v) l h; observes = refl; unwritten = refl; outcome = refl }
  rest_ends _ _ (failing n k l h) =
      record { rest = ends (Failed f.task k); is = rest_at n (Fail k) l h; observes = refl; unwritten = refl; outcome = refl }
  rest_ends _ _ (clashing n k p l h v) = record {
    rest = looks k p Clashing (ends (Failed f.task Clash));
    is = rest_at n (LookAt k p) l h ∙ ap (on_seen w f.task k p f.progress (rest_of_run w P room above f.task n)) v;
    observes = refl;
    unwritten = refl;
    outcome = refl;
  }
  rest_ends _ _ (listing_too_much n d l h v) = record {
    rest = lists d None (ends (Failed f.task Big));
    is = rest_at n (ListOf d) l h ∙ ap (on_listing f.task d f.progress (rest_of_run w P room above f.task n)) v;
    observes = refl;
    unwritten = refl;
    outcome = refl;
  }
  rest_ends _ _ (without_events l) = record {
    rest = ends (Failed f.task Budget);
    is = ap (λ m. rest_of_run w P room above f.task m f.progress) l;
    observes = refl;
    unwritten = refl;
    outcome = refl;
  }

  -- after a required task that ended with no value nothing follows
  on_stop : (h : How) (g : Progress) (n : Node) (go : Progress → Trace) (e : Outcome) → is_done e ≡ false → on_outcome h g n go e ≡ ends e
  on_stop h g n go (Ended v) d = clash true refl d
  on_stop h g n go (Failed x k) d = refl
  on_stop h g n go (Cycled ts) d = refl
  on_stop h g n go Many d = refl

  absent_stop : (h : How) (e : Outcome) → is_done e ≡ false → outcome_stamp w h e ≡ Absent
  absent_stop h (Ended v) d = clash true refl d
  absent_stop h (Failed x k) d = refl
  absent_stop h (Cycled ts) d = refl
  absent_stop h Many d = refl

  rest_stops : (n : ℕ) (h : How) (u : Task) (e : Outcome) → f.left ≡ suc n → P.next f.task f.progress.answers ≡ Require h u
      → outcome_of (evaluation_with room w P (f.task ∷ above) u) ≡ e → is_done e ≡ false
      → RestIs w P room above f (observed (Required h u) Absent ∷ []) e
  rest_stops n h u e l q o d = record {
    rest = needs h u (evaluation_with room w P (f.task ∷ above) u) (ends e);
    is = rest_at n (Require h u) l q
        ∙ ap (λ z. needs h u (evaluation_with room w P (f.task ∷ above) u)
        (on_outcome h f.progress (evaluation_with room w P (f.task ∷ above) u) (rest_of_run w P room above f.task n) z)) o
        ∙ ap (needs h u (evaluation_with room w P (f.task ∷ above) u))
        (on_stop h f.progress (evaluation_with room w P (f.task ∷ above) u) (rest_of_run w P room above f.task n) e d);
    observes = ap (λ z. observed (Required h u) z ∷ []) (ap (outcome_stamp w h) o ∙ absent_stop h e d);
    unwritten = refl;
    outcome = refl;
  }

  -- so the evaluation has what was observed and written until then
  module _ (last : List Observation) (e : Outcome) (run : IsRunning w P room above f.task f.left f.progress f.seen) (T : RestIs w P room above f last e) where
    left_writes : writes_of (trace_of (evaluation_with (suc room) w P above f.task)) ≡ f.progress.own
    left_writes =
        run.written ∙ ap (λ z. f.progress.own ++ z) (ap writes_of T.is ∙ T.unwritten) ∙ append-nil f.progress.own

    left_outcome : outcome_of (evaluation_with (suc room) w P above f.task) ≡ e
    left_outcome = run.end ∙ ap end_of T.is ∙ T.outcome

    left_record : record_of w (evaluation_with (suc room) w P above f.task)
        ≡ record { task = f.task; observations = f.seen ++ last; writes = hashed w f.progress.own; outcome = e }
    left_record = λ i. record {
      task = task_of-evaluation_with (suc room) w P above f.task i;
      observations = (run.observations ∙ ap (λ z. f.seen ++ z) (ap (observations_of w) T.is ∙ T.observes)) i;
      writes = hashed w (left_writes i);
      outcome = left_outcome i;
    }

module _ (w : World) (P : Project) (R : Task → Option Record) (busy : Task → Type 0) (base : Task) (fs : List Frame) (f : Frame)
    (G : IsGoing w P R busy base fs f) where
  pub going_stands : HasTask f.task (evaluation w P base)
  going_stands = has_down w P base fs f.task G.waits

  pub required_has : (n : ℕ) (h : How) (u : Task) → f.left ≡ suc n → P.next f.task f.progress.answers ≡ Require h u → HasTask u (evaluation w P base)
  required_has n h u l q = has_down w P base (record f { left = n } ∷ fs) u (waits h G.room G.is_room (runs_with w P R busy base fs f G n l) q G.waits)

  whole_is : evaluation w P f.task ≡ evaluation_with (suc G.whole_room) w P [] f.task
  whole_is = ap (λ n. evaluation_with n w P [] f.task) (room_of_none w ∙ G.is_whole_room)

  has_left : (last : List Observation) (e : Outcome) → RestIs w P G.room (tasks_of fs) f last e → RestIs w P G.whole_room [] f last e
      → HasLeft w P base f last e
  has_left last e below single = record {
    is = ap (record_of w) whole_is ∙ left_record w P G.whole_room [] f last e G.alone single;
    wrote = ap (λ z. writes_of (trace_of z)) whole_is ∙ left_writes w P G.whole_room [] f last e G.alone single;
    stands = λ h. subst (λ z. StandsIn z (evaluation w P base)) (sym (own h)) (stands_down w P base fs f.task G.waits);
  }
    where
      fits : (a b c : ℕ) → a - b ≡ suc c → suc c ≤ a
      fits a b c e = omega arith

      own : is_plain e ≡ true → evaluation w P f.task ≡ evaluation_with (w.most_tasks - length (tasks_of fs)) w P (tasks_of fs) f.task
      own h =
          alone (suc G.room) w P (tasks_of fs) f.task (fits w.most_tasks (length (tasks_of fs)) G.room G.is_room)
          (ap is_plain (left_outcome w P G.room (tasks_of fs) f last e G.runs below) ∙ h)
          ∙ ap (λ n. evaluation_with n w P (tasks_of fs) f.task) (sym G.is_room)

  pub going_ends : (last : List Observation) (e : Outcome) → Ends w P f last e → HasLeft w P base f last e
  going_ends last e h = has_left last e (rest_ends w P G.room (tasks_of fs) f last e h) (rest_ends w P G.whole_room [] f last e h)

  pub going_stops : (held : List Task) → AreCounted w R held → AreBusy busy held (tasks_of (f ∷ fs)) → (n : ℕ) (h : How) (u : Task) (e : Outcome)
      → f.left ≡ suc n → P.next f.task f.progress.answers ≡ Require h u → IsKnown w P R u → IsSettled R busy u → outcome_of (evaluation w P u) ≡ e
      → is_done e ≡ false → HasLeft w P base f (observed (Required h u) Absent ∷ []) e
  going_stops held C B n h u e l q K S o d =
      has_left (observed (Required h u) Absent ∷ []) e
      (rest_stops w P G.room (tasks_of fs) f n h u e l q (ap outcome_of (placed_below w P R busy base fs f G held C B u K S) ∙ o) d)
      (rest_stops w P G.whole_room [] f n h u e l q (ap outcome_of (placed_alone w P R busy base fs f G held C B u K S) ∙ o) d)
