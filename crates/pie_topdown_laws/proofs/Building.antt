-- Checks in a build: they go on above those that wait, and end with right records.
use Rattle.std.proofs.Common.{ℕ, suc, ◌<◌, ◌-◌, ◌≡◌, true, false, Option, Some, List, [], ◌∷◌, ◌++◌, length, inl, inr, sym, ◌∙◌, ap, subst, refl, arith, append-nil, append_assoc}
use Rattle.pie_model.specs.Paths.{Path, among}
use Rattle.pie_model.specs.Tasks.{Task, Value}
use Rattle.pie_model.specs.declared.words.How.{How}
use Rattle.pie_model.specs.declared.words.Event.TheVariants.{Done, Require}
use Rattle.pie_model.specs.declared.words.Outcome.{Outcome}
use Rattle.pie_model.specs.declared.words.Outcome.TheVariants.{Ended, Failed, Cycled, Many}
use Rattle.pie_model.specs.Trees.{outcome_of, trace_of, is_done}
use Rattle.pie_model.specs.Evaluation.{World, Project, start, evaluation_with, evaluation_under, evaluation, round}
use Rattle.pie_model.specs.Records.{Query, Looked, Listed, Required, Observation, observed, Record, Stamp, record_of, hashed, needs_of, task_asked}
use Rattle.pie_model.specs.Running.{rest_of_run}
use Rattle.pie_model.specs.StampNow.{Told, Teller, by_evaluation, by_records, stamp_now, outcome_now, asked_before}
use Rattle.pie_model.specs.Separate.{AllMet, NeverWritesWhatItSaw}
use Rattle.pie_model.specs.Reasons.{Differs}
use Rattle.pie_model.specs.inner.RecordLaws.{Passes}
use Rattle.pie_model.specs.inner.Consistent.{IsSettled}
use Rattle.pie_model.specs.inner.CoreLaws.{TellsRight}
use Rattle.pie_model.specs.inner.Steps.{ChangesAt}
use Rattle.pie_model.specs.inner.Stack.{Frame, tasks_of, IsWaiting}
use Rattle.pie_model.proofs.Basics.{clash, among_here}
use Rattle.pie_model.proofs.AgreesLemmas.{stamp_same}
use Rattle.pie_model.proofs.RunningLemmas.{starts, ends_done, ends_in_cycle}
use Rattle.pie_model.proofs.StackLemmas.{sinks}
use Rattle.pie_step_laws.specs.Frames.{begun, set_aside}
use Rattle.pie_step_laws.proofs.StepLemmas.{needs_of-append}
use Rattle.pie_settle_laws.specs.Going.{IsGoing, AreBusy, HasLeft}
use Rattle.pie_settle_laws.specs.Going.Ends.{with_value}
use Rattle.pie_settle_laws.proofs.Goings.{runs_with, new_begins, placed_below, still_going}
use Rattle.pie_settle_laws.proofs.Leaving.{going_ends}
use Rattle.pie_settle_laws.proofs.Standing.{stands_down}
use Rattle.pie_earlier_laws.proofs.Meeting.{tried_met}
use Rattle.pie_topdown_laws.specs.Beside.{IsBeside}
use Rattle.pie_topdown_laws.specs.Tables.{unrecorded, EndsIn, IsSettledTask}
use Rattle.pie_topdown_laws.specs.Checks.{Setting, MetIn, IsOldRecord, GoesOn, AreUnderWay, room_above, IsChecked, WaitsAsCheck}
use Rattle.pie_topdown_laws.specs.CheckLaws.{MayPass, HasStamp, IsRightNow}
use Rattle.pie_topdown_laws.proofs.Beside.{old_is, old_next, ran_with, all_observed, past_writes}
use Rattle.pie_topdown_laws.proofs.Passing.{passes}
use Rattle.pie_topdown_laws.proofs.Along.{asks_for, goes_writing, goes_observing}
use Rattle.pie_topdown_laws.proofs.Tabling.{no_record, settled_task, counted}
use Rattle.pie_topdown_laws.proofs.Checking.{met_begun, begun_beside}

-- the room below a running task, by those that wait
pub below_is : (a b c : ℕ) → a - b ≡ suc c → a - suc b ≡ c
below_is a b c e = omega arith

one_above : (a b c : ℕ) → a - b ≡ suc c → a - b ≡ suc (a - suc b)
one_above a b c e = omega arith

-- what the evaluation of a present root meets is met in that of a task above those that wait down to it
met_under : (x : Setting) (root : Task) (fs : List Frame) (t : Task) → among root x.roots ≡ true → IsWaiting x.world x.now root fs t
    → AllMet x.world (MetIn x) (trace_of (evaluation_under x.world x.now (tasks_of fs) t))
met_under x root fs t i q =
    tried_met x.world x.old x.now x.old_roots x.roots x.besides root (evaluation_under x.world x.now (tasks_of fs) t) (inr i)
    (stands_down x.world x.now root fs t q)

-- a running task may begin again
pub begins_again : (w : World) (P : Project) (R : Task → Option Record) (busy : Task → Type 0) (base : Task) (fs : List Frame) (f : Frame)
    → IsGoing w P R busy base fs f → IsGoing w P R busy base fs (begun w f.task)
begins_again w P R busy base fs f G = record {
  waits = G.waits;
  room = G.room;
  is_room = G.is_room;
  runs = starts w P G.room (tasks_of fs) f.task G.once.0;
  whole_room = G.whole_room;
  is_whole_room = G.is_whole_room;
  alone = starts w P G.whole_room [] f.task refl;
  kids = refl;
  settled = λ u i. clash false i refl;
  once = G.once;
}

-- a record that differs at a place differs
asked_next : (before : List Task) (o : Observation) → asked_before before o.query ≡ before ++ needs_of (o ∷ [])
asked_next before o = go o.query
  where
    go : (q : Query) → asked_before before q ≡ before ++ (task_asked q ++ [])
    go (Looked l p) = sym (append-nil before)
    go (Listed d) = sym (append-nil before)
    go (Required h u) = refl

differs_later : (w : World) (P : Project) (by : Teller) (own : List (Path × List ℕ)) (passed : List Observation) (before : List Task)
    (rest : List Observation) (o : Observation) → (stamp_now w P by own (before ++ needs_of passed) o.query ≡ Some o.stamp → ⊥)
    → Differs w P by own before (passed ++ o ∷ rest)
differs_later w P by own [] before rest o h =
    inl (λ e. h (ap (λ z. stamp_now w P by own z o.query) (append-nil before) ∙ e))
differs_later w P by own (p ∷ ps) before rest o h =
    inr (differs_later w P by own ps (asked_before before p.query) rest o
    (λ e. h (ap (λ z. stamp_now w P by own z o.query) (sym same) ∙ e)))
  where
    same : asked_before before p.query ++ needs_of ps ≡ before ++ needs_of (p ∷ ps)
    same =
        ap (λ z. z ++ needs_of ps) (asked_next before p) ∙ append_assoc before (needs_of (p ∷ [])) (needs_of ps)
        ∙ ap (λ z. before ++ z) (sym (needs_of-append (p ∷ []) ps))

module _ (x : Setting) (R : Task → Option Record) (root : Task) (fs : List Frame) where
  abbrev busy : Task → Type 0
  busy = Passes (unrecorded R)

  -- a running task requires one that stands below it, or itself: the root ends in the cycle
  pub closes : (f : Frame) → GoesOn x R root fs f → (n : ℕ) (h : How) (u : Task) → f.left ≡ suc n
      → x.now.next f.task f.progress.answers ≡ Require h u → among u (f.task ∷ tasks_of fs) ≡ true
      → outcome_of (evaluation x.world x.now root) ≡ Cycled (round u (f.task ∷ tasks_of fs) [])
  closes f G n h u l q i =
      sinks x.world x.now root fs f.task (Cycled (round u (f.task ∷ tasks_of fs) [])) G.waits
      (ap (λ m. outcome_of (evaluation_with m x.world x.now (tasks_of fs) f.task)) G.is_room
      ∙ ends_in_cycle x.world x.now G.room (tasks_of fs) f.task n f.progress f.seen h u q i
      (runs_with x.world x.now R busy root fs f G n l)) refl

module _ (x : Setting) (before : Project) (R : Task → Option Record) (root : Task) (fs : List Frame) (t : Task) (r : Record) where
  abbrev Checked : List Observation → List Observation → Type 0
  Checked passed rest = IsChecked x before R root fs t r passed rest

  meaning_of : IsOldRecord x before t r → (f : Frame) → f.task ≡ t → before.next f.task ≡ x.now.next f.task
  meaning_of O f e = subst (λ z. before.next z ≡ x.now.next z) (sym e) O.meaning

  polite_of : IsOldRecord x before t r → (f : Frame) → f.task ≡ t → NeverWritesWhatItSaw (before.next f.task)
  polite_of O f e = subst (λ z. NeverWritesWhatItSaw (before.next z)) (sym e) O.polite

  arrive : IsOldRecord x before t r → (f : Frame) (passed rest : List Observation) → f.task ≡ t → f.seen ≡ passed → GoesOn x R root fs f
      → IsBeside x.world before x.now (MetIn x) (room_above x.world fs) (tasks_of fs) r f rest → Checked passed rest
  arrive O f passed rest e s G B =
      let p = past_writes x.world before x.now (MetIn x) (room_above x.world fs) (tasks_of fs) r f.left f rest refl (meaning_of O f e) B in
      record {
        frame = p.to;
        task = p.task ∙ e;
        seen = p.seen ∙ s;
        goes = goes_writing x.world x.now R (Passes (unrecorded R)) root fs p.to f p.writes G;
        beside = p.beside;
        asks = p.asks;
      }

  -- ---- begin

  pub check_begins : among root x.roots ≡ true → GoesOn x R root fs (begun x.world t) → IsOldRecord x before t r → Checked [] r.observations
  check_begins i G O = arrive O (begun x.world t) [] r.observations refl refl G (begun_beside x before (room_above x.world fs) (tasks_of fs) t r O met)
    where
      met : AllMet x.world (MetIn x) (rest_of_run x.world x.now (room_above x.world fs) (tasks_of fs) t x.world.most_events start)
      met = met_begun x.world x.now (room_above x.world fs) (tasks_of fs) t G.once.0 (MetIn x)
          (subst (λ n. AllMet x.world (MetIn x) (trace_of (evaluation_with n x.world x.now (tasks_of fs) t)))
          (one_above x.world.most_tasks (length (tasks_of fs)) G.room G.is_room) (met_under x root fs t i G.waits))

  -- ---- pass

  under_frame : (names : List Task) (f : Frame) → f.task ≡ t → AreUnderWay R names (t ∷ tasks_of fs) → AreUnderWay R names (tasks_of (f ∷ fs))
  under_frame names f e B = subst (λ z. AreBusy (Passes (unrecorded R)) names (z ∷ tasks_of fs)) (sym e) B

  module _ (names : List Task) (passed rest : List Observation) (o : Observation) (M : MayPass x before R names root fs t r passed rest o) where
    abbrev frame : Frame
    frame = M.checked.frame

    asked_settled : (h : How) (u : Task) → o.query ≡ Required h u → IsSettledTask x.world x.now R u
    asked_settled h u e =
        settled_task x.world x.now R names M.table u (M.recorded u (subst (λ q. among u (task_asked q) ≡ true) (sym e) (among_here u [])))

    passed_settled : (u : Task) → among u (needs_of passed) ≡ true → IsSettledTask x.world x.now R u
    passed_settled u i =
        settled_task x.world x.now R names M.table u
        (M.checked.goes.settled u (subst (λ z. among u (needs_of z) ≡ true) (sym M.checked.seen) i)).recorded

    placed : (h : How) (u : Task) → o.query ≡ Required h u
        → evaluation_with (room_above x.world fs) x.world x.now (frame.task ∷ tasks_of fs) u ≡ evaluation x.world x.now u
    placed h u e =
        let s = asked_settled h u e in
        ap (λ n. evaluation_with n x.world x.now (frame.task ∷ tasks_of fs) u)
        (below_is x.world.most_tasks (length (tasks_of fs)) M.checked.goes.room M.checked.goes.is_room)
        ∙ placed_below x.world x.now R (Passes (unrecorded R)) root fs frame M.checked.goes names (counted x.world x.now R names M.table)
        (under_frame names frame M.checked.task M.under_way) u s.known s.settled

    pub place_passes : HasStamp x (by_evaluation x.world x.now) r passed o → Checked (passed ++ o ∷ []) rest
    place_passes agree =
        let p = passes x.world before x.now (MetIn x) M.apart.stamps M.apart.listings (room_above x.world fs) (tasks_of fs) r frame
        (meaning_of M.old frame M.checked.task) (polite_of M.old frame M.checked.task) M.checked.goes.kids M.checked.asks.left M.checked.asks.is_left
        o.stamp rest o.query M.checked.beside M.checked.asks.next placed
        (subst (λ z. stamp_now x.world x.now (by_evaluation x.world x.now) r.writes (needs_of z) o.query ≡ Some o.stamp) (sym M.checked.seen) agree) in
        arrive M.old p.to (passed ++ o ∷ []) rest (p.task ∙ M.checked.task) (p.seen ∙ ap (λ z. z ++ o ∷ []) M.checked.seen)
        (goes_observing x.world x.now R (Passes (unrecorded R)) root fs names (counted x.world x.now R names M.table) frame p.to
        (under_frame names frame M.checked.task M.under_way)
        (λ h u q. let s = asked_settled h u (asks_for o.query h u (sym M.checked.asks.next ∙ q)) in (s.known, s.settled)) p.observes M.checked.goes)
        p.beside

    pub stamps_same : (told : List Task → Path → Told) → TellsRight R told
        → stamp_now x.world x.now (by_records R told) r.writes (needs_of passed) o.query
        ≡ stamp_now x.world x.now (by_evaluation x.world x.now) r.writes (needs_of passed) o.query
    stamps_same told tells =
        stamp_same x.world x.now x.now R told tells r.writes (needs_of passed) o.query
        (λ u i. let k = (passed_settled u i).known in record { recorded = k.recorded; right = k.right })
        (λ u i. let k = (settled_task x.world x.now R names M.table u (M.recorded u i)).known in record { recorded = k.recorded; right = k.right })

  -- ---- a reason

  -- what it passed, and what comes next
  observed_so : (passed : List Observation) (rest : List Observation) → Checked passed rest → r.observations ≡ passed ++ rest
  observed_so passed rest c =
      all_observed x.world before x.now (MetIn x) (room_above x.world fs) (tasks_of fs) r c.frame rest c.beside ∙ ap (λ z. z ++ rest) c.seen

  -- a stamp that isn't the one of now is a reason
  stamp_differs : (passed rest : List Observation) (o : Observation) → Checked passed (o ∷ rest) → (HasStamp x (by_evaluation x.world x.now) r passed o → ⊥)
      → Differs x.world x.now (by_evaluation x.world x.now) r.writes [] r.observations
  stamp_differs passed rest o c not =
      subst (Differs x.world x.now (by_evaluation x.world x.now) r.writes []) (sym (observed_so passed (o ∷ rest) c))
      (differs_later x.world x.now (by_evaluation x.world x.now) r.writes passed [] rest o not)

  pub is_reason : (names : List Task) (passed rest : List Observation) (o : Observation) (M : MayPass x before R names root fs t r passed rest o)
      (told : List Task → Path → Told) → TellsRight R told → (HasStamp x (by_records R told) r passed o → ⊥)
      → Differs x.world x.now (by_evaluation x.world x.now) r.writes [] r.observations
  is_reason names passed rest o M told tells not =
      stamp_differs passed rest o M.checked (λ h. not (stamps_same names passed rest o M told tells ∙ h))

  -- and so is a required task that doesn't end with a value now
  pub required_reason : (passed rest : List Observation) (c : Checked passed rest) (h : How) (u : Task)
      → x.now.next c.frame.task c.frame.progress.answers ≡ Require h u → is_done (outcome_of (evaluation x.world x.now u)) ≡ false
      → Differs x.world x.now (by_evaluation x.world x.now) r.writes [] r.observations
  required_reason passed [] c h u next undone = absurd (never c.asks.next.0 (sym c.asks.next.2 ∙ next))
    where
      never : (v : Value) → Done v ≡ Require h u → ⊥
      never v e = cc
  required_reason passed (o ∷ rest) c h u next undone =
      stamp_differs passed rest o c
      (λ e. no_stamp (outcome_of (evaluation x.world x.now u)) o.stamp undone
      (subst (λ z. stamp_now x.world x.now (by_evaluation x.world x.now) r.writes (needs_of passed) z ≡ Some o.stamp)
      (asks_for o.query h u (sym c.asks.next ∙ next)) e))
    where
      no_stamp : (e : Outcome) (s : Stamp) → is_done e ≡ false → outcome_now x.world h e ≡ Some s → ⊥
      no_stamp (Ended v) s d i = clash true refl d
      no_stamp (Failed a k) s d i = cc
      no_stamp (Cycled ts) s d i = cc
      no_stamp Many s d i = cc

  -- ---- require

  pub required_begins : (names : List Task) (passed rest : List Observation) (h : How) (u : Task) (s : Stamp) → AreUnderWay R names (t ∷ tasks_of fs)
      → (c : Checked passed (observed (Required h u) s ∷ rest)) → among u names ≡ false → length names < x.world.most_tasks
      → GoesOn x R root (set_aside c.frame c.asks.left ∷ fs) (begun x.world u)
  required_begins names passed rest h u s B c new few =
      new_begins x.world x.now R (Passes (unrecorded R)) root fs c.frame c.goes names (under_frame names c.frame c.task B) c.asks.left h u c.asks.is_left
      c.asks.next new few

  pub required_closes : (passed rest : List Observation) (h : How) (u : Task) (s : Stamp) → Checked passed (observed (Required h u) s ∷ rest)
      → among u (t ∷ tasks_of fs) ≡ true → outcome_of (evaluation x.world x.now root) ≡ Cycled (round u (t ∷ tasks_of fs) [])
  required_closes passed rest h u s c i =
      closes x R root fs c.frame c.goes c.asks.left h u c.asks.is_left c.asks.next (subst (λ z. among u (z ∷ tasks_of fs) ≡ true) (sym c.task) i)
      ∙ ap (λ z. Cycled (round u (z ∷ tasks_of fs) [])) c.task

  -- ---- end

  pub gives_way : (passed rest : List Observation) → Checked passed rest → GoesOn x R root fs (begun x.world t)
  gives_way passed rest c =
      subst (λ z. GoesOn x R root fs (begun x.world z)) c.task (begins_again x.world x.now R (Passes (unrecorded R)) root fs c.frame c.goes)

  module _ (passed : List Observation) (c : Checked passed []) where
    abbrev v : Value
    v = c.asks.next.0

    left_now : HasLeft x.world x.now root c.frame [] (Ended v)
    left_now = going_ends x.world x.now R (Passes (unrecorded R)) root fs c.frame c.goes [] (Ended v) (with_value c.asks.left v c.asks.is_left c.asks.next.2)

    pub stands_right : before.next t ≡ x.now.next t → IsRightNow x root t r
    stands_right meaning = subst (λ z. IsRightNow x root z r) c.task (record {
      is = c.beside.was
          ∙ ap (record_of x.world) (old_is x.world before x.now (MetIn x) (room_above x.world fs) (tasks_of fs) r c.frame [] c.beside)
          ∙ ends_done x.world before c.beside.old_room [] c.frame.task c.asks.left c.beside.progress c.frame.seen v
          (old_next x.world before x.now (MetIn x) (room_above x.world fs) (tasks_of fs) r c.frame [] c.beside
          (subst (λ z. before.next z ≡ x.now.next z) (sym c.task) meaning) (Done v) c.asks.next.2)
          (ran_with x.world before x.now (MetIn x) (room_above x.world fs) (tasks_of fs) r c.frame [] c.beside
          (subst (λ z. before.next z ≡ x.now.next z) (sym c.task) meaning) c.asks.left c.asks.is_left)
          ∙ (λ i. record {
            task = c.frame.task;
            observations = sym (append-nil c.frame.seen) i;
            writes = hashed x.world (c.beside.own i);
            outcome = Ended v;
          })
          ∙ sym left_now.is;
      stands = left_now.stands refl;
    })

    pub stands_ends : before.next t ≡ x.now.next t → (S : Task → Option Record) (names : List Task) → AreUnderWay R names (t ∷ tasks_of fs) → ChangesAt R S t r
        → EndsIn x.world x.now R S names t r
    stands_ends meaning S names B change = record {
      entered = B.counted t (among_here t (tasks_of fs));
      unrecorded = no_record R t (B.each t (among_here t (tasks_of fs)));
      changes = change;
      right = (stands_right meaning).is;
      done = c.beside.done;
      closed = λ u i. (c.goes.settled u (subst (λ z. among u (needs_of z) ≡ true)
          (all_observed x.world before x.now (MetIn x) (room_above x.world fs) (tasks_of fs) r c.frame [] c.beside ∙ append-nil c.frame.seen) i)).recorded;
    }

  -- ---- while another ends

  pub waits_still : (S : Task → Option Record) → ((u : Task) → IsSettled R (Passes (unrecorded R)) u → IsSettled S (Passes (unrecorded S)) u)
      → (passed rest : List Observation) (g : Frame) → WaitsAsCheck x before R root fs t r passed rest g
      → WaitsAsCheck x before S root fs t r passed rest g
  waits_still S k passed rest g W = record {
    check = record {
      frame = W.check.frame;
      task = W.check.task;
      seen = W.check.seen;
      goes = still_going x.world x.now R S (Passes (unrecorded R)) (Passes (unrecorded S)) root fs W.check.frame k W.check.goes;
      beside = W.check.beside;
      asks = W.check.asks;
    };
    is = W.is;
  }
