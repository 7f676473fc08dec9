-- How tasks and roots end.
use Rattle.std.proofs.Common.{ℕ, suc, ◌≤◌, ◌-◌, ◌≡◌, Bool, true, false, cond, Option, Some, None, List, [], ◌∷◌, ◌++◌, length, ◌⊎◌, inl, inr, sym, ◌∙◌, ap}
use Rattle.std.proofs.Common.{subst, refl, arith, bytes_eq, append-nil, append_assoc, reverse}
use Rattle.std.proofs.lemmas.List.{reverse-append}
use Rattle.pie_model.specs.Paths.{Path, among}
use Rattle.pie_model.specs.Tasks.{Task, Value}
use Rattle.pie_model.specs.declared.words.Look.{Look}
use Rattle.pie_model.specs.declared.words.How.{How}
use Rattle.pie_model.specs.declared.words.FaultKind.{FaultKind}
use Rattle.pie_model.specs.declared.words.FaultKind.TheVariants.{Clash, Budget, Big}
use Rattle.pie_model.specs.declared.words.Event.{Event}
use Rattle.pie_model.specs.declared.words.Event.TheVariants.{Done, Fail, LookAt, ListOf, Require}
use Rattle.pie_model.specs.Trees.{Node, node, Trace, ends, looks, lists, needs, outcome_of, end_of, task_of, trace_of, writes_of, is_done, is_plain, entered}
use Rattle.pie_model.specs.Trees.{entered_below, enter}
use Rattle.pie_model.specs.declared.words.Seen.TheVariants.{Clashing}
use Rattle.pie_model.specs.declared.words.Outcome.{Outcome}
use Rattle.pie_model.specs.declared.words.Outcome.TheVariants.{Ended, Failed, Cycled}
use Rattle.pie_model.specs.Seen.{visible_at}
use Rattle.pie_model.specs.Evaluation.{World, Project, required, output_answer, listing, round, on_seen, on_listing, on_outcome, on_event, evaluation_with}
use Rattle.pie_model.specs.Evaluation.{evaluation_under, evaluation}
use Rattle.pie_model.specs.Records.{Record, record_of, Required, observed, value_stamp, needs_of}
use Rattle.pie_model.specs.inner.Consistent.{IsRecorded}
use Rattle.pie_model.specs.inner.Steps.{ChangesAt}
use Rattle.pie_model.specs.Running.{IsRunning, rest_of_run}
use Rattle.pie_model.specs.inner.Stack.{Frame, tasks_of, entered_by, IsWaiting, Begins}
use Rattle.pie_model.specs.inner.Stack.IsWaiting.{nobody, waits}
use Rattle.pie_model.proofs.Basics.{clash, apart_rest, front_or, among_here, among_there, among_split, same_bytes, bytes_same}
use Rattle.pie_model.proofs.LooksLemmas.{some_same}
use Rattle.pie_model.proofs.MovedLemmas.{opened_among}
use Rattle.pie_model.proofs.Rooms.{alone}
use Rattle.pie_model.proofs.Ways.{task_of-evaluation_with, task_of-evaluation}
use Rattle.pie_model.proofs.RunningLemmas.{entered_all-end, is_answered, ends_done}
use Rattle.pie_model.proofs.StackLemmas.{sinks, sinks_entered, sinks_begins, begins_more, below_begins}
use Rattle.pie_step_laws.specs.Table.{IsTable, Rests}
use Rattle.pie_step_laws.specs.Frames.{was_answered, set_aside, record_left, HasItsKids, HaveTheirKids}
use Rattle.pie_step_laws.specs.UnderWay.{UnderWay, HasEnded}
use Rattle.pie_step_laws.specs.EndLaws.{Requires}
use Rattle.pie_step_laws.proofs.Tables.{adds_nothing, none_some}
use Rattle.pie_step_laws.proofs.StepLemmas.{kids_answered, runs_with}

-- what a waiting frame waits for
pub record WaitsFor (w : World) (P : Project) (root : Task) (g : Frame) (gs : List Frame) (u : Task) : Type 0 where
  pub how : How
  pub room : ℕ
  pub is_room : w.most_tasks - length (tasks_of gs) ≡ suc room
  pub runs : IsRunning w P room (tasks_of gs) g.task (suc g.left) g.progress g.seen
  pub next : P.next g.task g.progress.answers ≡ Require how u
  pub below : IsWaiting w P root gs g.task

pub waiting_for : (w : World) (P : Project) (root : Task) (g : Frame) (gs : List Frame) (u : Task) → IsWaiting w P root (g ∷ gs) u
    → WaitsFor w P root g gs u
waiting_for w P root g gs u (waits h room i r n b) = record { how = h; room = room; is_room = i; runs = r; next = n; below = b }

pub waiting_root : (w : World) (P : Project) (root u : Task) → IsWaiting w P root [] u → u ≡ root
waiting_root w P root u nobody = refl

pub frame_waits : (w : World) (P : Project) (root : Task) (g : Frame) (gs : List Frame) (u : Task) → IsWaiting w P root (g ∷ gs) u → Requires P g u
frame_waits w P root g gs u (waits h room i r n b) = record { how = h; next = n }

-- ---- a table with one more record

module _ (R S : Task → Option Record) (t : Task) (new : Record) (C : ChangesAt R S t new) where
  changed : (x : Task) → (x ≡ t) ⊎ (S x ≡ R x)
  changed x = go (bytes_eq x t) refl
    where
      go : (b : Bool) → bytes_eq x t ≡ b → (x ≡ t) ⊎ (S x ≡ R x)
      go true e = inl (same_bytes x t e)
      go false e = inr (C.others x (λ q. clash (bytes_eq x t) (subst (λ z. bytes_eq x z ≡ true) q (bytes_same x)) e))

  pub stays_recorded : (x : Task) → IsRecorded R x → IsRecorded S x
  stays_recorded x k = go (changed x)
    where
      go : (x ≡ t) ⊎ (S x ≡ R x) → IsRecorded S x
      go (inl e) = record { kept = new; is = ap S e ∙ C.now }
      go (inr e) = record { kept = k.kept; is = e ∙ k.is }

  pub one_more_recorded : (w : World) (P : Project) (names : List Task) → IsTable w P R names → among t names ≡ true
      → new ≡ record_of w (evaluation w P t) → is_done (outcome_of (evaluation w P t)) ≡ true
      → ((u : Task) → among u (needs_of new.observations) ≡ true → IsRecorded R u) → IsTable w P S names
  one_more_recorded w P names T i right done closed = record {
    right = λ x r e. by_right x r e (changed x);
    done = λ x r e. by_done x r e (changed x);
    closed = λ x r u e k. stays_recorded u (by_closed x r u e k (changed x));
    counted = λ x r e. by_counted x r e (changed x);
    distinct = T.distinct;
    few = T.few;
  }
    where
      is_new : (x : Task) (r : Record) → S x ≡ Some r → x ≡ t → r ≡ new
      is_new x r e q = some_same r new (sym e ∙ ap S q ∙ C.now)

      by_right : (x : Task) (r : Record) → S x ≡ Some r → (x ≡ t) ⊎ (S x ≡ R x) → r ≡ record_of w (evaluation w P x)
      by_right x r e (inl q) = is_new x r e q ∙ right ∙ ap (λ z. record_of w (evaluation w P z)) (sym q)
      by_right x r e (inr q) = T.right x r (sym q ∙ e)

      by_done : (x : Task) (r : Record) → S x ≡ Some r → (x ≡ t) ⊎ (S x ≡ R x) → is_done (outcome_of (evaluation w P x)) ≡ true
      by_done x r e (inl q) = ap (λ z. is_done (outcome_of (evaluation w P z))) q ∙ done
      by_done x r e (inr q) = T.done x r (sym q ∙ e)

      by_closed : (x : Task) (r : Record) (u : Task) → S x ≡ Some r → among u (needs_of r.observations) ≡ true → (x ≡ t) ⊎ (S x ≡ R x)
          → IsRecorded R u
      by_closed x r u e k (inl q) = closed u (subst (λ z. among u (needs_of z.observations) ≡ true) (is_new x r e q) k)
      by_closed x r u e k (inr q) = T.closed x r u (sym q ∙ e) k

      by_counted : (x : Task) (r : Record) → S x ≡ Some r → (x ≡ t) ⊎ (S x ≡ R x) → among x names ≡ true
      by_counted x r e (inl q) = subst (λ z. among z names ≡ true) (sym q) i
      by_counted x r e (inr q) = T.counted x r (sym q ∙ e)

  kids_stay : (w : World) (P : Project) (f : Frame) → HasItsKids w P R f → HasItsKids w P S f
  kids_stay w P f k = record { kids = k.kids; recorded = λ u i. stays_recorded u (k.recorded u i) }

  pub all_kids_stay : (w : World) (P : Project) (fs : List Frame) → HaveTheirKids w P R fs → HaveTheirKids w P S fs
  all_kids_stay w P [] k = tt
  all_kids_stay w P (f ∷ fs) k = (kids_stay w P f k.0, all_kids_stay w P fs k.1)

-- a tree enters its own task first
pub enters_itself : (x : Node) (u : Task) (all : List Task) → task_of x ≡ u → Begins (enter u all) (entered x all)
enters_itself (node t k) u all e =
    subst (λ z. Begins (enter z all) (entered_below k (enter t all))) e (below_begins k (enter t all))

pub enter_new : (u : Task) (names : List Task) → among u names ≡ false → enter u names ≡ names ++ u ∷ []
enter_new u names h = ap (λ b. cond b names (names ++ u ∷ [])) h

pub enter_old : (u : Task) (names : List Task) → among u names ≡ true → enter u names ≡ names
enter_old u names h = ap (λ b. cond b names (names ++ u ∷ [])) h

module _ (w : World) (P : Project) (root : Task) (base : List Task) (R : Task → Option Record) (names : List Task) (fs : List Frame) (f : Frame)
    (U : UnderWay w P root base R names fs f) where
  under : evaluation_under w P (tasks_of fs) f.task ≡ evaluation_with (suc U.room) w P (tasks_of fs) f.task
  under = ap (λ n. evaluation_with n w P (tasks_of fs) f.task) U.is_room

  -- the rest of the run at an event
  rest_at : (n : ℕ) (e : Event) → f.left ≡ suc n → P.next f.task f.progress.answers ≡ e
      → rest_of_run w P U.room (tasks_of fs) f.task f.left f.progress
      ≡ on_event w P (evaluation_with U.room w P (f.task ∷ tasks_of fs)) f.task f.progress (rest_of_run w P U.room (tasks_of fs) f.task n) e
  rest_at n e l q =
      ap (λ m. rest_of_run w P U.room (tasks_of fs) f.task m f.progress) l
      ∙ ap (on_event w P (evaluation_with U.room w P (f.task ∷ tasks_of fs)) f.task f.progress (rest_of_run w P U.room (tasks_of fs) f.task n)) q

  -- where the rest enters nothing and ends with no value, so does the root
  stops : (T : Trace) (e : Outcome) → rest_of_run w P U.room (tasks_of fs) f.task f.left f.progress ≡ T → end_of T ≡ e → is_done e ≡ false
      → entered_below T names ≡ names → HasEnded w P root base names e
  stops T e t q d k = record {
    outcome = sinks w P root fs f.task e U.waits ends_so d;
    enters = sinks_entered w P root base fs f.task e U.waits ends_so d
        ∙ ap (λ x. entered x (entered_by base fs)) under
        ∙ U.runs.enters (entered_by base fs)
        ∙ ap (λ x. entered_below x (entered_by base (f ∷ fs))) t
        ∙ ap (entered_below T) (sym U.order)
        ∙ k;
    few = U.table.few;
  }
    where
      ends_so : outcome_of (evaluation_under w P (tasks_of fs) f.task) ≡ e
      ends_so = ap outcome_of under ∙ U.runs.end ∙ ap end_of t ∙ q

  pub failed : (n : ℕ) (k : FaultKind) → f.left ≡ suc n → P.next f.task f.progress.answers ≡ Fail k → HasEnded w P root base names (Failed f.task k)
  failed n k l q = stops (ends (Failed f.task k)) (Failed f.task k) (rest_at n (Fail k) l q) refl refl refl

  pub ran_out : f.left ≡ 0 → HasEnded w P root base names (Failed f.task Budget)
  ran_out l =
      stops (ends (Failed f.task Budget)) (Failed f.task Budget) (ap (λ m. rest_of_run w P U.room (tasks_of fs) f.task m f.progress) l) refl refl refl

  pub clashes : (n : ℕ) (l : Look) (p : Path) → f.left ≡ suc n → P.next f.task f.progress.answers ≡ LookAt l p
      → visible_at P.file f.progress.own f.progress.kids p ≡ Clashing → HasEnded w P root base names (Failed f.task Clash)
  clashes n l p e q v =
      stops (looks l p Clashing (ends (Failed f.task Clash))) (Failed f.task Clash)
      (rest_at n (LookAt l p) e q ∙ ap (on_seen w f.task l p f.progress (rest_of_run w P U.room (tasks_of fs) f.task n)) v) refl refl refl

  pub lists_too_much : (n : ℕ) (d : Path) → f.left ≡ suc n → P.next f.task f.progress.answers ≡ ListOf d → listing w P d ≡ None
      → HasEnded w P root base names (Failed f.task Big)
  lists_too_much n d e q v =
      stops (lists d None (ends (Failed f.task Big))) (Failed f.task Big)
      (rest_at n (ListOf d) e q ∙ ap (on_listing f.task d f.progress (rest_of_run w P U.room (tasks_of fs) f.task n)) v) refl refl refl

  -- a task that was entered and is not recorded stands on the stack
  on_stack : (u : Task) → among u names ≡ true → R u ≡ None → among u (f.task ∷ tasks_of fs) ≡ true
  on_stack u i e = go (U.covered u i)
    where
      go : IsRecorded R u ⊎ (among u (f.task ∷ tasks_of fs) ≡ true) → among u (f.task ∷ tasks_of fs) ≡ true
      go (inl k) = none_some (R u) k.kept e k.is
      go (inr k) = k

  pub ends_in_a_cycle : (n : ℕ) (h : How) (u : Task) → f.left ≡ suc n → P.next f.task f.progress.answers ≡ Require h u → among u names ≡ true
      → R u ≡ None → HasEnded w P root base names (Cycled (round u (f.task ∷ tasks_of fs) []))
  ends_in_a_cycle n h u l q i e =
      stops (needs h u (node u (ends (Cycled (round u (f.task ∷ tasks_of fs) [])))) (ends (Cycled (round u (f.task ∷ tasks_of fs) []))))
      (Cycled (round u (f.task ∷ tasks_of fs) []))
      (rest_at n (Require h u) l q
      ∙ ap (λ x. needs h u x (on_outcome h f.progress x (rest_of_run w P U.room (tasks_of fs) f.task n) (outcome_of x)))
      (opened_among U.room w P (f.task ∷ tasks_of fs) u (on_stack u i e)))
      refl refl (enter_old u names i)

  -- a new task that is required is entered, whatever follows
  pub enters_one_more : (n : ℕ) (h : How) (u : Task) → f.left ≡ suc n → P.next f.task f.progress.answers ≡ Require h u → among u names ≡ false
      → Begins (names ++ u ∷ []) (entered (evaluation w P root) base)
  enters_one_more n h u l q new =
      begins_more (names ++ u ∷ []) (entered child (entered_by base (f ∷ fs))) (entered (evaluation w P root) base)
      (subst (λ z. Begins z (entered child (entered_by base (f ∷ fs)))) (enter_new u names new)
      (subst (λ z. Begins (enter u z) (entered child (entered_by base (f ∷ fs)))) (sym U.order)
      (enters_itself child u (entered_by base (f ∷ fs)) (task_of-evaluation_with (w.most_tasks - length (f.task ∷ tasks_of fs)) w P (f.task ∷ tasks_of fs) u))))
      (sinks_begins w P root base (set_aside f n ∷ fs) u (waits h U.room U.is_room (runs_with w P root base R names fs f U n l) q U.waits))
    where
      child : Node
      child = evaluation_under w P (f.task ∷ tasks_of fs) u

  -- ---- the running task ends with a value

  module _ (n : ℕ) (v : Value) (l : f.left ≡ suc n) (q : P.next f.task f.progress.answers ≡ Done v) where
    record_below : record_of w (evaluation_with (suc U.room) w P (tasks_of fs) f.task) ≡ record_left w f v
    record_below = ends_done w P U.room (tasks_of fs) f.task n f.progress f.seen v q (runs_with w P root base R names fs f U n l)

    pub own_evaluation : evaluation w P f.task ≡ evaluation_with (suc U.room) w P (tasks_of fs) f.task
    own_evaluation =
        alone (suc U.room) w P (tasks_of fs) f.task (fits w.most_tasks (length (tasks_of fs)) U.room U.is_room) (ap (λ z. is_plain z.outcome) record_below)
      where
        fits : (a b c : ℕ) → a - b ≡ suc c → suc c ≤ a
        fits a b c e = omega arith

    pub own_record : record_of w (evaluation w P f.task) ≡ record_left w f v
    own_record = ap (record_of w) own_evaluation ∙ record_below

    pub own_outcome : outcome_of (evaluation w P f.task) ≡ Ended v
    own_outcome = ap (λ z. z.outcome) own_record

    pub enters_own : entered (evaluation w P f.task) (entered_by base fs) ≡ names
    enters_own =
        ap (λ x. entered x (entered_by base fs)) own_evaluation
        ∙ U.runs.enters (entered_by base fs)
        ∙ ap (λ T. entered_below T (entered_by base (f ∷ fs))) (rest_at n (Done v) l q)
        ∙ sym U.order

    pub own_writes : writes_of (trace_of (evaluation w P f.task)) ≡ f.progress.own
    own_writes =
        ap (λ x. writes_of (trace_of x)) own_evaluation
        ∙ U.runs.written
        ∙ ap (λ T. f.progress.own ++ writes_of T) (rest_at n (Done v) l q)
        ∙ append-nil f.progress.own

    module _ (S : Task → Option Record) (C : ChangesAt R S f.task (record_left w f v)) where
      pub table_after : IsTable w P S names
      table_after =
          one_more_recorded R S f.task (record_left w f v) C w P names U.table (U.stacked f.task (among_here f.task (tasks_of fs))) (sym own_record)
          (ap is_done own_outcome) U.kids.0.recorded

      pub is_recorded : IsRecorded S f.task
      is_recorded = record { kept = record_left w f v; is = C.now }

      pub covered_after : (t : Task) → among t names ≡ true → IsRecorded S t ⊎ (among t (tasks_of fs) ≡ true)
      covered_after t i = go (U.covered t i)
        where
          below : (t ≡ f.task) ⊎ (among t (tasks_of fs) ≡ true) → IsRecorded S t ⊎ (among t (tasks_of fs) ≡ true)
          below (inl e) = inl (subst (IsRecorded S) (sym e) is_recorded)
          below (inr k) = inr k

          go : IsRecorded R t ⊎ (among t (f.task ∷ tasks_of fs) ≡ true) → IsRecorded S t ⊎ (among t (tasks_of fs) ≡ true)
          go (inl k) = inl (stays_recorded R S f.task (record_left w f v) C t k)
          go (inr k) = below (among_split t f.task (tasks_of fs) k)

      -- the other tasks of the stack are not recorded
      pub unrecorded_after : (t : Task) → among t (tasks_of fs) ≡ true → S t ≡ None
      unrecorded_after t i =
          C.others t (λ e. clash (among f.task (tasks_of fs)) (subst (λ z. among z (tasks_of fs) ≡ true) e i) U.once.0)
          ∙ U.unrecorded t (among_there t f.task (tasks_of fs) i)

-- ---- the last task of a root, and a task that another one waits for

module _ (w : World) (P : Project) (root : Task) (base : List Task) (R S : Task → Option Record) (names : List Task) (f : Frame) (n : ℕ) (v : Value) where
  pub root_rests : UnderWay w P root base R names [] f → f.left ≡ suc n → P.next f.task f.progress.answers ≡ Done v
      → ChangesAt R S f.task (record_left w f v) → Rests w P S names
  root_rests U l q C = record {
    table = table_after w P root base R names [] f U n v l q S C;
    all = λ t i. go t (covered_after w P root base R names [] f U n v l q S C t i);
  }
    where
      go : (t : Task) → IsRecorded S t ⊎ (among t [] ≡ true) → IsRecorded S t
      go t (inl k) = k
      go t (inr k) = clash false k refl

  pub root_ends : UnderWay w P root base R names [] f → f.left ≡ suc n → P.next f.task f.progress.answers ≡ Done v
      → HasEnded w P root base names (Ended v)
  root_ends U l q =
      subst (λ z. HasEnded w P z base names (Ended v)) (waiting_root w P root f.task U.waits)
      (record {
        outcome = own_outcome w P root base R names [] f U n v l q;
        enters = enters_own w P root base R names [] f U n v l q;
        few = U.table.few;
      })

  module _ (g : Frame) (gs : List Frame) (U : UnderWay w P root base R names (g ∷ gs) f) (l : f.left ≡ suc n)
      (q : P.next f.task f.progress.answers ≡ Done v) (C : ChangesAt R S f.task (record_left w f v)) where
    waiting : WaitsFor w P root g gs f.task
    waiting = waiting_for w P root g gs f.task U.waits

    child_is : evaluation_with waiting.room w P (g.task ∷ tasks_of gs) f.task ≡ evaluation w P f.task
    child_is =
        ap (λ m. evaluation_with m w P (g.task ∷ tasks_of gs) f.task) (same w.most_tasks (length (tasks_of gs)) waiting.room U.room waiting.is_room U.is_room)
        ∙ sym (own_evaluation w P root base R names (g ∷ gs) f U n v l q)
      where
        same : (a b c d : ℕ) → a - b ≡ suc c → a - suc b ≡ suc d → c ≡ suc d
        same a b c d x y = omega arith

    pub task_ends : (h : How) → P.next g.task g.progress.answers ≡ Require h f.task → UnderWay w P root base S names gs (was_answered w P g g.left h f.task v)
    task_ends h next = record {
      table = table_after w P root base R names (g ∷ gs) f U n v l q S C;
      waits = waiting.below;
      room = waiting.room;
      is_room = waiting.is_room;
      runs = subst (λ x. IsRunning w P waiting.room (tasks_of gs) g.task g.left (required g.progress x (output_answer v h))
          (g.seen ++ observed (Required h f.task) (value_stamp w v h) ∷ []))
          child_is
          (is_answered w P waiting.room (tasks_of gs) g.task g.left g.progress g.seen h f.task v next
          (ap outcome_of child_is ∙ own_outcome w P root base R names (g ∷ gs) f U n v l q) waiting.runs);
      kids = (
        kids_answered w P S g (kids_stay R S f.task (record_left w f v) C w P g U.kids.1.0) g.left h f.task v
            (is_recorded w P root base R names (g ∷ gs) f U n v l q S C),
        all_kids_stay R S f.task (record_left w f v) C w P gs U.kids.1.1,
      );
      order = sym (enters_own w P root base R names (g ∷ gs) f U n v l q)
          ∙ sym (entered_all-end g.progress.kids (evaluation w P f.task) (enter g.task (entered_by base gs)));
      unrecorded = unrecorded_after w P root base R names (g ∷ gs) f U n v l q S C;
      once = U.once.1;
      stacked = λ t i. U.stacked t (among_there t f.task (g.task ∷ tasks_of gs) i);
      covered = covered_after w P root base R names (g ∷ gs) f U n v l q S C;
    }

-- ---- a cycle's list

round_onto : (u : Task) (ys xs found : List Task) → among u ys ≡ false → round u (ys ++ u ∷ xs) found ≡ u ∷ (reverse ys ++ found)
round_onto u [] xs found h = ap (λ b. cond b (u ∷ found) (round u xs (u ∷ found))) (bytes_same u)
round_onto u (y ∷ ys) xs found h =
    ap (λ b. cond b (y ∷ found) (round u (ys ++ u ∷ xs) (y ∷ found))) differ
    ∙ round_onto u ys xs (y ∷ found) (apart_rest u y ys h)
    ∙ ap (λ z. u ∷ z) (sym (append_assoc (reverse ys) (y ∷ []) found))
    ∙ ap (λ z. u ∷ (z ++ found)) (sym (reverse-append (y ∷ []) ys))
  where
    differ : bytes_eq u y ≡ false
    differ = go (bytes_eq u y) refl
      where
        go : (b : Bool) → bytes_eq u y ≡ b → bytes_eq u y ≡ false
        go true e = clash (among u (y ∷ ys)) (front_or u y ys (inl (same_bytes u y e))) h
        go false e = e

pub round_read : (u : Task) (ys xs : List Task) → among u ys ≡ false → round u (ys ++ u ∷ xs) [] ≡ u ∷ reverse ys
round_read u ys xs h = round_onto u ys xs [] h ∙ ap (λ z. u ∷ z) (append-nil (reverse ys))

-- ---- roots

pub new_root_entered : (w : World) (P : Project) (names : List Task) (root : Task) → among root names ≡ false
    → Begins (names ++ root ∷ []) (entered (evaluation w P root) names)
new_root_entered w P names root h =
    subst (λ z. Begins z (entered (evaluation w P root) names)) (enter_new root names h)
    (enters_itself (evaluation w P root) root names (task_of-evaluation w P root))

module _ (w : World) (P : Project) (R : Task → Option Record) (names : List Task) (root : Task) (Q : Rests w P R names) (i : among root names ≡ true) where
  pub known_done : is_done (outcome_of (evaluation w P root)) ≡ true
  known_done = go (Q.all root i)
    where
      go : IsRecorded R root → is_done (outcome_of (evaluation w P root)) ≡ true
      go k = Q.table.done root k.kept k.is

  pub known_adds_nothing : entered (evaluation w P root) names ≡ names
  known_adds_nothing = adds_nothing w P R names Q.table root (Q.all root i)
