-- A build stands after each step of its walk.
use Rattle.std.proofs.Common.{◌≡◌, ◌≢◌, ◌⊎◌, ℕ, ◌<◌, ◌+◌, List, [], ◌∷◌, ◌++◌, Option, None, Some, length, sym, ap, ◌∙◌, subst, inl, inr, arith}
use Rattle.std.specs.Prelude.{slice_get, IfSome}
use Rattle.std.specs.List.{All, Contains}
use Rattle.std.proofs.lemmas.List.{length_push, get_or_push}
use Rattle.std.proofs.lemmas.List.Elements.{All-nil, Contains-push, Contains-get_or}
use Rattle.std.proofs.lemmas.Option.{slice_get-get_or, slice_get_within}
use Rattle.pie_value.specs.declared.task.Task.{Task}
use Rattle.pie_graph.specs.declared.edges.TaskNo.{TaskNo}
use Rattle.pie_graph.specs.Numbers.{IsMarked}
use Rattle.pie_graph.specs.Rows.{Row, row_at, no_edges}
use Rattle.pie_graph.proofs.Among.{contains_here}
use Rattle.pie_record.specs.declared.records.Records.{Records}
use Rattle.pie_tables.specs.declared.tables.Tables.{Tables}
use Rattle.pie_tables.specs.Tabled.{IsTables, IsRecordAt}
use Rattle.pie_walk.specs.declared.marks.Mark.TheVariants.{New, Visited, Runs}
use Rattle.pie_walk.specs.declared.stack.Entry.TheVariants.{Waits}
use Rattle.pie_walk.specs.Callers.{SchedulesCallers, Sweeps}
use Rattle.pie_walk.specs.Marks.{mark_of, IsSettled}
use Rattle.pie_walk.specs.States.{WalkState, waiting, base_of, met, with_one_more, with_need}
use Rattle.pie_walk.specs.Standing.{HoldsIn}
use Rattle.pie_walk.specs.Turns.{Walks}
use Rattle.pie_walk.proofs.EntrySteps.{marked_in}
use Rattle.pie_old.specs.inner.Rows.{IsRowOf}
use Rattle.pie_running.specs.inner.Noted.{Noted}
use Rattle.pie_frames.specs.declared.frames.Frames.{Frames}
use Rattle.pie_frames.specs.declared.parked.Parked.{Parked}
use Rattle.pie_frames.specs.inner.Standing.{HasFrom, Holds, Rests, number_of}
use Rattle.pie_frames.specs.inner.Turns.{HasTaken, HasAnswered, HasParked, IsOver}
use Rattle.pie_frames.proofs.Rest.{in_rest}
use Rattle.pie_frames.proofs.Tying.{grown_rows, waiting_entry}
use Rattle.pie_bottomup.specs.declared.state.Core.{Core}
use Rattle.pie_bottomup.specs.declared.state.InHand.{InHand}
use Rattle.pie_bottomup.specs.inner.Recorded.{HasOutput, WasTaken, GoesOn}
use Rattle.pie_bottomup.specs.inner.Running.{IsCaller, IsNoted, Agree}
use Rattle.pie_bottomup.specs.inner.States.{IsSite, IsAtRest, IsOwn, IsNextRoot, IsAsRecorded, IsRootAt, IsBased}
use Rattle.pie_bottomup.proofs.Agreeing.{agree_on, agree_parked, agree_unparked, agree_begun, agree_more, noted_on, noted_more}
use Rattle.pie_bottomup.proofs.Basing.{based_empty, based_as, based_same, based_met, based_more}
use Rattle.pie_bottomup.proofs.Going.{goes_walking, goes_taking, goes_calling, goes_sweeping, goes_meeting, goes_requiring, is_met}

-- ---- the walk alone

site_with : (c : Core) (f : Frames) → IsSite c → length f.walk.rows ≡ length c.frames.walk.rows
    → Agree c.plan c.tables.names c.tables.records f.walk f.parked.items c.at → IsBased c.plan.roots.items c.tables.names f.walk.stack
    → IsSite (record c { frames = f })
site_with c f site sized agree based = record {
  tables = site.tables;
  sized = site.sized ∙ sym sized;
  roots = site.roots;
  tested = site.tested;
  agree = agree;
  based = based;
}

-- the same tasks wait
site_on : (c : Core) (f : Frames) → IsSite c → GoesOn c.frames.walk f.walk → f.parked.items ≡ c.frames.parked.items
    → IsBased c.plan.roots.items c.tables.names f.walk.stack → IsSite (record c { frames = f })
site_on c f site on same =
    site_with c f site on.sized
    (subst (λ (ps : List Parked). Agree c.plan c.tables.names c.tables.records f.walk ps c.at) (sym same)
    (agree_on c.plan c.tables.names c.tables.records c.frames.walk f.walk c.frames.parked.items c.at on site.agree))

pub site_taken : (c : Core) (f : Frames) (number : TaskNo) → IsSite c → HasTaken c.frames f number → IsSite (record c { frames = f })
site_taken c f number site has =
    site_on c f site (goes_taking c.frames.walk f.walk number has.taken) (ap (λ v. v.items) has.parked)
    (based_as c.plan.roots.items c.tables.names c.frames.walk.stack f.walk.stack has.taken.base site.based)

-- a walk that goes on stays below its root, or is over
based_walking : (c : Core) (f : Frames) → IsSite c → Walks c.frames.walk f.walk → IsBased c.plan.roots.items c.tables.names f.walk.stack
based_walking c f site walks = by walks.base
  where
    by : (f.walk.stack ≡ []) ⊎ (base_of f.walk.stack ≡ base_of c.frames.walk.stack) → IsBased c.plan.roots.items c.tables.names f.walk.stack
    by (inl none) = based_empty c.plan.roots.items c.tables.names f.walk.stack none
    by (inr same) = based_as c.plan.roots.items c.tables.names c.frames.walk.stack f.walk.stack same site.based

-- a scheduled task wasn't taken
scheduled_free : (s : WalkState) → HoldsIn s → (n : ℕ) → IsMarked s.scheduled n → WasTaken s n → ⊥
scheduled_free s holds n flag taken =
    let entry = waiting_entry s.stack n taken in
    let runs : mark_of s.marks n ≡ Runs =
    ap (mark_of s.marks) (sym entry.2) ∙ marked_in s.rows s.marks None s.stack (Waits entry.0) holds.entries entry.1 in
    elim (holds.calm n flag) [ inl a ↦ (let e : New ≡ Runs = sym a ∙ runs in cc) | inr a ↦ (let e : Visited ≡ Runs = sym a ∙ runs in cc) ]

-- its row is that of its record when it is taken
pub taken_recorded : (c : Core) (f : Frames) (number : TaskNo) → IsSite c → HoldsIn c.frames.walk → HasTaken c.frames f number → IsAsRecorded (record c { frames = f }) number.0
taken_recorded c f number site holds has r kept done =
    let same : f.walk.rows ≡ c.frames.walk.rows = ap (λ (s : WalkState). s.rows) has.taken.same in
    subst (λ (rows : List Row). IsRowOf c.tables.names r (row_at rows number.0)) (sym same)
    (site.agree.recorded.rows number.0 r kept done (scheduled_free c.frames.walk holds number.0 has.taken.was))

pub site_answered : (c : Core) (f : Frames) (number : TaskNo) (p : Parked) → IsSite c → HasAnswered c.frames f number p
    → IsSite (record c { frames = f }) × IsCaller c.plan c.tables.names c.tables.records f.walk.marks p
site_answered c f number p site has =
    let on = goes_walking c.frames.walk f.walk has.answered.walks in
    let agree = agree_unparked c.plan c.tables.names c.tables.records f.walk c.frames.parked.items f.parked.items p c.at has.parked
    (agree_on c.plan c.tables.names c.tables.records c.frames.walk f.walk c.frames.parked.items c.at on site.agree) in
    (site_with c f site on.sized agree.0 (based_walking c f site has.answered.walks), agree.1)

-- what it waited for is settled
pub callee_settled : (old f : Frames) (number : TaskNo) (p : Parked) → HasAnswered old f number p → IsSettled f.walk.marks p.callee.0
callee_settled old f number p has =
    let ns = (row_at f.walk.rows (number_of p)).needs in
    let here : Contains ns p.callee.0 =
    in_rest p.from ns p.callee.0 (subst (λ (ks : List ℕ). Contains ks p.callee.0) (sym has.is_parked.row.same) (Contains-push p.caller.waiting.notes.needs p.callee.0)) in
    has.answered.ready p.callee.0 (subst (λ (n : ℕ). Contains (row_at f.walk.rows n).needs p.callee.0) has.number here)

pub rests_over : (c : Core) (f : Frames) → IsSite c → IsOver c.frames f → IsAtRest (record c { frames = f })
rests_over c f site over =
    let on = goes_walking c.frames.walk f.walk over.ended.walks in
    let agree = agree_on c.plan c.tables.names c.tables.records c.frames.walk f.walk c.frames.parked.items c.at on site.agree in
    record {
      site = site_with c f site on.sized (record {
        recorded = agree.recorded;
        callers = subst (All (IsCaller c.plan c.tables.names c.tables.records f.walk.marks)) (sym over.parked)
            (All-nil (IsCaller c.plan c.tables.names c.tables.records f.walk.marks));
        met = agree.met;
        known = agree.known;
      }) (based_walking c f site over.ended.walks);
      rests = over.rests;
    }

pub site_calling : (c : Core) (f : Frames) (n : ℕ) → IsSite c → SchedulesCallers c.frames.walk f.walk n → f.parked ≡ c.frames.parked
    → IsSite (record c { frames = f })
site_calling c f n site is same =
    site_on c f site (goes_calling c.frames.walk f.walk n is) (ap (λ v. v.items) same)
    (based_same c.plan.roots.items c.tables.names c.frames.walk.stack f.walk.stack (ap (λ (s : WalkState). s.stack) is.same) site.based)

pub site_sweeping : (c : Core) (f : Frames) (n : ℕ) → IsSite c → Sweeps c.frames.walk f.walk n → f.parked ≡ c.frames.parked → IsSite (record c { frames = f })
site_sweeping c f n site is same =
    site_on c f site (goes_sweeping c.frames.walk f.walk n is) (ap (λ v. v.items) same)
    (based_same c.plan.roots.items c.tables.names c.frames.walk.stack f.walk.stack (ap (λ (s : WalkState). s.stack) is.same) site.based)

-- the tables have the same names and records
pub site_tables : (c : Core) (t : Tables) → IsSite c → IsTables t → t.names ≡ c.tables.names → t.records ≡ c.tables.records → (hand : Option InHand)
    → IsSite (record c { tables = t; hand = hand })
site_tables c t site is names records hand = record {
  tables = is;
  sized = ap length names ∙ site.sized;
  roots = site.roots;
  tested = site.tested;
  agree = subst (λ (ns : List Task). Agree c.plan ns t.records c.frames.walk c.frames.parked.items c.at) (sym names)
      (subst (λ (rs : Records). Agree c.plan c.tables.names rs c.frames.walk c.frames.parked.items c.at) (sym records) site.agree);
  based = subst (λ (ns : List Task). IsBased c.plan.roots.items ns c.frames.walk.stack) (sym names) site.based;
}

-- ---- a root is begun

pub site_begun : (c : Core) (f : Frames) (number : TaskNo) → IsSite c → Rests c.frames → c.at < length c.plan.roots.items → IsNextRoot c number.0
    → f.walk ≡ met c.frames.walk number → f.parked ≡ c.frames.parked → IsSite (record c { frames = f; at = c.at + 1 })
site_begun c f number site rests l root e same =
    let inside : number.0 < length c.frames.walk.marks =
    omega (arith, slice_get_within c.tables.names number.0 root.root root.named, site.sized, rests.stands.holds.marks_sized) in
    let is_root : IsRootAt c.plan.roots.items c.tables.names number.0 = record {
      root = root.root;
      listed = subst (Contains c.plan.roots.items) (root.next root.root) (Contains-get_or c.plan.roots.items c.at root.root l);
      named = root.named;
    } in
    let begun = site_on c f site (goes_meeting c.frames.walk f.walk number inside e) (ap (λ v. v.items) same)
    (based_same c.plan.roots.items c.tables.names (met c.frames.walk number).stack f.walk.stack (ap (λ (s : WalkState). s.stack) e)
    (based_met c.plan.roots.items c.tables.names c.frames.walk number (λ empty. is_root) site.based)) in
    record {
      tables = begun.tables;
      sized = begun.sized;
      roots = begun.roots;
      tested = begun.tested;
      agree = agree_begun c.plan c.tables.names c.tables.records f.walk f.parked.items c.at number.0 root.root l root.next root.named
          (subst (λ (s : WalkState). mark_of s.marks number.0 ≢ New) (sym e) (is_met c.frames.walk number inside)) begun.agree;
      based = begun.based;
    }

-- ---- one task more

-- a task with a record has a name
output_named : (t : Tables) → IsTables t → (n : ℕ) → HasOutput t.records n → n < length t.names
output_named t is n output =
    let at : IsRecordAt t.names n output.rec = subst (λ o. IfSome o (IsRecordAt t.names n)) output.kept (is.records n) in
    slice_get_within t.names n output.rec.task at.named

pub site_grown : (c : Core) (f : Frames) (t : Tables) (task : Task) → IsSite c → HoldsIn c.frames.walk → IsTables t → f.walk ≡ with_one_more c.frames.walk
    → f.parked ≡ c.frames.parked → t.names ≡ c.tables.names ++ task ∷ [] → t.records ≡ c.tables.records → IsSite (record c { frames = f; tables = t })
site_grown c f t task site holds tables walk parked names records =
    let agree = agree_more c.plan c.tables.names task c.tables.records c.frames.walk c.frames.parked.items c.at holds.scheduled_sized
    (output_named c.tables site.tables) site.agree in
    record {
      tables = tables;
      sized = ap length names ∙ sized ∙ sym (ap (λ (s : WalkState). length s.rows) walk);
      roots = site.roots;
      tested = site.tested;
      agree = subst (λ (w : WalkState). Agree c.plan t.names t.records w f.parked.items c.at) (sym walk)
          (subst (λ v. Agree c.plan t.names t.records (with_one_more c.frames.walk) v.items c.at) (sym parked)
          (subst (λ (rs : Records). Agree c.plan t.names rs (with_one_more c.frames.walk) c.frames.parked.items c.at) (sym records)
          (subst (λ (ns : List Task). Agree c.plan ns c.tables.records (with_one_more c.frames.walk) c.frames.parked.items c.at) (sym names) agree)));
      based = subst (λ (w : WalkState). IsBased c.plan.roots.items t.names w.stack) (sym walk)
          (subst (λ (ns : List Task). IsBased c.plan.roots.items ns c.frames.walk.stack) (sym names)
          (based_more c.plan.roots.items c.tables.names task c.frames.walk.stack site.based));
    }
  where
    sized : length (c.tables.names ++ task ∷ []) ≡ length (with_one_more c.frames.walk).rows
    sized = length_push c.tables.names task ∙ ap (λ (n : ℕ). n + 1) site.sized ∙ sym (length_push c.frames.walk.rows no_edges)

pub own_grown : (c : Core) (f : Frames) (t : Tables) (task : Task) → f.walk ≡ with_one_more c.frames.walk → t.names ≡ c.tables.names ++ task ∷ []
    → t.records ≡ c.tables.records → (number : TaskNo) (from : ℕ) (n : Noted) → IsOwn c number from n → IsOwn (record c { frames = f; tables = t }) number from n
own_grown c f t task walk names records number from n own = record {
  number = own.number;
  row = subst (λ (r : Row). HasFrom r from n.needs)
      (sym (ap (λ (s : WalkState). row_at s.rows number.0) walk ∙ grown_rows c.frames.walk.rows number.0)) own.row;
  noted = subst (λ (w : WalkState). IsNoted c.plan t.names t.records w.marks n) (sym walk)
      (subst (λ (rs : Records). IsNoted c.plan t.names rs (with_one_more c.frames.walk).marks n) (sym records)
      (subst (λ (ns : List Task). IsNoted c.plan ns c.tables.records (with_one_more c.frames.walk).marks n) (sym names)
      (noted_more c.plan c.tables.names task c.tables.records c.frames.walk.marks n own.noted)));
}

-- the new task has the last name
pub last_named : (names : List Task) (task : Task) (n : ℕ) → n ≡ length names → slice_get (names ++ task ∷ []) n ≡ Some task
last_named names task n e =
    slice_get-get_or (names ++ task ∷ []) n task (omega (arith, e, length_push names task)) ∙ ap Some (get_or_push names task task n (sym e))

-- ---- the task in hand requires one more, and waits

in_hand_taken : (f : Frames) (number : TaskNo) → Holds number f → WasTaken f.walk number.0
in_hand_taken f number holds = subst (λ (ns : List ℕ). Contains ns number.0) (sym (ap waiting holds.top.1)) (contains_here number.0 (waiting holds.top.0))

pub site_parked : (c : Core) (f : Frames) (number : TaskNo) (p : Parked) → IsSite c → Holds number c.frames → HasParked c.frames f number p
    → p.callee.0 < length c.frames.walk.rows → IsOwn c number p.from p.caller.waiting.notes → slice_get c.tables.names p.callee.0 ≡ Some p.caller.required
    → IsSite (record c { frames = f })
site_parked c f number p site holds has callee own named =
    let inside : p.callee.0 < length c.frames.walk.marks = omega (arith, callee, holds.taken.stands.holds.marks_sized) in
    let on = goes_requiring c.frames.walk f.walk number p.callee f.walk.places (in_hand_taken c.frames number holds) inside has.walk in
    site_with c f site on.sized
    (agree_parked c.plan c.tables.names c.tables.records f.walk c.frames.parked.items f.parked.items p c.at has.parked
    (record { noted = noted_on c.plan c.tables.names c.tables.records c.frames.walk.marks f.walk.marks on.rise p.caller.waiting.notes own.noted; required = named })
    (agree_on c.plan c.tables.names c.tables.records c.frames.walk f.walk c.frames.parked.items c.at on site.agree))
    (subst (λ (w : WalkState). IsBased c.plan.roots.items c.tables.names w.stack) (sym has.walk)
    (based_met c.plan.roots.items c.tables.names (with_need c.frames.walk f.walk.places number.0 p.callee.0) p.callee
    (λ empty. absurd (never (sym holds.top.1 ∙ empty))) site.based))
  where
    never : Waits number ∷ holds.top.0 ≡ [] → ⊥
    never e = cc
