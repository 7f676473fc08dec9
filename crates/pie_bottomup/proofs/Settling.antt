-- A build stands after a task was settled.
use Rattle.std.proofs.Common.{◌≡◌, ◌⊎◌, ℕ, ◌<◌, true, false, List, [], ◌∷◌, Option, None, Some, cond, length, drop, map, get_or, sym, ap, ◌∙◌, subst, refl}
use Rattle.std.proofs.Common.{inl, inr, arith, is_some}
use Rattle.std.specs.Prelude.{slice_get, IfSome}
use Rattle.std.specs.List.{Contains}
use Rattle.std.specs.declared.cmp.Ordering.TheVariants.{Less, Equal, Greater}
use Rattle.std.specs.Ordering.{nat_cmp, is_eq, MatchOrdering}
use Rattle.std.specs.Cmp.{ranks}
use Rattle.std.proofs.lemmas.Bool.{cases_order}
use Rattle.std.proofs.lemmas.List.{get_or-set_same, length-set}
use Rattle.std.proofs.lemmas.List.Elements.{All-contains}
use Rattle.std.proofs.lemmas.Option.{slice_get_within, get_or_from_slice_get}
use Rattle.pie_check_laws.proofs.Members.{into_map, from_map, from_flat, none_in, here_or_there, only_one}
use Rattle.pie_value.specs.declared.task.Task.{Task}
use Rattle.pie_graph.specs.declared.edges.TaskNo.{TaskNo}
use Rattle.pie_graph.specs.Rows.{Row, row_at, no_edges, Calls}
use Rattle.pie_record.specs.declared.dep.Dep.{Dep}
use Rattle.pie_record.specs.declared.dep.DepKind.{DepKind}
use Rattle.pie_value.specs.declared.stamp.Stamp.{Stamp}
use Rattle.pie_value.specs.declared.value.Value.{Value}
use Rattle.pie_record.specs.declared.dep.DepOn.{DepOn}
use Rattle.pie_record.specs.declared.dep.DepOn.TheVariants.{File, Called}
use Rattle.pie_record.specs.declared.records.Records.{Records}
use Rattle.pie_record.specs.declared.task_record.Outcome.{Outcome}
use Rattle.pie_record.specs.declared.task_record.Outcome.TheVariants as ends
use Rattle.pie_record.specs.declared.task_record.TaskRecord.{TaskRecord}
use Rattle.pie_record.specs.Canonical.{IsTrueOutcome}
use Rattle.pie_record.specs.inner.Names.{AreDistinct}
use Rattle.pie_record.specs.inner.Records.{record_of, Puts}
use Rattle.pie_store.specs.Canonical.{needs, required_on}
use Rattle.pie_tables.specs.declared.tables.Tables.{Tables}
use Rattle.pie_tables.specs.Tabled.{IsTables, IsRecordAt, HasFailed}
use Rattle.pie_walk.specs.declared.marks.Mark.TheVariants.{New, Runs, Settled}
use Rattle.pie_walk.specs.declared.stack.Entry.{Entry}
use Rattle.pie_walk.specs.declared.stack.Entry.TheVariants.{Visit, Waits}
use Rattle.pie_walk.specs.Marks.{mark_of, IsSettled, IsIdle}
use Rattle.pie_walk.specs.States.{WalkState, OnTop, no_of, below, waiting, settled, with_row}
use Rattle.pie_walk.specs.Standing.{HoldsIn, mark_for}
use Rattle.pie_walk.proofs.EntrySteps.{marked_in}
use Rattle.pie_walk.proofs.MarkSteps.{Stage, stage_of, running_is_open}
use Rattle.pie_walk.proofs.MarkSteps.Stage.{is_new, is_settled, is_open}
use Rattle.pie_walk.proofs.StateSteps.{top_inside, top_runs}
use Rattle.pie_graph.proofs.Among.{contains_here, contains_later, contains_cases}
use Rattle.pie_old.specs.inner.Rows.{IsRowOf, tasks_at, paths_in}
use Rattle.pie_results.specs.inner.Failures.{is_done}
use Rattle.pie_compare.specs.inner.Standing.{Around, OnStands, DepsStand, RecordStands, output_of, output_in, called_stamp}
use Rattle.pie_frames.specs.declared.frames.Frames.{Frames}
use Rattle.pie_frames.specs.inner.Standing.{Holds}
use Rattle.pie_frames.specs.inner.Ended.{row_from}
use Rattle.pie_bottomup.specs.declared.state.Core.{Core}
use Rattle.pie_bottomup.specs.inner.Recorded.{HasOutput, HasEnded, HasValue, WasTaken, Ends, SameBut}
use Rattle.pie_bottomup.specs.inner.Running.{IsKnown, Agree, EndsWell, EndsSo}
use Rattle.pie_bottomup.specs.inner.States.{IsSite, IsAsRecorded, AreCalled, IsBased}
use Rattle.pie_bottomup.proofs.Agreeing.{agree_ended}
use Rattle.pie_bottomup.proofs.Basing.{based_popped}
use Rattle.pie_bottomup.proofs.Closing.{IsStillCaller, ends_kept, ends_finished, output_stays}

-- ---- tasks and numbers

-- a task has one number
pub one_number : (names : List Task) → AreDistinct names → (i j : ℕ) (t : Task) → slice_get names i ≡ Some t → slice_get names j ≡ Some t → i ≡ j
one_number names apart i j t e f = by (cases_order i j)
  where
    same : get_or names i t ≡ get_or names j t
    same = get_or_from_slice_get names i t t e ∙ sym (get_or_from_slice_get names j t t f)

    by : (i ≡ j) ⊎ ((i < j) ⊎ (j < i)) → i ≡ j
    by (inl h) = h
    by (inr (inl l)) = absurd (apart i j t l (slice_get_within names j t f) same)
    by (inr (inr l)) = absurd (apart j i t l (slice_get_within names i t e) (sym same))

the_some : {A : Type 0} → A → Option A → A
the_some d None = d
the_some d (Some x) = x

-- a number in a row of a record is that of a task that the record requires
needed_task : (names : List Task) (ns : List ℕ) (us : List Task) (k : ℕ) → tasks_at names ns ≡ map Some us → Contains ns k
    → (u : Task) × Contains us u × (slice_get names k ≡ Some u)
needed_task names ns us k e h =
    let found = from_map Some us (slice_get names k)
    (subst (λ (os : List (Option Task)). Contains os (slice_get names k)) e (into_map (slice_get names) ns k h)) in
    (found.0, found.1, sym found.2)

-- ---- a record that stands

done_of : (o : Outcome) → is_some (output_of o) ≡ true → is_done o ≡ true
done_of (ends.Done v) e = refl
done_of (ends.Failed fault) e = e
done_of (ends.Cycled tasks) e = e

-- a task whose stamp is there has an output
stamped_done : (records : Records) (k : ℕ) (o : Option TaskRecord) → record_of records k ≡ o → is_some (output_in o) ≡ true → HasOutput records k
stamped_done records k None e is = absurd (cc)
stamped_done records k (Some r) e is = record { rec = r; kept = e; done = done_of r.outcome is }

is_stamped : (kind : DepKind) (o : Option Value) (stamp : Stamp) → called_stamp kind o ≡ Some stamp → is_some o ≡ true
is_stamped kind None stamp e = absurd (cc)
is_stamped kind (Some v) stamp e = refl

on_output : (a : Around) (required : List ℕ) (kind : DepKind) (what : DepOn) (stamp : Stamp) (after : List ℕ) (u : Task)
    → OnStands a required kind what stamp after → Contains (required_on what) u
    → (k : ℕ) × (slice_get a.tables.names k ≡ Some u) × HasOutput a.tables.records k
on_output a required kind (File path) stamp after u stands among = absurd (none_in u among)
on_output a required kind (Called task) stamp after u stands among = (
  stands.0,
  stands.1 ∙ ap Some (only_one task u among),
  stamped_done a.tables.records stands.0 (record_of a.tables.records stands.0) refl
      (is_stamped kind (output_in (record_of a.tables.records stands.0)) stamp stands.2.stamped),
)

-- each task that observations require which stand has an output
dep_outputs : (a : Around) (required : List ℕ) (ds : List Dep) (u : Task) → DepsStand a required ds → (d : Dep) → Contains ds d
    → Contains (required_on d.what) u → (k : ℕ) × (slice_get a.tables.names k ≡ Some u) × HasOutput a.tables.records k
dep_outputs a required [] u stand d h on = absurd (none_in d h)
dep_outputs a required (x ∷ ds) u stand d h on = elim (here_or_there x d ds h) [
  | inl same ↦ on_output a required x.kind x.what x.stamp stand.0 u stand.1 (subst (λ (y : Dep). Contains (required_on y.what) u) (sym same) on)
  | inr later ↦ dep_outputs a stand.0 ds u stand.2 d later on
]

-- ---- the walk

top_waits : (s : WalkState) (task : TaskNo) → OnTop s (Waits task) → task.0 ∷ waiting (below s.stack) ≡ waiting s.stack
top_waits s task top = subst (λ (es : List Entry). task.0 ∷ waiting (below es) ≡ waiting es) (sym top.1) refl

in_waiting : (es : List Entry) (task : TaskNo) → Contains es (Waits task) → Contains (waiting es) task.0
in_waiting [] task h = absurd (none_in (Waits task) h)
in_waiting (Visit other next ∷ es) task h = elim (contains_cases (Visit other next) (Waits task) es h) [
  | inl e ↦ absurd (cc)
  | inr later ↦ in_waiting es task later
]
in_waiting (Waits other ∷ es) task h = elim (contains_cases (Waits other) (Waits task) es h) [
  | inl e ↦ subst (λ (x : Entry). Contains (waiting (x ∷ es)) task.0) (sym e) (contains_here task.0 (waiting es))
  | inr later ↦ contains_later other.0 task.0 (waiting es) (in_waiting es task later)
]

-- a task was taken, may be scheduled, or is settled
busy_or_not : (s : WalkState) → HoldsIn s → (n : ℕ) → IsIdle s.marks n ⊎ (IsSettled s.marks n ⊎ WasTaken s n)
busy_or_not s holds n = by (stage_of (mark_of s.marks n))
  where
    of_entry : (e : Entry) → Contains s.stack e → no_of e ≡ n → mark_of s.marks n ≡ mark_for e → IsIdle s.marks n ⊎ (IsSettled s.marks n ⊎ WasTaken s n)
    of_entry (Visit task next) h e marked = inl (inr marked)
    of_entry (Waits task) h e marked = inr (inr (subst (WasTaken s) e (in_waiting s.stack task h)))

    by : Stage (mark_of s.marks n) → IsIdle s.marks n ⊎ (IsSettled s.marks n ⊎ WasTaken s n)
    by (is_new e) = inl (inl e)
    by (is_settled e) = inr (inl e)
    by (is_open a b) =
        let at = holds.stands n a b in
        of_entry at.0 at.1 at.2 (ap (mark_of s.marks) (sym at.2) ∙ marked_in s.rows s.marks None s.stack at.0 holds.entries at.1)

-- ---- the record that it had

pub site_kept : (c : Core) (f : Frames) (task : TaskNo) → AreDistinct c.tables.names → IsSite c → Holds task c.frames → IsAsRecorded c task.0
    → IfSome (slice_get c.tables.names task.0) (IsKnown c.plan) → RecordStands c.tables c.frames.walk.rows c.named task.0
    → f.walk ≡ settled c.frames.walk task.0 → f.parked ≡ c.frames.parked → IsSite (record c { frames = f })
site_kept c f task distinct site holds recorded known stands e same =
    let old = c.frames.walk in
    let r = stands.0 in
    let walk = holds.taken.stands.holds in
    let inside : task.0 < length old.marks = omega (arith, top_inside old (Waits task) holds.top walk, walk.marks_sized) in
    let runs : mark_of old.marks task.0 ≡ Runs = top_runs old task holds.top walk in
    let end : Ends old f.walk task.0 = ends_kept old f.walk task.0 inside runs e
    (ap (λ (s : WalkState). task.0 ∷ waiting s.stack) e ∙ top_waits old task holds.top) in
    let done : is_done r.outcome ≡ true = done_of r.outcome stands.2.output in
    let at : IsRecordAt c.tables.names task.0 r = subst (λ o. IfSome o (IsRecordAt c.tables.names task.0)) stands.1 (site.tables.records task.0) in
    let row : IsRowOf c.tables.names r (row_at old.rows task.0) = recorded r stands.1 done in
    let rows : row_at f.walk.rows task.0 ≡ row_at old.rows task.0 = ap (λ (s : WalkState). row_at s.rows task.0) e in
    record {
      tables = site.tables;
      sized = site.sized ∙ sym end.sized;
      roots = site.roots;
      tested = site.tested;
      agree = subst (λ v. Agree c.plan c.tables.names c.tables.records f.walk v.items c.at) (sym same)
          (agree_ended c.plan c.tables.names c.tables.records c.tables.records old f.walk c.frames.parked.items c.at task.0 r end (λ n apart. refl)
          (running_is_open (mark_of old.marks task.0) runs) stands.1 at.named (site.agree.recorded.outputs task.0 r stands.1)
          (λ is. record { row = subst (IsRowOf c.tables.names r) (sym rows) row; done = λ k calls. output k row (subst (λ (x : Row). Contains x.needs k) rows calls) })
          (λ is. subst (λ o. IfSome o (IsKnown c.plan)) at.named known)
          (λ failed. absurd (let clash : true ≡ false = sym done ∙ failed in cc)) site.agree);
      based = subst (λ (s : WalkState). IsBased c.plan.roots.items c.tables.names s.stack) (sym e)
          (based_popped c.plan.roots.items c.tables.names old.stack site.based);
    }
  where
    output : (k : ℕ) → IsRowOf c.tables.names stands.0 (row_at c.frames.walk.rows task.0) → Calls c.frames.walk.rows task.0 k → HasOutput c.tables.records k
    output k row calls =
        let u = needed_task c.tables.names (row_at c.frames.walk.rows task.0).needs (needs stands.0) k row.needs calls in
        let d = from_flat (λ (x : Dep). required_on x.what) stands.0.deps u.0 u.1 in
        let found = dep_outputs (record { tables = c.tables; rows = c.frames.walk.rows; known = c.named; own = stands.0.writes }) [] stands.0.deps u.0
        stands.2.deps d.0 d.1 d.2 in
        subst (HasOutput c.tables.records) (one_number c.tables.names distinct found.0 k u.0 found.1 u.2) found.2

-- ---- a record of its own

pub put_at : (old new : Records) (n : ℕ) (r : TaskRecord) → Puts old new n r → record_of new n ≡ Some r
put_at old new n r puts = puts n ∙ (elim (nat_cmp n n) as (λ o. MatchOrdering o (n < n) (n ≡ n) (n < n) → cond (is_eq o) (Some r) (record_of old n) ≡ Some r) [
  | Less ↦ λ lt. absurd (omega (arith, lt))
  | Equal ↦ λ e. refl
  | Greater ↦ λ gt. absurd (omega (arith, gt))
]) (ranks n n)

pub put_other : (old new : Records) (n : ℕ) (r : TaskRecord) → Puts old new n r → SameBut old new n
put_other old new n r puts k apart = puts k ∙ (elim (nat_cmp n k) as (λ o. MatchOrdering o (n < k) (n ≡ k) (k < n)
    → cond (is_eq o) (Some r) (record_of old k) ≡ record_of old k) [
      | Less ↦ λ lt. refl
      | Equal ↦ λ e. absurd (apart (sym e))
      | Greater ↦ λ gt. refl
    ]) (ranks n k)

-- the task that ended isn't failed
not_failed : (o : Outcome) → HasFailed o → is_done o ≡ true → ⊥
not_failed (ends.Done v) failed is = failed
not_failed (ends.Failed fault) failed is = let clash : false ≡ true = is in cc
not_failed (ends.Cycled tasks) failed is = let clash : false ≡ true = is in cc

well_ended : (c : Core) (n from : ℕ) (r : TaskRecord) → EndsSo c.plan c.tables.names c.tables.records c.frames.walk n from r → is_done r.outcome ≡ true
    → EndsWell c.plan c.tables.names c.tables.records c.frames.walk n from r
well_ended c n from r so done = elim so [ inl failed ↦ absurd (not_failed r.outcome failed done) | inr well ↦ well ]

value_ended : (c : Core) (n from : ℕ) (r : TaskRecord) → EndsSo c.plan c.tables.names c.tables.records c.frames.walk n from r → HasValue r
value_ended c n from r so = elim so [ inl failed ↦ no_output r.outcome failed | inr well ↦ well.output ]
  where
    no_output : (o : Outcome) → HasFailed o → IsTrueOutcome o
    no_output (ends.Done v) failed = absurd failed
    no_output (ends.Failed fault) failed = tt
    no_output (ends.Cycled tasks) failed = tt

-- where it is called for, another task that requires it was scheduled
none_calls : (c : Core) (task : TaskNo) (r : TaskRecord) → Holds task c.frames → AreCalled c task.0 r → is_done r.outcome ≡ false → HasOutput c.tables.records task.0
    → (n : ℕ) → IsStillCaller c.frames.walk n task.0 → ⊥
none_calls c task r holds called failed output n caller = by (busy_or_not c.frames.walk holds.taken.stands.holds n)
  where
    by : IsIdle c.frames.walk.marks n ⊎ (IsSettled c.frames.walk.marks n ⊎ WasTaken c.frames.walk n) → ⊥
    by (inl idle) = caller.still.calm (called failed output n caller.calls idle)
    by (inr (inl is)) =
        running_is_open (mark_of c.frames.walk.marks task.0) (top_runs c.frames.walk task holds.top holds.taken.stands.holds)
        (holds.taken.stands.holds.closed n task.0 is caller.calls)
    by (inr (inr taken)) = caller.still.free taken

pub site_ended : (c : Core) (t : Tables) (f : Frames) (task : TaskNo) (from : ℕ) (r : TaskRecord) (writes : List (List ℕ)) → IsSite c → Holds task c.frames
    → IsTables t → t.names ≡ c.tables.names → Puts c.tables.records t.records task.0 r → slice_get c.tables.names task.0 ≡ Some r.task
    → EndsSo c.plan c.tables.names c.tables.records c.frames.walk task.0 from r → AreCalled c task.0 r → writes ≡ paths_in r.writes
    → f.walk ≡ settled (with_row c.frames.walk task.0 (row_from (row_at c.frames.walk.rows task.0) from writes)) task.0 → f.parked ≡ c.frames.parked
    → IsSite (record c { frames = f; tables = t })
site_ended c t f task from r writes site holds tables names puts named so called paths e same =
    let old = c.frames.walk in
    let walk = holds.taken.stands.holds in
    let row = row_from (row_at old.rows task.0) from writes in
    let inside : task.0 < length old.rows = top_inside old (Waits task) holds.top walk in
    let marked : task.0 < length old.marks = omega (arith, inside, walk.marks_sized) in
    let runs : mark_of old.marks task.0 ≡ Runs = top_runs old task holds.top walk in
    let end : Ends old f.walk task.0 = ends_finished old f.walk task.0 row marked runs e
    (ap (λ (s : WalkState). task.0 ∷ waiting s.stack) e ∙ top_waits old task holds.top) in
    let now : row_at f.walk.rows task.0 ≡ row = ap (λ (s : WalkState). row_at s.rows task.0) e ∙ get_or-set_same old.rows task.0 row no_edges inside in
    let others : SameBut c.tables.records t.records task.0 = put_other c.tables.records t.records task.0 r puts in
    let open_yet = running_is_open (mark_of old.marks task.0) runs in
    record {
      tables = tables;
      sized = ap length names ∙ site.sized ∙ sym end.sized;
      roots = site.roots;
      tested = site.tested;
      agree = subst (λ (ns : List Task). Agree c.plan ns t.records f.walk f.parked.items c.at) (sym names)
          (subst (λ v. Agree c.plan c.tables.names t.records f.walk v.items c.at) (sym same)
          (agree_ended c.plan c.tables.names c.tables.records t.records old f.walk c.frames.parked.items c.at task.0 r end others open_yet
          (put_at c.tables.records t.records task.0 r puts) named (value_ended c task.0 from r so)
          (λ done. let well = well_ended c task.0 from r so done in record {
            row = subst (IsRowOf c.tables.names r) (sym now) (record { needs = well.needs; reads = refl; lists = refl; writes = paths });
            done = λ k calls.
                let ended : HasEnded c.tables.records old.marks k = All-contains (HasEnded c.tables.records old.marks)
                (drop from (row_at old.rows task.0).needs) k well.ended (subst (λ (x : Row). Contains x.needs k) now calls) in
                output_stays c.tables.records t.records task.0 k others (λ is. open_yet (subst (IsSettled old.marks) is ended.settled)) ended.output;
          })
          (λ done. (well_ended c task.0 from r so done).known) (none_calls c task r holds called) site.agree));
      based = subst (λ (s : WalkState). IsBased c.plan.roots.items t.names s.stack) (sym e)
          (subst (λ (ns : List Task). IsBased c.plan.roots.items ns (below old.stack)) (sym names)
          (based_popped c.plan.roots.items c.tables.names old.stack site.based));
    }

-- the task that ended is settled, and has a row still
pub ended_settled : (c : Core) (f : Frames) (task : TaskNo) (row : Row) → Holds task c.frames → f.walk ≡ settled (with_row c.frames.walk task.0 row) task.0
    → IsSettled f.walk.marks task.0 × (task.0 < length f.walk.rows)
ended_settled c f task row holds e =
    let old = c.frames.walk in
    let walk = holds.taken.stands.holds in
    let inside : task.0 < length old.rows = top_inside old (Waits task) holds.top walk in
    let marked : task.0 < length old.marks = omega (arith, inside, walk.marks_sized) in (
      ap (λ (s : WalkState). mark_of s.marks task.0) e ∙ get_or-set_same old.marks task.0 Settled New marked,
      subst (λ (s : WalkState). task.0 < length s.rows) (sym e) (omega (arith, inside, length-set old.rows task.0 row)),
    )
