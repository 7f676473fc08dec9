-- The tasks that run and wait go on where the walk does, where a task is kept, and where one begins to run.
use Rattle.std.proofs.Common.{◌≡◌, ◌≢◌, ◌⊎◌, ℕ, true, false, List, [], ◌∷◌, ◌++◌, map, reverse, None, Some, length, refl, sym, ap, ◌∙◌, subst, inl, inr, arith}
use Rattle.std.specs.Prelude.{slice_get}
use Rattle.std.specs.List.{Contains}
use Rattle.std.proofs.lemmas.List.{map-append, reverse-append}
use Rattle.pie_value.specs.declared.task.Task.{Task}
use Rattle.pie_value.specs.Canonical.{enc_task}
use Rattle.pie_graph.specs.declared.edges.TaskNo.{TaskNo}
use Rattle.pie_graph.specs.Numbers.{IsMarked}
use Rattle.pie_graph.specs.Rows.{Row, row_at}
use Rattle.pie_graph.proofs.Among.{contains_cases}
use Rattle.pie_record.specs.declared.task_record.TaskRecord.{TaskRecord}
use Rattle.pie_record.specs.inner.Records.{record_of as kept_of}
use Rattle.pie_walk.specs.declared.marks.Mark.{Mark}
use Rattle.pie_walk.specs.declared.marks.Mark.TheVariants.{New, Runs}
use Rattle.pie_walk.specs.declared.stack.Entry.{Entry}
use Rattle.pie_walk.specs.declared.stack.Entry.TheVariants.{Visit, Waits}
use Rattle.pie_walk.specs.Marks.{mark_of, IsSettled, IsIdle}
use Rattle.pie_walk.specs.States.{WalkState, OnTop, no_of, waiting}
use Rattle.pie_walk.specs.Standing.{Stands, AreEntries, HasCome, needs_at}
use Rattle.pie_walk.specs.Turns.{Walks}
use Rattle.pie_walk.proofs.MarkSteps.{met_stays}
use Rattle.pie_walk.proofs.StateSteps.{top_runs}
use Rattle.pie_compare_laws.proofs.Ways.{one_some}
use Rattle.pie_frames.specs.declared.parked.Parked.{Parked}
use Rattle.pie_frames.specs.declared.frames.Frames.{Frames}
use Rattle.pie_frames.specs.inner.Standing.{Rests, number_of, numbers_up}
use Rattle.pie_frames.proofs.Tying.{up_in}
use Rattle.pie_frames.specs.inner.Turns.{HasTaken, HasAnswered, IsOver}
use Rattle.pie_core_laws.specs.Update.{Update}
use Rattle.pie_core_laws.specs.Exact.{runs, IsExact}
use Rattle.pie_core_laws.specs.Moving.{Moves}
use Rattle.pie_core_laws.specs.Running.{IsBaseOf}
use Rattle.pie_core_laws.proofs.Exactly.{idle_not_runs, idle_not_settled}
use Rattle.pie_core_laws.proofs.Moved.{moves_stay, walks_move, takes_move, runs_waits, waits_runs}
use Rattle.pie_core_laws.proofs.Runs.{old_base}
use Rattle.pie_task_laws.specs.Whole.{IsNew, OnlyIsNew, NoneIsNew, AreAtRest, Moved}
use Rattle.pie_task_laws.proofs.Together.{moves_rest}
use Rattle.pie_bottomup.specs.declared.state.Core.{Core}
use Rattle.pie_bottomup.specs.inner.Exact.{IsPlanNow, IsExactCore}
use Rattle.pie_bottomup.specs.inner.Going.{site_of, build_of, callers_up, IsBare, IsResting, IsTakenFrom}
use Rattle.pie_bottomup.proofs.ExactWalking.{taken_exact, answered_ran}

-- ---- a task that requires nothing

none_listed : {A : Type 0} (x : A) → Contains [] x → ⊥
none_listed x h = omega (arith, h.1)

-- stands below none
awaits_one : (needs : List ℕ) (marks : List Mark) (u : ℕ) (e : Entry) → needs ≡ [] → HasCome needs marks (Some u) e → ⊥
awaits_one needs marks u (Visit task next) bare come = (let l = (come.here u refl).0 in omega (arith, l, ap length bare))
awaits_one needs marks u (Waits task) bare come = none_listed u (subst (λ (ns : List ℕ). Contains ns u) bare (come.here u refl))

bare_none : (rows : List Row) (marks : List Mark) (u : ℕ) (es : List Entry) (g : Entry) → AreEntries rows marks (Some u) es → Contains es g
    → needs_at rows (no_of g) ≡ [] → ⊥
bare_none rows marks u [] g entries h bare = none_listed g h
bare_none rows marks u (e ∷ es) g entries h bare = by (contains_cases e g es h) (bare_none rows marks (no_of e) es g entries.2)
  where
    by : (e ≡ g) ⊎ Contains es g → (Contains es g → needs_at rows (no_of g) ≡ [] → ⊥) → ⊥
    by (inl same) below =
        awaits_one (needs_at rows (no_of e)) marks u e (ap (λ (x : Entry). needs_at rows (no_of x)) same ∙ bare) entries.0.come
    by (inr later) below = below later bare

bare_first : (rows : List Row) (marks : List Mark) (e : Entry) (es : List Entry) (g : Entry) → AreEntries rows marks None (e ∷ es) → Contains (e ∷ es) g
    → needs_at rows (no_of g) ≡ [] → e ≡ g
bare_first rows marks e es g entries h bare = elim (contains_cases e g es h) [
  | inl same ↦ same
  | inr later ↦ absurd (bare_none rows marks (no_of e) es g entries.2 later bare)
]

-- a task without a record that was met and requires nothing
record IsOpenTask (u : Update) (c : Core) (after : WalkState) (n : ℕ) : Type 0 where
  exact : IsExact u c.tables.names c.tables.records after
  stands : Stands after
  unrecorded : kept_of c.tables.records n ≡ None
  bare : IsBare after n

-- stands on the stack
on_stack : (u : Update) (c : Core) (after : WalkState) (n : ℕ) → IsOpenTask u c after n → (e : Entry) × Contains after.stack e × (no_of e ≡ n)
on_stack u c after n is = is.stands.holds.stands n is.bare.met unsettled
  where
    none_some : (r : TaskRecord) → None ≡ Some r → ⊥
    none_some r e = cc

    unsettled : IsSettled after.marks n → ⊥
    unsettled s = let q = is.exact.ended n s in none_some q.0 (sym is.unrecorded ∙ q.1)

-- on its top
on_top_of : (u : Update) (c : Core) (after : WalkState) (n : ℕ) (e : Entry) → IsOpenTask u c after n → OnTop after e → no_of e ≡ n
on_top_of u c after n e is top =
    let at = on_stack u c after n is in
    let same =
    bare_first after.rows after.marks e top.0 at.0 (subst (AreEntries after.rows after.marks None) top.1 is.stands.holds.entries)
    (subst (λ (es : List Entry). Contains es at.0) top.1 at.1) (ap (needs_at after.rows) at.2 ∙ is.bare.alone) in
    ap no_of same ∙ at.2

off_stack : (u : Update) (c : Core) (after : WalkState) (n : ℕ) → IsOpenTask u c after n → after.stack ≡ [] → ⊥
off_stack u c after n is empty =
    let at = on_stack u c after n is in none_listed at.0 (subst (λ (es : List Entry). Contains es at.0) empty at.1)

-- ---- those that wait

pub callers_push : (ps : List Parked) (p : Parked) → callers_up (ps ++ p ∷ []) ≡ p.caller ∷ callers_up ps
callers_push ps p =
    ap reverse (map-append (λ (q : Parked). q.caller) ps (p ∷ [])) ∙ reverse-append (map (λ (q : Parked). q.caller) ps) (p.caller ∷ [])

none_parked : (ps : List Parked) → numbers_up ps ≡ [] → ps ≡ []
none_parked [] e = refl
none_parked (p ∷ ps) e =
    absurd (none_listed (number_of p) (subst (λ (ns : List ℕ). Contains ns (number_of p)) e (up_in (p ∷ ps) 0 p (omega arith))))

-- ---- the walk moves

-- a new task stays bare
bare_on : (s after : WalkState) (n : ℕ) → ((k : ℕ) → mark_of s.marks k ≢ New → mark_of after.marks k ≢ New) → after.rows ≡ s.rows → IsBare s n
    → IsBare after n
bare_on s after n rise rows is = record { met = rise n is.met; alone = ap (λ (rs : List Row). (row_at rs n).needs) rows ∙ is.alone }

module _ (u : Update) (c : Core) (f : Frames) (plan : IsPlanNow u c.plan) (e : IsExactCore u c) (rests : Rests c.frames) (going : IsResting u c) where
  moved_by : Stands f.walk → Moves c.frames.walk f.walk → Moved (site_of u c) (build_of c) f.walk
  moved_by v m = record {
    exact = e.are.tables;
    stays = moves_stay u c.tables.names c.tables.records c.frames.walk f.walk e.are.tables rests.stands v m;
    moves = m;
  }

  open_task : (v : Stands f.walk) (m : Moves c.frames.walk f.walk) → ((k : ℕ) → mark_of c.frames.walk.marks k ≢ New → mark_of f.walk.marks k ≢ New)
      → f.walk.rows ≡ c.frames.walk.rows → (n : ℕ) → IsNew (build_of c) n → IsOpenTask u c f.walk n
  open_task v m rise rows n new = record {
    exact = (moved_by v m).stays.exact;
    stands = v;
    unrecorded = new.unrecorded;
    bare = bare_on c.frames.walk f.walk n rise rows (going.bare n new);
  }

  -- a task is taken
  module _ (task : TaskNo) (has : HasTaken c.frames f task) where
    v : Stands f.walk
    v = has.holds.taken.stands

    m : Moves c.frames.walk f.walk
    m = takes_move c.frames.walk f.walk task rests.stands v has.taken

    idle : IsIdle c.frames.walk.marks task.0
    idle = rests.stands.holds.calm task.0 has.taken.was

    rows : f.walk.rows ≡ c.frames.walk.rows
    rows = ap (λ (z : WalkState). z.rows) has.taken.same

    only : OnlyIsNew (build_of c) task.0
    only n new =
        sym (on_top_of u c f.walk n (Waits task)
        (open_task v m (met_stays c.frames.walk.marks f.walk.marks has.taken.rise) rows n new) has.taken.top)

    ran_before : (k : ℕ) → runs (mark_of f.walk.marks k) ≡ true → k ≢ task.0 → runs (mark_of c.frames.walk.marks k) ≡ true
    ran_before k run apart =
        waits_runs c.frames.walk rests.stands k (elim (contains_cases task.0 k (waiting c.frames.walk.stack)
        (subst (λ (ns : List ℕ). Contains ns k) has.taken.counts.waits (runs_waits f.walk v k run))) [
          | inl same ↦ absurd (apart (sym same))
          | inr later ↦ later
        ])

    pub taken_from : (t : Task) → slice_get c.tables.names task.0 ≡ Some t → IsTakenFrom u (record c { frames = f }) c.frames.walk task.0
    taken_from t named = record {
      taken = taken_exact u c f task e rests has;
      task = t;
      takes = record {
        move = moved_by v m;
        only = only;
        named = named;
        was = idle_not_runs c.frames.walk.marks task.0 idle;
        up = ap runs (run_now f task has);
        empty = (taken_exact u c f task e rests has).unstarted.unstaged;
        old = λ rec kept. base rec kept;
      };
      rest = subst (λ ps. AreAtRest (site_of u c) (build_of c) (callers_up ps.items)) (sym has.parked) going.rest;
      bare = λ none.
          let new : IsNew (build_of c) task.0 =
          record { task = t; named = named; unrecorded = none; idle = idle_not_runs c.frames.walk.marks task.0 idle } in
          ap (λ (rs : List Row). (row_at rs task.0).needs) rows ∙ (going.bare task.0 new).alone;
      marked = λ k run apart. going.marked k (ran_before k run apart);
    }
      where
        run_now : (g : Frames) (k : TaskNo) → HasTaken c.frames g k → mark_of g.walk.marks k.0 ≡ Runs
        run_now g k h = top_runs g.walk k h.holds.top h.holds.taken.stands.holds

        same_task : (rec : TaskRecord) → kept_of c.tables.records task.0 ≡ Some rec → rec.task ≡ t
        same_task rec kept = one_some rec.task t (sym (e.are.tables.named task.0 rec kept) ∙ named)

        base : (rec : TaskRecord) → kept_of c.tables.records task.0 ≡ Some rec → IsBaseOf u (enc_task t)
        base rec kept =
            subst (λ (x : Task). IsBaseOf u (enc_task x)) (same_task rec kept)
            (old_base u rec plan.update (e.are.tables.old task.0 rec kept (idle_not_settled c.frames.walk.marks task.0 idle)))

  -- the newest that waits goes on
  answered_none : (task : TaskNo) (p : Parked) → HasAnswered c.frames f task p → NoneIsNew (build_of c)
  answered_none task p has n new =
      let v = has.holds.taken.stands in
      let m = walks_move c.frames.walk f.walk rests.stands v has.answered.walks in
      let same =
      on_top_of u c f.walk n (Waits task)
      (open_task v m (met_stays c.frames.walk.marks f.walk.marks has.answered.walks.rise) (ap (λ (z : WalkState). z.rows) has.answered.walks.same) n new)
      has.answered.top in
      let run = subst (λ (k : ℕ). runs (mark_of c.frames.walk.marks k) ≡ true) same (answered_ran c.frames f task p rests has) in
      let clash : true ≡ false = sym run ∙ new.idle in cc

  -- nothing is left
  over_none : IsOver c.frames f → NoneIsNew (build_of c)
  over_none over n new =
      let v = over.rests.stands in
      let m = walks_move c.frames.walk f.walk rests.stands v over.ended.walks in
      off_stack u c f.walk n
      (open_task v m (met_stays c.frames.walk.marks f.walk.marks over.ended.walks.rise) (ap (λ (z : WalkState). z.rows) over.ended.walks.same) n new)
      over.ended.empty

  -- no task becomes new by a move
  new_before : (m : Moves c.frames.walk f.walk) → (n : ℕ) → IsNew (build_of (record c { frames = f })) n → IsNew (build_of c) n
  new_before m n new = record { task = new.task; named = new.named; unrecorded = new.unrecorded; idle = (m.resting n new.idle).0 }

  pub answered_rest : (task : TaskNo) (p : Parked) → HasAnswered c.frames f task p
      → AreAtRest (site_of u c) (build_of (record c { frames = f })) (p.caller ∷ callers_up f.parked.items)
  answered_rest task p has =
      let v = has.holds.taken.stands in
      subst (AreAtRest (site_of u c) (build_of (record c { frames = f }))) (ap callers_up has.parked ∙ callers_push f.parked.items p)
      (moves_rest (site_of u c) (build_of c) f.walk (callers_up c.frames.parked.items)
      (moved_by v (walks_move c.frames.walk f.walk rests.stands v has.answered.walks)) going.rest)

  pub answered_alone : (task : TaskNo) (p : Parked) → HasAnswered c.frames f task p → NoneIsNew (build_of (record c { frames = f }))
  answered_alone task p has n new =
      answered_none task p has n (new_before (walks_move c.frames.walk f.walk rests.stands has.holds.taken.stands has.answered.walks) n new)

  pub walks_marked : Walks c.frames.walk f.walk → Stands f.walk → (n : ℕ) → runs (mark_of f.walk.marks n) ≡ true → IsMarked c.tables.ran.items n
  walks_marked walks v n run =
      going.marked n (waits_runs c.frames.walk rests.stands n
      (subst (λ (ns : List ℕ). Contains ns n) walks.counts.waits (runs_waits f.walk v n run)))

  -- nothing waits where nothing is left
  pub over_rest : IsOver c.frames f → IsResting u (record c { frames = f })
  over_rest over =
      let v = over.rests.stands in
      let m = walks_move c.frames.walk f.walk rests.stands v over.ended.walks in
      record {
        rest = subst (λ ps. AreAtRest (site_of u c) (build_of (record c { frames = f })) (callers_up ps))
            (none_parked c.frames.parked.items (rests.tied ∙ sym over.ended.walks.counts.waits ∙ ap waiting over.ended.empty) ∙ sym over.parked)
            (moves_rest (site_of u c) (build_of c) f.walk (callers_up c.frames.parked.items) (moved_by v m) going.rest);
        bare = λ n new. absurd (over_none over n (new_before m n new));
        marked = walks_marked over.ended.walks v;
      }

  pub over_alone : IsOver c.frames f → NoneIsNew (build_of (record c { frames = f }))
  over_alone over n new =
      over_none over n (new_before (walks_move c.frames.walk f.walk rests.stands over.rests.stands over.ended.walks) n new)
