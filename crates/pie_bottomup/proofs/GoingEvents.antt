-- The task in hand ends or waits, and the others wait on.
use Rattle.std.proofs.Common.{◌≡◌, ◌≢◌, ◌⊎◌, ℕ, ◌<◌, ◌≤◌, Bool, true, false, cond, List, ◌∷◌, Option, None, Some, Result, length, sym, ap, ◌∙◌, subst, inl, inr, arith}
use Rattle.std.specs.Prelude.{slice_get, IfOk}
use Rattle.std.proofs.lemmas.List.{get_or-set_other}
use Rattle.pie_base.specs.declared.fault.FaultKind.{FaultKind}
use Rattle.pie_base.specs.declared.fault.FaultKind.TheVariants.{Big}
use Rattle.pie_value.specs.declared.task.Task.{Task}
use Rattle.pie_value.specs.declared.event.Event.{Event}
use Rattle.pie_value.specs.declared.event.Event.TheVariants as events
use Rattle.pie_value.specs.declared.event.How.{How}
use Rattle.pie_value.specs.declared.value.Value.{Value}
use Rattle.pie_value.specs.Values.{tree_of}
use Rattle.pie_value.specs.Limits.{is_small, is_small_task}
use Rattle.pie_graph.specs.declared.edges.TaskNo.{TaskNo}
use Rattle.pie_graph.specs.Numbers.{IsMarked}
use Rattle.pie_graph.specs.Rows.{Row, row_at, no_edges}
use Rattle.pie_record.specs.declared.task_record.Outcome.{Outcome}
use Rattle.pie_record.specs.declared.task_record.Outcome.TheVariants.{Done, Failed}
use Rattle.pie_record.specs.declared.task_record.TaskRecord.{TaskRecord}
use Rattle.pie_union.specs.Requiring.{requiring}
use Rattle.pie_walk.specs.declared.marks.Mark.TheVariants.{New}
use Rattle.pie_walk.specs.Marks.{mark_of}
use Rattle.pie_walk.specs.States.{WalkState, met, with_need}
use Rattle.pie_walk.specs.Standing.{Stands}
use Rattle.pie_walk.proofs.StateSteps.{top_runs}
use Rattle.pie_running.specs.declared.frame.Caller.{Caller}
use Rattle.pie_running.specs.declared.frame.RunningTask.{RunningTask}
use Rattle.pie_running.specs.declared.frame.Waiting.{Waiting}
use Rattle.pie_running.specs.inner.Noted.{Noted}
use Rattle.pie_frames.specs.declared.parked.Parked.{Parked}
use Rattle.pie_frames.specs.declared.frames.Frames.{Frames}
use Rattle.pie_frames.specs.inner.Standing.{Holds, number_of}
use Rattle.pie_frames.specs.inner.Turns.{HasParked}
use Rattle.pie_frames.proofs.Handing.{required_rows}
use Rattle.pie_model.proofs.Basics.{clash}
use Rattle.pie_compare_laws.proofs.Ways.{one_some}
use Rattle.pie_core_laws.specs.Update.{Update}
use Rattle.pie_core_laws.specs.Exact.{runs}
use Rattle.pie_core_laws.specs.Moving.{Moves}
use Rattle.pie_core_laws.proofs.Exactly.{same_or_not}
use Rattle.pie_core_laws.proofs.Moved.{moves_stay}
use Rattle.pie_core_laws.proofs.Visited.{requires_move}
use Rattle.pie_task_laws.specs.Beginning.{calling}
use Rattle.pie_task_laws.specs.Coming.{EndsRight, failed_by, output_by}
use Rattle.pie_running.specs.declared.frame.Told.{Told}
use Rattle.pie_running.specs.declared.frame.Told.TheVariants.{Goes as GoesOnAs, Fails}
use Rattle.pie_task_laws.specs.Whole.{AreAtRest, EndsOne}
use Rattle.pie_base.specs.Path.{is_out}
use Rattle.pie_files.specs.Directory.{Directory}
use Rattle.pie_view.specs.Content.{Staged}
use Rattle.pie_running.specs.inner.Sights.{listing_in}
use Rattle.pie_running.specs.inner.Told.{IsToldList, IsToldWrite}
use Rattle.pie_task_laws.specs.Sites.{IsSound}
use Rattle.pie_task_laws.specs.Telling.{GoesAs}
use Rattle.pie_task_laws.specs.Whole.{NoneIsNew}
use Rattle.pie_running.specs.declared.frame.Paused.{Paused}
use Rattle.pie_running.specs.declared.frame.Paused.TheVariants.{Asks, Ends, Fails as Stops}
use Rattle.pie_task_laws.specs.Coming.{IsAsking, Gives}
use Rattle.pie_task_laws.proofs.Pausing.{pauses}
use Rattle.pie_bottomup.specs.declared.state.InHand.{InHand}
use Rattle.pie_bottomup.proofs.Owning.{same_own}
use Rattle.pie_task_laws.proofs.Told.{list_told}
use Rattle.pie_task_laws.proofs.Writing.{write_told}
use Rattle.pie_bottomup.specs.inner.Exact.{HoldsAsOld}
use Rattle.pie_bottomup.proofs.ExactAsking.{listed_owns, written_owns, written_exact}
use Rattle.pie_task_laws.proofs.Answered.{big_fails}
use Rattle.pie_task_laws.proofs.Together.{moves_rest, ended_rest, requirers_rest, new_requirers_rest}
use Rattle.pie_bottomup.specs.declared.plan.Plan.{Plan}
use Rattle.pie_bottomup.specs.declared.state.Core.{Core}
use Rattle.pie_bottomup.specs.declared.state.Turn.{Turn}
use Rattle.pie_bottomup.specs.inner.States.{IsCore, IsOwn, IsSite}
use Rattle.pie_bottomup.specs.inner.Exact.{IsExactCore, BeginsAsOld, AddsExact, StillBegins}
use Rattle.pie_bottomup.specs.inner.Going.{site_of, build_of, callers_up, EndsAlone, MayEndAs, MayMeet, Goes, IsWhole, IsBuildNow, HasGrown, IsAskingNow}
use Rattle.pie_bottomup.specs.inner.Going.{EndsWhole, NotesWhole, ParksWhole, RequiresWhole, GoesOn, IsWorking, ToldWhole, AsksWhole, GoesWhole, StandsWhole, StepsWhole}
use Rattle.pie_bottomup.proofs.ExactGrowing.{parked_exact}
use Rattle.pie_bottomup.proofs.ExactSteps.{if_ok_more, noted_row}
use Rattle.pie_bottomup.proofs.Going.{is_met}
use Rattle.pie_bottomup.proofs.GoingAnswers.{may_end}
use Rattle.pie_bottomup.proofs.GoingOn.{callers_push}
use Rattle.pie_bottomup.proofs.GoingRoots.{met_runs, grown_comes, grown_meets}
use Rattle.pie_bottomup.proofs.Trying.{tried_required}

-- ---- it ends

pub notes_goes : {E : Type 0} (c new : Core) (task : TaskNo) (from : ℕ) (n : Noted) (o : Outcome) (rec : TaskRecord) (r : Result Turn E)
    → slice_get c.tables.names task.0 ≡ Some rec.task → rec.deps ≡ n.deps → rec.writes ≡ n.writes → rec.outcome ≡ o
    → IfOk r (EndsWhole c task.0 from rec new) → IfOk r (NotesWhole c task from n o new)
notes_goes c new task from n o rec r named deps writes same =
    if_ok_more (EndsWhole c task.0 from rec new) (NotesWhole c task from n o new)
    (λ turn ends u now e begins own may.
    ends (noted_row c task from n rec own deps) u now e begins (may_end u c task.0 n o rec may named deps writes same) may.alone) r

-- it fails
pub fails_goes : {E : Type 0} (c new : Core) (task : TaskNo) (from : ℕ) (n : Noted) (t : Task) (k : FaultKind) (r : Result Turn E)
    → slice_get c.tables.names task.0 ≡ Some t → IfOk r (NotesWhole c task from n (Failed (record { task = t; kind = k })) new)
    → IfOk r (NotesWhole c task from n (failed_by n k) new)
fails_goes c new task from n t k r named =
    if_ok_more (NotesWhole c task from n (Failed (record { task = t; kind = k })) new) (NotesWhole c task from n (failed_by n k) new)
    (λ turn notes u now e begins own may.
    notes u now e begins own
    (subst (λ (x : Task). MayEndAs u c task.0 n (Failed (record { task = x; kind = k }))) (one_some n.task t (sym may.named ∙ named)) may)) r

-- ---- it waits

pub parked_whole : (u : Update) (c : Core) (f : Frames) (task : TaskNo) (p : Parked) → IsExactCore u c → Holds task c.frames
    → HasParked c.frames f task p → number_of p ≡ task.0 → p.callee.0 < length c.frames.walk.rows
    → p.from ≤ length (row_at c.frames.walk.rows task.0).needs → BeginsAsOld c.tables c.frames.walk.rows task.0 p.from → c.hand ≡ None
    → MayMeet u c (p.caller ∷ callers_up c.frames.parked.items) p.callee.0 → IsWhole u (record c { frames = f })
parked_whole u c f task p e holds has number callee within begins free may =
    let s = c.frames.walk in
    let w = holds.taken.stands in
    let run : runs (mark_of s.marks task.0) ≡ true = ap runs (top_runs s task holds.top w.holds) in
    let inside : p.callee.0 < length s.marks = omega (arith, callee, w.holds.marks_sized) in
    let m : Moves s f.walk = subst (Moves s) (sym has.walk) (requires_move s f.walk.places task.0 p.callee w run callee) in
    record {
      exact = parked_exact u c f task p e holds has number callee within begins free;
      going = subst (Goes u (record c { frames = f })) (sym free) (record {
        rest = subst (AreAtRest (site_of u c) (build_of (record c { frames = f }))) (sym (ap callers_up has.parked ∙ callers_push c.frames.parked.items p))
            (moves_rest (site_of u c) (build_of c) f.walk (p.caller ∷ callers_up c.frames.parked.items) (record {
              exact = e.are.tables;
              stays = moves_stay u c.tables.names c.tables.records s f.walk e.are.tables w has.rests.stands m;
              moves = m;
            }) may.rest);
        bare = λ n new.
            let idle = (m.resting n new.idle).0 in
            let was = may.alone n (record { task = new.task; named = new.named; unrecorded = new.unrecorded; idle = idle }) in
            record {
              met = subst (λ (z : WalkState). mark_of z.marks n ≢ New) (sym has.walk)
                  (subst (λ (k : ℕ). mark_of (met (with_need s f.walk.places task.0 p.callee.0) p.callee).marks k ≢ New) (sym was.0)
                  (is_met (with_need s f.walk.places task.0 p.callee.0) p.callee inside));
              alone = ap (λ (rs : List Row). (row_at rs n).needs) (required_rows s f.walk f.walk.places task.0 p.callee has.walk)
                  ∙ ap (λ (r : Row). r.needs) (get_or-set_other s.rows task.0 n (requiring (row_at s.rows task.0) p.callee.0) no_edges
                  (λ same. clash (runs (mark_of s.marks task.0)) run (ap (λ (k : ℕ). runs (mark_of s.marks k)) (sym same) ∙ idle)))
                  ∙ was.1;
            };
        marked = λ n is.
            may.marked n (met_runs (with_need s f.walk.places task.0 p.callee.0) p.callee n inside
            (subst (λ (z : WalkState). runs (mark_of z.marks n) ≡ true) has.walk is));
      });
    }

-- ---- it requires

abbrev run_of : Waiting → RunningTask
run_of w = record { code = w.code; machine = w.machine; notes = w.notes }

-- where it ends, the others wait on
pub asking_alone : (u : Update) (c : Core) (task : TaskNo) (w : Waiting) (e : Event) → w.notes.number ≡ task.0 → IsAskingNow u c w e → EndsAlone u c task.0
asking_alone u c task w e number now = record {
  others = λ changed after ends.
      ended_rest (site_of u c) (build_of c) (callers_up c.frames.parked.items) (run_of w) changed after (record { runs = now.asking.runs; none = now.none })
      (subst (EndsOne (site_of u c) (build_of c) changed after) (sym number) ends);
  none = now.none;
  marked = λ n is d. now.marked n is;
}

-- one past the limits
pub big_goes : {E : Type 0} (c new : Core) (task : TaskNo) (from : ℕ) (w : Waiting) (t : Task) (how : How) (r : Result Turn E) → Holds task c.frames
    → 0 < w.notes.left → is_small_task t ≡ false → IsOwn c task from w.notes → IfOk r (NotesWhole c task from w.notes (failed_by w.notes Big) new)
    → IfOk r (RequiresWhole c task from (calling w t how) new)
big_goes c new task from w t how r holds left big own =
    if_ok_more (NotesWhole c task from w.notes (failed_by w.notes Big) new) (RequiresWhole c task from (calling w t how) new)
    (λ turn notes u now e begins asks.
    notes u now e begins own (record {
      number = own.number;
      named = subst (λ (m : ℕ). slice_get c.tables.names m ≡ Some w.notes.task) own.number own.noted.task;
      right = big_fails (site_of u c) (build_of c) (callers_up c.frames.parked.items) w t how asks.asking left big;
      ran = asks.marked task.0 (ap runs (top_runs c.frames.walk task holds.top holds.taken.stands.holds));
      alone = asking_alone u c task w (events.Require t how) own.number asks;
    })) r

-- one that has a number
pub parks_goes : {E : Type 0} (c new : Core) (task : TaskNo) (from : ℕ) (w : Waiting) (t : Task) (how : How) (caller : Caller) (k : ℕ) (r : Result Turn E)
    → caller ≡ calling w t how → 0 < w.notes.left → is_small_task t ≡ true → slice_get c.tables.names k ≡ Some t
    → IfOk r (ParksWhole c task.0 from caller k new) → IfOk r (RequiresWhole c task from (calling w t how) new)
parks_goes c new task from w t how caller k r same left small named =
    if_ok_more (ParksWhole c task.0 from caller k new) (RequiresWhole c task from (calling w t how) new)
    (λ turn parks u now e begins asks.
    parks u now e begins
    (subst (λ (d : Caller). MayMeet u c (d ∷ callers_up c.frames.parked.items) k) (sym same) (record {
      rest = requirers_rest (site_of u c) (build_of c) (callers_up c.frames.parked.items) w t how k e.are.tables asks.none left asks.asking small named;
      alone = λ n is. absurd (asks.none n is);
      marked = asks.marked;
    }))) r

-- a new one
pub grows_goes : {E : Type 0} (c mid new : Core) (task : TaskNo) (from : ℕ) (d : Caller) (callee : TaskNo) (r : Result Turn E) → mid.plan ≡ c.plan
    → IsSite c → Stands c.frames.walk → Stands mid.frames.walk → HasGrown c d.required mid → callee.0 ≡ length c.frames.walk.rows → AddsExact c d.required mid
    → StillBegins c mid task.0 from → 0 < d.waiting.notes.left → is_small_task d.required ≡ true
    → IfOk r (ParksWhole mid task.0 from d callee.0 new) → IfOk r (RequiresWhole c task from d new)
grows_goes c mid new task from d callee r plan site w v grown last adds still left small =
    if_ok_more (ParksWhole mid task.0 from d callee.0 new) (RequiresWhole c task from d new)
    (λ turn parks u now e begins asks.
    parks u (subst (IsBuildNow u) (sym plan) now) (adds v u (tried_required u c d.waiting d.required d.how now site w e left small asks) e) (still begins)
    (subst (λ ps. MayMeet u mid (d ∷ callers_up ps.items) callee.0) (sym grown.parked)
    (subst (λ (p : Plan). MayMeet u (record mid { plan = p }) (d ∷ callers_up c.frames.parked.items) callee.0) (sym plan)
    (grown_meets u c mid d.required e site.tables w v site.sized grown.few grown asks.none (d ∷ callers_up c.frames.parked.items) callee.0 last asks.marked
    (new_requirers_rest (site_of u c) (build_of c) (callers_up c.frames.parked.items) d.waiting d.required d.how
    (grown_comes u c mid d.required e site.tables w v site.sized grown.few grown asks.none) asks.none (few u grown.few site.sized) left asks.asking small))))) r
  where
    few : (u : Update) → length c.frames.walk.rows < 50000 → length c.tables.names ≡ length c.frames.walk.rows → length c.tables.names < 50000
    few u l sized = omega (arith, l, sized)

-- ---- it was told something

pub done_goes : {E : Type 0} (c new : Core) (task : TaskNo) (from : ℕ) (n : Noted) (v : Value) (b : Bool) (o : Outcome) (r : Result Turn E)
    → b ≡ is_small (tree_of v) → cond b (Done v) (failed_by n Big) ≡ o → IfOk r (NotesWhole c task from n o new)
    → IfOk r (NotesWhole c task from n (output_by n v) new)
done_goes c new task from n v b o r same is = subst (λ (x : Outcome). IfOk r (NotesWhole c task from n x new))
    (sym is ∙ ap (λ (z : Bool). cond z (Done v) (failed_by n Big)) same)

-- it goes on
pub told_whole : (u : Update) (c : Core) (task : TaskNo) (from : ℕ) (f : RunningTask) → IsExactCore u c → BeginsAsOld c.tables c.frames.walk.rows task.0 from
    → GoesOn u c task.0 (GoesOnAs f) → IsWhole u (record c { hand = Some (record { no = task; from = from; task = f }) })
told_whole u c task from f e begins on = record {
  exact = record { tested = e.tested; counted = e.counted; tried = e.tried; are = e.are; parked = e.parked; hand = begins };
  going = record {
    work = record { runs = on.goes; none = on.alone.none };
    marked = λ n is. by n is (same_or_not task.0 n);
  };
}
  where
    by : (n : ℕ) → runs (mark_of c.frames.walk.marks n) ≡ true → (n ≡ task.0) ⊎ (n ≢ task.0) → IsMarked c.tables.ran.items n
    by n is (inl same) = subst (IsMarked c.tables.ran.items) (sym same) on.ran
    by n is (inr other) = on.alone.marked n is other

-- or fails
pub told_fails : {E : Type 0} (c new : Core) (task : TaskNo) (from : ℕ) (n : Noted) (k : FaultKind) (r : Result Turn E)
    → IfOk r (NotesWhole c task from n (failed_by n k) new) → IfOk r (ToldWhole c task from (Fails n k) new)
told_fails c new task from n k r =
    if_ok_more (NotesWhole c task from n (failed_by n k) new) (ToldWhole c task from (Fails n k) new)
    (λ turn notes u now e begins own on.
    notes u now e begins own (record {
      number = own.number;
      named = subst (λ (m : ℕ). slice_get c.tables.names m ≡ Some n.task) own.number own.noted.task;
      right = on.goes;
      ran = on.ran;
      alone = on.alone;
    })) r

-- what it is told is of the model
pub told_on : (u : Update) (c : Core) (task : TaskNo) (w : Waiting) (e : Event) (t : Told) → Holds task c.frames → w.notes.number ≡ task.0
    → IsAskingNow u c w e → GoesAs (site_of u c) (build_of c) (callers_up c.frames.parked.items) t → GoesOn u c task.0 t
told_on u c task w e t holds number now goes = record {
  goes = goes;
  ran = now.marked task.0 (ap runs (top_runs c.frames.walk task holds.top holds.taken.stands.holds));
  alone = asking_alone u c task w e number now;
}

pub list_goes : {E : Type 0} (held : Option Directory) (c new : Core) (task : TaskNo) (from : ℕ) (w : Waiting) (dir : List ℕ) (t : Told)
    (r : Result Turn E) → Holds task c.frames → 0 < w.notes.left → IsOwn c task from w.notes
    → ((d : Directory) → held ≡ Some d → IsToldList w dir (listing_in d dir) t) → IfOk r (ToldWhole c task from t new)
    → IfOk r (AsksWhole held c task from w (events.List dir) new)
list_goes held c new task from w dir t r holds left own tells =
    if_ok_more (ToldWhole c task from t new) (AsksWhole held c task from w (events.List dir) new)
    (λ turn told u now site e begins asks.
    let is = tells u.directory site.holds in
    told u now e begins (listed_owns c task from w dir (listing_in u.directory dir) t is own)
    (told_on u c task w (events.List dir) t holds own.number asks
    (list_told (site_of u c) (build_of c) (callers_up c.frames.parked.items) w dir t asks.asking left is))) r

-- it wrote
module _ (u : Update) (c : Core) (task : TaskNo) (from : ℕ) (w : Waiting) (path bytes : List ℕ) (later : Staged) (holds : Holds task c.frames)
    (own : IsOwn c task from w.notes) (asks : IsAskingNow u c w (events.Write path bytes)) where
  abbrev then : Core
  then = record c { stage = later }

  none_then : NoneIsNew (build_of then)
  none_then n is = asks.none n (record { task = is.task; named = is.named; unrecorded = is.unrecorded; idle = is.idle })

  written_alone : (b : Bool) (t : Told) → IsToldWrite b w c.stage later path bytes t
      → GoesAs (site_of u then) (build_of then) (callers_up c.frames.parked.items) t → EndsAlone u then task.0
  written_alone true (GoesOnAs f) is goes = record {
    others = λ changed after ends.
        ended_rest (site_of u then) (build_of then) (callers_up c.frames.parked.items) f changed after (record { runs = goes; none = none_then })
        (subst (EndsOne (site_of u then) (build_of then) changed after) (sym (ap (λ (n : Noted). n.number) is.1.notes ∙ own.number)) ends);
    none = none_then;
    marked = λ n run d. asks.marked n run;
  }
  written_alone true (Fails n k) is goes = absurd is
  written_alone false t is goes =
      subst (λ (s : Staged). EndsAlone u (record c { stage = s }) task.0) (sym is.0) (asking_alone u c task w (events.Write path bytes) own.number asks)

  pub written_on : (t : Told) → IsSound (site_of u c) (build_of c) → 0 < w.notes.left → IsToldWrite (is_out path) w c.stage later path bytes t
      → GoesOn u then task.0 t
  written_on t sound left is =
      let goes = write_told (site_of u c) (build_of c) (callers_up c.frames.parked.items) w path bytes later t sound asks.asking left is in
      record {
        goes = goes;
        ran = asks.marked task.0 (ap runs (top_runs c.frames.walk task holds.top holds.taken.stands.holds));
        alone = written_alone (is_out path) t is goes;
      }

pub write_goes : {E : Type 0} (held : Option Directory) (c new : Core) (task : TaskNo) (from : ℕ) (w : Waiting) (path bytes : List ℕ) (later : Staged)
    (t : Told) (r : Result Turn E) → Holds task c.frames → 0 < w.notes.left → IsOwn c task from w.notes
    → IsToldWrite (is_out path) w c.stage later path bytes t → IfOk r (ToldWhole (record c { stage = later }) task from t new)
    → IfOk r (AsksWhole held c task from w (events.Write path bytes) new)
write_goes held c new task from w path bytes later t r holds left own is =
    if_ok_more (ToldWhole (record c { stage = later }) task from t new) (AsksWhole held c task from w (events.Write path bytes) new)
    (λ turn told u now site e begins asks.
    told u now (written_exact u c task from later w path bytes (is_out path) t holds own is e) begins
    (written_owns c task from later w path bytes (is_out path) t own is)
    (written_on u c task from w path bytes later holds own asks t
    (record { exact = e.are.tables; stands = holds.taken.stands; apart = now.apart }) left is)) r

-- ---- what comes of the task in hand

pub asks_goes : {E : Type 0} (held : Option Directory) (c new : Core) (h : InHand) (p : Paused) (w : Waiting) (e : Event) (r : Result Turn E)
    → p ≡ Asks w e → Gives h.task p → IfOk r (AsksWhole held c h.no h.from w e new) → IfOk r (GoesWhole held c h new)
asks_goes held c new h p w e r is gives =
    if_ok_more (AsksWhole held c h.no h.from w e new) (GoesWhole held c h new)
    (λ turn treats u now site ex begins working.
    let mine = subst (Gives h.task) is gives in
    let asking : IsAsking (site_of u c) (build_of c) (callers_up c.frames.parked.items) w e =
    pauses (site_of u c) (build_of c) (callers_up c.frames.parked.items) now.plan.compiled ex.are.tables h.task (Asks w e) working.work.runs mine in
    treats u now site ex begins (record { asking = asking; effect = mine.comes.2; none = working.work.none; marked = working.marked })) r

-- it ends with these notes
ends_may : (u : Update) (c : Core) (h : InHand) (n : Noted) (o : Outcome) → Holds h.no c.frames → IsOwn c h.no h.from h.task.notes → n ≡ h.task.notes
    → IsWorking u c h.task → EndsRight (site_of u c) (build_of c) n o → MayEndAs u c h.no.0 n o
ends_may u c h n o holds own same working right =
    let mine = same_own c h.no h.from h.task.notes n same own in
    record {
      number = mine.number;
      named = subst (λ (m : ℕ). slice_get c.tables.names m ≡ Some n.task) mine.number mine.noted.task;
      right = right;
      ran = working.marked h.no.0 (ap runs (top_runs c.frames.walk h.no holds.top holds.taken.stands.holds));
      alone = record {
        others = λ changed after ends.
            ended_rest (site_of u c) (build_of c) (callers_up c.frames.parked.items) h.task changed after working.work
            (subst (EndsOne (site_of u c) (build_of c) changed after) (sym own.number) ends);
        none = working.work.none;
        marked = λ k is d. working.marked k is;
      };
    }

pub hand_done : {E : Type 0} (held : Option Directory) (c new : Core) (h : InHand) (p : Paused) (n : Noted) (v : Value) (r : Result Turn E)
    → Holds h.no c.frames → IsOwn c h.no h.from h.task.notes → p ≡ Ends n v → Gives h.task p
    → IfOk r (NotesWhole c h.no h.from n (output_by n v) new) → IfOk r (GoesWhole held c h new)
hand_done held c new h p n v r holds own is gives =
    if_ok_more (NotesWhole c h.no h.from n (output_by n v) new) (GoesWhole held c h new)
    (λ turn notes u now site ex begins working.
    let mine = subst (Gives h.task) is gives in
    notes u now ex begins (same_own c h.no h.from h.task.notes n mine.comes own)
    (ends_may u c h n (output_by n v) holds own mine.comes working
    (pauses (site_of u c) (build_of c) (callers_up c.frames.parked.items) now.plan.compiled ex.are.tables h.task (Ends n v) working.work.runs mine))) r

pub hand_fails : {E : Type 0} (held : Option Directory) (c new : Core) (h : InHand) (p : Paused) (n : Noted) (k : FaultKind) (r : Result Turn E)
    → Holds h.no c.frames → IsOwn c h.no h.from h.task.notes → p ≡ Stops n k → Gives h.task p
    → IfOk r (NotesWhole c h.no h.from n (failed_by n k) new) → IfOk r (GoesWhole held c h new)
hand_fails held c new h p n k r holds own is gives =
    if_ok_more (NotesWhole c h.no h.from n (failed_by n k) new) (GoesWhole held c h new)
    (λ turn notes u now site ex begins working.
    let mine = subst (Gives h.task) is gives in
    notes u now ex begins (same_own c h.no h.from h.task.notes n mine.comes own)
    (ends_may u c h n (failed_by n k) holds own mine.comes working
    (pauses (site_of u c) (build_of c) (callers_up c.frames.parked.items) now.plan.compiled ex.are.tables h.task (Stops n k) working.work.runs mine))) r

-- ---- a step

none_some : (h : InHand) → None ≡ Some h → ⊥
none_some h e = cc

-- where a task is in hand, the first step is done
pub in_hand_whole : (u : Update) (c : Core) (h : InHand) → c.hand ≡ Some h → IsCore c → StandsWhole u c → IsWhole u c
in_hand_whole u c h some (inl untested) (inl loaded) = absurd (none_some h (sym untested.start.hand ∙ some))
in_hand_whole u c h some (inr going) (inl loaded) = absurd (loaded.0 going.site.tested)
in_hand_whole u c h some core (inr whole) = whole

pub event_whole : {E : Type 0} (held : Option Directory) (old new : Core) (h : InHand) (r : Result Turn E) → IsCore old → old.hand ≡ Some h
    → IfOk r (GoesWhole held (record old { hand = None }) h new) → IfOk r (StepsWhole held old new)
event_whole held old new h r core some =
    if_ok_more (GoesWhole held (record old { hand = None }) h new) (StepsWhole held old new)
    (λ turn goes u now site stands.
    let whole = in_hand_whole u old h some core stands in
    let working = subst (Goes u old) some whole.going in
    goes u now site (record { tested = whole.exact.tested; counted = whole.exact.counted; tried = whole.exact.tried; are = whole.exact.are; parked = whole.exact.parked; hand = tt })
    (subst (HoldsAsOld old.tables old.frames.walk.rows) some whole.exact.hand) (record { work = working.work; marked = working.marked })) r
