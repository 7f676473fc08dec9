-- The tasks that run and wait go on where one that was taken is kept, begins to run or ends.
use Rattle.std.proofs.Common.{◌≡◌, ◌⊎◌, ℕ, ◌<◌, Bool, true, false, List, Option, None, Some, length, refl, sym, ap, ◌∙◌, subst, inl, inr}
use Rattle.std.specs.Prelude.{slice_get, slice_index_or, slice_set}
use Rattle.std.proofs.lemmas.List.{get_or-set_same, get_or-set_other}
use Rattle.pie_value.specs.declared.task.Task.{Task}
use Rattle.pie_value.specs.Canonical.{enc_task, IsCanonicalTask}
use Rattle.pie_types.specs.Whole.{number_from}
use Rattle.pie_graph.specs.declared.edges.TaskNo.{TaskNo}
use Rattle.pie_graph.specs.Numbers.{IsMarked}
use Rattle.pie_graph.specs.Rows.{row_at}
use Rattle.pie_record.specs.declared.records.Records.{Records}
use Rattle.pie_record.specs.declared.task_record.TaskRecord.{TaskRecord}
use Rattle.pie_record.specs.inner.Records.{record_of as kept_of}
use Rattle.pie_tables.specs.declared.tables.Tables.{Tables}
use Rattle.pie_compare.specs.inner.Standing.{RecordStands}
use Rattle.pie_walk.specs.declared.marks.Mark.TheVariants.{New, Settled}
use Rattle.pie_walk.specs.Marks.{mark_of}
use Rattle.pie_walk.specs.States.{WalkState, settled}
use Rattle.pie_walk.proofs.StateSteps.{top_runs}
use Rattle.pie_frames.specs.declared.frames.Frames.{Frames}
use Rattle.pie_frames.specs.inner.Standing.{Rests, Holds}
use Rattle.pie_running.specs.inner.Coded.{HasFunction}
use Rattle.pie_running.specs.inner.Frames.{IsStarted}
use Rattle.pie_model.proofs.Basics.{clash}
use Rattle.pie_builder_laws.specs.Views.{RowIs}
use Rattle.pie_compare_laws.proofs.Ways.{one_some}
use Rattle.pie_core_laws.specs.Update.{Update}
use Rattle.pie_model_pipeline.specs.World.{world}
use Rattle.pie_earlier_laws.specs.Left.{AreThere}
use Rattle.pie_core_laws.specs.Exact.{runs}
use Rattle.pie_core_laws.specs.Finishing.{IsRight}
use Rattle.pie_core_laws.specs.Running.{IsBaseOf}
use Rattle.pie_core_laws.proofs.Runs.{lost_right}
use Rattle.pie_task_laws.specs.Going.{MayBegin}
use Rattle.pie_task_laws.proofs.Begun.{lost_end}
use Rattle.pie_core_laws.proofs.Exactly.{settled_not_runs, runs_inside, same_or_not}
use Rattle.pie_task_laws.specs.Whole.{IsNew, AreAtRest, IsAtWork, EndsOne}
use Rattle.pie_task_laws.proofs.Together.{kept_rest, taken_work, lost_rest}
use Rattle.pie_bottomup.specs.declared.state.Core.{Core}
use Rattle.pie_bottomup.specs.declared.state.InHand.{InHand}
use Rattle.pie_bottomup.specs.inner.Finished.{HasFinished, end_row}
use Rattle.pie_bottomup.specs.inner.Exact.{IsPlanNow, IsExactCore, BeginsAsOld, EndedRight, lost_record}
use Rattle.pie_bottomup.specs.inner.Going.{site_of, build_of, callers_up, IsResting, IsTakenFrom, EndsAlone, Goes, IsWhole}
use Rattle.pie_bottomup.proofs.Settling.{put_at, put_other}
use Rattle.pie_bottomup.proofs.ExactEnding.{SettlesOne, kept_stay, kept_exact, ended_stays, finishes, one, ended_exact}
use Rattle.pie_bottomup.proofs.ExactGrowing.{started_exact}

none_some : {A : Type 0} (o : Option A) (x : A) → o ≡ None → o ≡ Some x → ⊥
none_some o x none some = let clash : None ≡ Some x = sym none ∙ some in cc

-- a task of a walk in which one more is settled was as it is, if it runs or doesn't
module _ (s after : WalkState) (n : ℕ) (is : SettlesOne s after n) where
  running_apart : (k : ℕ) → runs (mark_of after.marks k) ≡ true → k ≡ n → ⊥
  running_apart k run e =
      clash (runs (mark_of after.marks k)) run
      (ap (λ (m : ℕ). runs (mark_of after.marks m)) e ∙ settled_not_runs (mark_of after.marks n) is.marked)

  ran_as : (k : ℕ) → runs (mark_of after.marks k) ≡ true → runs (mark_of s.marks k) ≡ true
  ran_as k run = ap runs (sym (is.others k (running_apart k run))) ∙ run

-- ---- it is kept

module _ (u : Update) (c : Core) (f : Frames) (task : TaskNo) (before : WalkState) (plan : IsPlanNow u c.plan) (from : IsTakenFrom u c before task.0)
    (holds : Holds task c.frames) (flag : IsMarked c.plan.same.items task.0) (stands : RecordStands c.tables c.frames.walk.rows c.named task.0)
    (same : f.walk ≡ settled c.frames.walk task.0) (parked : f.parked ≡ c.frames.parked) (rests : Rests f) where
  kept_one : SettlesOne c.frames.walk (settled c.frames.walk task.0) task.0
  kept_one =
      let run = top_runs c.frames.walk task holds.top holds.taken.stands.holds in
      record {
        marked = get_or-set_same c.frames.walk.marks task.0 Settled New (runs_inside c.frames.walk.marks task.0 (ap runs run));
        others = λ k d. get_or-set_other c.frames.walk.marks task.0 k Settled New d;
        flags = λ k h. h;
      }

  kept_new : (n : ℕ) → IsNew (record (build_of c) { walk = settled c.frames.walk task.0 }) n → ⊥
  kept_new n new = by (same_or_not task.0 n)
    where
      by : (n ≡ task.0) ⊎ (n ≡ task.0 → ⊥) → ⊥
      by (inl e) =
          none_some (kept_of c.tables.records n) stands.0 new.unrecorded (ap (kept_of c.tables.records) e ∙ stands.1)
      by (inr d) =
          d (from.takes.only n (record {
            task = new.task;
            named = new.named;
            unrecorded = new.unrecorded;
            idle = (from.takes.move.moves.resting n (ap runs (sym (kept_one.others n d)) ∙ new.idle)).0;
          }))

  kept_resting : IsResting u (record c { frames = record f { walk = settled c.frames.walk task.0 } })
  kept_resting = record {
    rest = subst (λ ps. AreAtRest (site_of u c) (record (build_of c) { walk = settled c.frames.walk task.0 }) (callers_up ps.items)) (sym parked)
        (kept_rest (site_of u c) (record (build_of c) { walk = before }) c.frames.walk task.0 from.task stands.0 (callers_up c.frames.parked.items) from.takes
        from.rest stands.1 (kept_stay u c f task plan from.taken holds flag stands same rests).0);
    bare = λ n new. absurd (kept_new n new);
    marked = λ n run.
        from.marked n (ran_as c.frames.walk (settled c.frames.walk task.0) task.0 kept_one n run)
        (running_apart c.frames.walk (settled c.frames.walk task.0) task.0 kept_one n run);
  }

  pub kept_whole : c.hand ≡ None → IsWhole u (record c { frames = f })
  kept_whole free = record {
    exact = kept_exact u c f task plan from.taken holds flag stands same parked rests;
    going = subst (Goes u (record c { frames = f })) (sym free)
        (subst (λ (w : WalkState). IsResting u (record c { frames = record f { walk = w } })) (sym same) kept_resting);
  }

-- ---- it begins to run

module _ (u : Update) (c : Core) (t : Tables) (task : TaskNo) (h : InHand) (before : WalkState) (from : IsTakenFrom u c before task.0)
    (holds : Holds task c.frames) (names : t.names ≡ c.tables.names) (records : t.records ≡ c.tables.records)
    (ran : t.ran.items ≡ slice_set c.tables.ran.items task.0 true) (inside : task.0 < length c.tables.ran.items) where
  marked_now : (n : ℕ) → runs (mark_of c.frames.walk.marks n) ≡ true → IsMarked t.ran.items n
  marked_now n run = by (same_or_not task.0 n)
    where
      by : (n ≡ task.0) ⊎ (n ≡ task.0 → ⊥) → IsMarked t.ran.items n
      by (inl e) =
          subst (IsMarked t.ran.items) (sym e)
          (ap (λ (flags : List Bool). slice_index_or flags task.0 false) ran ∙ get_or-set_same c.tables.ran.items task.0 true false inside)
      by (inr d) =
          ap (λ (flags : List Bool). slice_index_or flags n false) ran ∙ get_or-set_other c.tables.ran.items task.0 n true false d
          ∙ from.marked n run d

  pub started_whole : h.no ≡ task → h.from ≡ length (row_at c.frames.walk.rows task.0).needs
      → HasFunction u.functions c.plan.code.now from.task h.task.code.now → IsStarted h.task.code.now from.task task.0 h.task
      → IsWhole u (record c { tables = t; hand = Some h })
  started_whole number place function started = record {
    exact = started_exact u c t task h from.taken from.bare holds names records ran number place;
    going = record {
      work = subst (λ (ns : List Task). IsAtWork (site_of u c) (record (build_of c) { names = ns; records = t.records })
          (callers_up c.frames.parked.items) h.task) (sym names)
          (subst (λ (rs : Records). IsAtWork (site_of u c) (record (build_of c) { records = rs }) (callers_up c.frames.parked.items) h.task) (sym records)
          (taken_work (site_of u c) (record (build_of c) { walk = before }) c.frames.walk task.0 from.task (callers_up c.frames.parked.items) h.task
          from.takes from.rest function started));
      marked = marked_now;
    };
  }

-- ---- it ends

module _ (u : Update) (c : Core) (f : Frames) (t : Tables) (task : TaskNo) (from : ℕ) (rec : TaskRecord) (plan : IsPlanNow u c.plan) (e : IsExactCore u c)
    (holds : Holds task c.frames) (rests : Rests f) (names : t.names ≡ c.tables.names) (ran : t.ran.items ≡ c.tables.ran.items)
    (parked : f.parked ≡ c.frames.parked) (free : c.hand ≡ None) (has : HasFinished c (record c { frames = f; tables = t }) task.0 from rec)
    (named : slice_get c.tables.names task.0 ≡ Some rec.task) (begins : BeginsAsOld c.tables c.frames.walk.rows task.0 from)
    (row : RowIs c.tables.names (end_row c.frames.walk task.0 from rec) (Some rec)) (right : EndedRight u c task.0 rec) (alone : EndsAlone u c task.0) where
  right_now : EndedRight u (record c { frames = f; tables = t }) task.0 rec
  right_now = record {
    right = right.right;
    ran = λ path flag. right.ran path (ap (λ (flags : List Bool). slice_index_or flags task.0 false) (sym ran) ∙ flag);
    rested = λ off.
        let q = right.rested (ap (λ (flags : List Bool). slice_index_or flags task.0 false) (sym ran) ∙ off) in
        (q.0, record { rested = off; unstaged = q.1.unstaged });
    lost = λ off. right.lost (ap (λ (flags : List Bool). slice_index_or flags task.0 false) (sym ran) ∙ off);
  }

  settles : SettlesOne c.frames.walk f.walk task.0
  settles = one u c f t task from rec plan e holds rests names ran parked free has named begins row

  ends_one : EndsOne (site_of u c) (build_of c) t.records f.walk task.0
  ends_one = record {
    row = end_row c.frames.walk task.0 from rec;
    rec = rec;
    exact = e.are.tables;
    stays = ended_stays u c f t task from rec plan e holds rests names ran parked free has named begins row right_now;
    finishes = finishes u c f t task from rec plan e holds rests names ran parked free has named begins row;
    puts = has.puts;
  }

  ended_new : (n : ℕ) → IsNew (build_of (record c { frames = f; tables = t })) n → ⊥
  ended_new n new = by (same_or_not task.0 n)
    where
      by : (n ≡ task.0) ⊎ (n ≡ task.0 → ⊥) → ⊥
      by (inl same) =
          none_some (kept_of t.records n) rec new.unrecorded (ap (kept_of t.records) same ∙ put_at c.tables.records t.records task.0 rec has.puts)
      by (inr d) =
          alone.none n (record {
            task = new.task;
            named = ap (λ (ns : List Task). slice_get ns n) (sym names) ∙ new.named;
            unrecorded = sym (put_other c.tables.records t.records task.0 rec has.puts n d) ∙ new.unrecorded;
            idle = ap runs (sym (settles.others n d)) ∙ new.idle;
          })

  pub ended_whole : IsWhole u (record c { frames = f; tables = t })
  ended_whole = record {
    exact = ended_exact u c f t task from rec plan e holds rests names ran parked free has named begins row right_now;
    going = subst (Goes u (record c { frames = f; tables = t })) (sym free) (record {
      rest = subst (λ ps. AreAtRest (site_of u c) (build_of (record c { frames = f; tables = t })) (callers_up ps.items)) (sym parked)
          (subst (λ (ns : List Task). AreAtRest (site_of u c) (record (build_of c) { names = ns; records = t.records; walk = f.walk })
          (callers_up c.frames.parked.items)) (sym names) (alone.others t.records f.walk ends_one));
      bare = λ n new. absurd (ended_new n new);
      marked = λ n run.
          ap (λ (flags : List Bool). slice_index_or flags n false) ran
          ∙ alone.marked n (ran_as c.frames.walk f.walk task.0 settles n run) (running_apart c.frames.walk f.walk task.0 settles n run);
    });
  }

pub ends_whole : (u : Update) (c new : Core) (task : TaskNo) (from : ℕ) (rec : TaskRecord) → IsPlanNow u c.plan → IsExactCore u c → Holds task c.frames
    → Rests new.frames → new ≡ record c { frames = new.frames; tables = new.tables } → new.tables.ran.items ≡ c.tables.ran.items
    → new.frames.parked ≡ c.frames.parked → c.hand ≡ None → HasFinished c new task.0 from rec → slice_get c.tables.names task.0 ≡ Some rec.task
    → BeginsAsOld c.tables c.frames.walk.rows task.0 from → RowIs c.tables.names (end_row c.frames.walk task.0 from rec) (Some rec)
    → EndedRight u c task.0 rec → EndsAlone u c task.0 → IsWhole u new
ends_whole u c new task from rec plan e holds rests same ran parked free has named begins row right alone =
    subst (IsWhole u) (sym same)
    (ended_whole u c new.frames new.tables task from rec plan e holds rests has.names ran parked free
    (subst (λ (z : Core). HasFinished c z task.0 from rec) same has) named begins row right alone)

-- ---- it is lost

module _ (u : Update) (c : Core) (task : TaskNo) (before : WalkState) (from : IsTakenFrom u c before task.0) where
  pub lost_alone : EndsAlone u c task.0
  lost_alone = record {
    others = λ changed after ends.
        lost_rest (site_of u c) (record (build_of c) { walk = before }) c.frames.walk after changed task.0 from.task (callers_up c.frames.parked.items)
        from.takes from.rest ends;
    none = λ n new.
        let same =
        from.takes.only n (record {
          task = new.task;
          named = new.named;
          unrecorded = new.unrecorded;
          idle = (from.takes.move.moves.resting n new.idle).0;
        }) in
        clash (runs (mark_of c.frames.walk.marks task.0)) from.takes.up (ap (λ (m : ℕ). runs (mark_of c.frames.walk.marks m)) (sym same) ∙ new.idle);
    marked = from.marked;
  }

  lost_right_one : (t : Task) (rec : TaskRecord) → slice_get c.tables.names task.0 ≡ Some t → IsCanonicalTask t (enc_task t)
      → number_from 0 u.functions t ≡ None → rec ≡ lost_record t → (o : Option TaskRecord) → kept_of c.tables.records task.0 ≡ o → IsRight u rec
  lost_right_one t rec named canonical none is (Some was) kept =
      lost_right u t rec
      (subst (λ (x : Task). IsBaseOf u (enc_task x)) (one_some from.task t (sym from.takes.named ∙ named)) (from.takes.old was kept)) canonical none is
  lost_right_one t rec named canonical none is None kept =
      let its : from.task ≡ t = one_some from.task t (sym from.takes.named ∙ named) in
      let new : IsNew (record (build_of c) { walk = before }) task.0 =
      record { task = from.task; named = from.takes.named; unrecorded = kept; idle = from.takes.was } in
      subst (IsRight u) (sym is)
      (lost_end (site_of u c) (record (build_of c) { walk = before }) (callers_up c.frames.parked.items) t task.0 0
      (subst (MayBegin (site_of u c) (record (build_of c) { walk = before }) (callers_up c.frames.parked.items)) its (from.rest.new task.0 new)) canonical none
      from.takes.empty).right

  pub lost_ends : (t : Task) (rec : TaskRecord) → slice_get c.tables.names task.0 ≡ Some t → IsCanonicalTask t (enc_task t)
      → number_from 0 u.functions t ≡ None → rec ≡ lost_record t → EndedRight u c task.0 rec
  lost_ends t rec named canonical none is = record {
    right = lost_right_one t rec named canonical none is (kept_of c.tables.records task.0) refl;
    ran = λ path flag. clash (slice_index_or c.tables.ran.items task.0 false) flag from.taken.unstarted.rested;
    rested = λ off. (subst (λ (z : TaskRecord). AreThere world u.directory z.writes) (sym is) tt, from.taken.unstarted);
    lost = λ off. ap (λ (z : TaskRecord). number_from 0 u.functions z.task) is ∙ none;
  }
