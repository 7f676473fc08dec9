-- What the task in hand is shown under `out/` is what it sees in the model.
use Rattle.std.proofs.Common.{◌≡◌, ℕ, ◌<◌, Bool, true, false, List, Option, None, Some, refl, sym, ap, ◌∙◌, subst}
use Rattle.std.specs.Prelude.{drop, slice_get, slice_index_or}
use Rattle.std.specs.List.{Contains}
use Rattle.std.proofs.lemmas.List.Elements.{All-contains}
use Rattle.pie_base.specs.Path.{is_out}
use Rattle.pie_value.specs.declared.task.Task.{Task}
use Rattle.pie_value.specs.declared.event.Event.{Event}
use Rattle.pie_graph.specs.declared.edges.TaskNo.{TaskNo}
use Rattle.pie_graph.specs.Rows.{Row, row_at}
use Rattle.pie_record.specs.declared.task_record.Outcome.{Outcome}
use Rattle.pie_record.specs.declared.task_record.Outcome.TheVariants.{Done, Failed, Cycled}
use Rattle.pie_record.specs.declared.task_record.TaskRecord.{TaskRecord}
use Rattle.pie_record.specs.inner.Records.{record_of as kept_of}
use Rattle.pie_view.specs.Content.{Staged, content}
use Rattle.pie_view.specs.Seen.{Visible, IsOnly}
use Rattle.pie_view.specs.declared.seen.Seen.{Seen}
use Rattle.pie_view.specs.declared.seen.Seen.TheVariants.{Absent, By, Clash}
use Rattle.pie_walk.specs.Marks.{IsSettled}
use Rattle.pie_walk.proofs.TurnSteps.{settled_reach}
use Rattle.pie_running.specs.declared.frame.Waiting.{Waiting}
use Rattle.pie_running.specs.inner.Noted.{Noted}
use Rattle.pie_running.specs.inner.Sights.{Sighted, Sees}
use Rattle.pie_frames.specs.inner.Standing.{Holds}
use Rattle.pie_results.specs.inner.Failures.{is_done}
use Rattle.pie_model.specs.Trees.{is_done as ends_well}
use Rattle.pie_model_pipeline.specs.Rows.{outcome_of}
use Rattle.pie_compare_laws.proofs.Ways.{one_some}
use Rattle.pie_core_laws.specs.Update.{Update}
use Rattle.pie_core_laws.specs.Seeing.{written_now, IsStagedFor}
use Rattle.pie_task_laws.specs.Sights.{OwnFirst, SeesOthers, SeesOut}
use Rattle.pie_task_laws.specs.Sites.{HaveOutputs}
use Rattle.pie_task_laws.specs.Telling.{Looks}
use Rattle.pie_bottomup.specs.declared.state.Core.{Core}
use Rattle.pie_bottomup.specs.inner.Exact.{IsExactCore}
use Rattle.pie_bottomup.specs.inner.Going.{site_of, build_of, callers_up, IsBuildNow, IsAskingNow}
use Rattle.pie_bottomup.specs.inner.Recorded.{HasEnded}
use Rattle.pie_bottomup.specs.inner.Sights.{IsTaskAt, IsStaged, SeenIsStaged, ShowsOthers, ShowsOut}
use Rattle.pie_bottomup.specs.inner.States.{IsOwn}
use Rattle.pie_bottomup.proofs.Moving.{held_inside}

-- ---- the sight of a task

-- it is of the task in hand
pub task_at : (c : Core) (task : TaskNo) (from : ℕ) (n : Noted) (rows : List Row) (number : TaskNo) (at : ℕ) → rows ≡ c.frames.walk.rows → number ≡ task
    → at ≡ from → Holds task c.frames → IsOwn c task from n → IsTaskAt rows number.0 at n
task_at c task from n rows number at rs is f holds own =
    subst (λ (x : List Row). IsTaskAt x number.0 at n) (sym rs)
    (subst (λ (x : TaskNo). IsTaskAt c.frames.walk.rows x.0 at n) (sym is)
    (subst (λ (x : ℕ). IsTaskAt c.frames.walk.rows task.0 x n) (sym f)
    (record { inside = held_inside task c.frames holds; number = own.number; needs = own.row.same })))

-- it shows what those notes ask for
pub shown_to : (rows : List Row) (staged : Staged) (k from : ℕ) (n : Noted) (path : List ℕ) (o : Sighted) → IsTaskAt rows k from n
    → ShowsOut rows staged k (drop from (row_at rows k).needs) path o → ShowsOut rows staged n.number n.needs path o
shown_to rows staged k from n path o at shows =
    subst (λ (m : ℕ). ShowsOut rows staged m n.needs path o) (sym at.number) (subst (λ (ns : List ℕ). ShowsOut rows staged k ns path o) at.needs shows)

-- by the rows and contents of the build
pub shown_here : (c : Core) (rows : List Row) (staged : Staged) (n : Noted) (path : List ℕ) (o : Sighted) → rows ≡ c.frames.walk.rows → staged ≡ c.stage
    → ShowsOut rows staged n.number n.needs path o → ShowsOut c.frames.walk.rows c.stage n.number n.needs path o
shown_here c rows staged n path o rs st shows =
    subst (λ (x : List Row). ShowsOut x c.stage n.number n.needs path o) rs
    (subst (λ (x : Staged). ShowsOut rows x n.number n.needs path o) st shows)

-- ---- what is staged of settled tasks

done_well : (o : Outcome) → is_done o ≡ true → ends_well (outcome_of o) ≡ true
done_well (Done v) is = is
done_well (Failed f) is = is
done_well (Cycled ts) is = is

-- what is staged of a settled task is what its evaluation wrote first
staged_now : (u : Update) (c : Core) (n : ℕ) (path : List ℕ) (t : Task) → IsExactCore u c → IsSettled c.frames.walk.marks n → IsStaged c.stage n path
    → slice_get c.tables.names n ≡ Some t → content c.stage n path ≡ written_now u t path
staged_now u c n path t e is staged named = by (slice_index_or c.tables.ran.items n false) refl
  where
    kept : (rec : TaskRecord) × (kept_of c.tables.records n ≡ Some rec)
    kept = e.are.tables.ended n is

    same : kept.0.task ≡ t
    same = one_some kept.0.task t (sym (e.are.tables.named n kept.0 kept.1) ∙ named)

    by : (b : Bool) → slice_index_or c.tables.ran.items n false ≡ b → content c.stage n path ≡ written_now u t path
    by true flag = e.are.written.ran n kept.0 path is flag kept.1 ∙ ap (λ (x : Task). written_now u x path) same
    by false flag =
        staged.1 ∙ sym (e.are.written.fetched n kept.0 path staged.0 is flag kept.1 staged.1) ∙ ap (λ (x : Task). written_now u x path) same

-- ---- a task looks

module _ (u : Update) (c : Core) (task : TaskNo) (from : ℕ) (w : Waiting) (e : Event) (path : List ℕ) (holds : Holds task c.frames)
    (left : 0 < w.notes.left) (own : IsOwn c task from w.notes) (now : IsBuildNow u c.plan) (ex : IsExactCore u c) (asks : IsAskingNow u c w e)
    (there : is_out path ≡ true → SeenIsStaged c.frames.walk.rows c.stage task.0 from path) where
  ended : (k : ℕ) → Contains w.notes.needs k → HasEnded c.tables.records c.frames.walk.marks k
  ended k h = All-contains (HasEnded c.tables.records c.frames.walk.marks) w.notes.needs k own.noted.ended h

  outputs : HaveOutputs (build_of c) w.notes.needs
  outputs k h =
      let has = ended k h in
      record { settled = has.settled; rec = has.output.rec; kept = has.output.kept; gave = done_well has.output.rec.outcome has.output.done }

  pub looks : Looks (site_of u c) (build_of c) (callers_up c.frames.parked.items) w e
  looks = record {
    sound = record { exact = ex.are.tables; stands = holds.taken.stands; apart = now.apart };
    asking = asks.asking;
    left = left;
    outputs = outputs;
  }

  staged_for : (seen : Seen) → is_out path ≡ true → content c.stage w.notes.number path ≡ None
      → IsOnly (Visible c.frames.walk.rows w.notes.needs path) seen → IsStagedFor u c.tables.names (content c.stage) path seen
  staged_for Absent out none only = tt
  staged_for (By one) out none only = λ t named.
      let reached = only.0.0 in
      staged_now u c one.0 path t ex
      (settled_reach c.frames.walk.rows c.frames.walk.marks holds.taken.stands.holds.closed reached.0 one.0 reached.2 (ended reached.0 reached.1).settled)
      (there out (subst (λ (k : ℕ). content c.stage k path ≡ None) own.number none) one
      (subst (λ (ns : List ℕ). IsOnly (Visible c.frames.walk.rows ns path) (By one)) (sym own.row.same) only))
      named
  staged_for Clash out none only = tt

  shown_out : is_out path ≡ true → (o : Sighted) → ShowsOut c.frames.walk.rows c.stage w.notes.number w.notes.needs path o
      → SeesOut (site_of u c) (build_of c) w.notes path o
  shown_out out o = by (content c.stage w.notes.number path) refl
    where
      by : (x : Option (List ℕ)) → content c.stage w.notes.number path ≡ x
          → OwnFirst x (ShowsOthers c.frames.walk.rows c.stage w.notes.needs path o) o
          → OwnFirst x (SeesOthers (site_of u c) (build_of c) w.notes.needs path o) o
      by (Some bytes) is h = h
      by None is h = record { seen = h.seen; only = h.only; staged = staged_for h.seen out is h.only; is = h.is }

  -- what is shown is seen
  pub sees_out : (shown : Sighted → Type 0)
      → ((o : Sighted) → shown o → ShowsOut c.frames.walk.rows c.stage w.notes.number w.notes.needs path o) → (o : Sighted)
      → Sees u.directory path shown o → Sees u.directory path (SeesOut (site_of u c) (build_of c) w.notes path) o
  sees_out shown is o h = record { out = λ out. shown_out out o (is o (h.out out)); source = h.source; kept = h.kept }
