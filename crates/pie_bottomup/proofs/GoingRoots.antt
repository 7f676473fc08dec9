-- The tasks that wait go on where a task is met, and where one more comes.
use Rattle.std.proofs.Common.{◌≡◌, ◌≢◌, ◌⊎◌, ℕ, ◌<◌, ◌≤◌, ◌+◌, Bool, true, false, List, [], ◌∷◌, ◌++◌, None, length, sym, ap, ◌∙◌, subst, inl, inr, arith}
use Rattle.std.specs.Prelude.{slice_get, slice_index_or}
use Rattle.std.proofs.lemmas.Bool.{cases_lt}
use Rattle.std.proofs.lemmas.List.{get_or-set_same, get_or-set_other, get_or_past, length_push}
use Rattle.std.proofs.lemmas.Option.{slice_get_within}
use Rattle.pie_value.specs.declared.task.Task.{Task}
use Rattle.pie_graph.specs.declared.edges.TaskNo.{TaskNo}
use Rattle.pie_graph.specs.Numbers.{IsMarked}
use Rattle.pie_graph.specs.Rows.{Row, row_at, no_edges}
use Rattle.pie_record.specs.declared.records.Records.{Records}
use Rattle.pie_record.specs.inner.Records.{record_of as kept_of}
use Rattle.pie_tables.specs.Tabled.{IsTables}
use Rattle.pie_walk.specs.declared.marks.Mark.{Mark}
use Rattle.pie_walk.specs.declared.marks.Mark.TheVariants.{New, Visited, Runs, Settled}
use Rattle.pie_walk.specs.Marks.{mark_of}
use Rattle.pie_walk.specs.States.{WalkState, met, visiting, if_new}
use Rattle.pie_walk.specs.Standing.{Stands}
use Rattle.pie_walk.proofs.HoldSteps.{default_more}
use Rattle.pie_running.specs.declared.frame.Caller.{Caller}
use Rattle.pie_frames.specs.declared.frames.Frames.{Frames}
use Rattle.pie_frames.specs.inner.Standing.{Rests}
use Rattle.pie_frames.proofs.Handing.{met_rows}
use Rattle.pie_frames.proofs.Tying.{grown_rows}
use Rattle.pie_model.proofs.Basics.{clash}
use Rattle.pie_builder_laws.specs.Names.{AreTasks}
use Rattle.pie_core_laws.specs.Update.{Update}
use Rattle.pie_core_laws.specs.Exact.{runs}
use Rattle.pie_core_laws.specs.Moving.{Moves}
use Rattle.pie_core_laws.proofs.Exactly.{same_or_not}
use Rattle.pie_core_laws.proofs.Grown.{new_stays}
use Rattle.pie_core_laws.proofs.Moved.{moves_stay}
use Rattle.pie_core_laws.proofs.Visited.{begins_move}
use Rattle.pie_task_laws.specs.Sites.{Build}
use Rattle.pie_task_laws.specs.Whole.{IsNew, NoneIsNew, AreAtRest, Comes, with_new}
use Rattle.pie_task_laws.proofs.Together.{moves_rest}
use Rattle.pie_bottomup.specs.declared.state.Core.{Core}
use Rattle.pie_bottomup.specs.inner.Exact.{IsExactCore}
use Rattle.pie_bottomup.specs.inner.Going.{site_of, build_of, callers_up, MayMeet, Goes, IsWhole, HasGrown}
use Rattle.pie_bottomup.proofs.ExactWalking.{begun_exact}
use Rattle.pie_bottomup.proofs.ExactGrowing.{none_after, named_back}
use Rattle.pie_bottomup.proofs.Going.{is_met}

-- ---- a task is met

-- which runs no more of them
pub met_runs : (s : WalkState) (task : TaskNo) (n : ℕ) → task.0 < length s.marks → runs (mark_of (met s task).marks n) ≡ true → runs (mark_of s.marks n) ≡ true
met_runs s task n inside = by (mark_of s.marks task.0)
  where
    visited : (n ≡ task.0) ⊎ (n ≡ task.0 → ⊥) → runs (mark_of (visiting s task).marks n) ≡ true → runs (mark_of s.marks n) ≡ true
    visited (inl e) run =
        clash (runs (mark_of (visiting s task).marks n)) run
        (ap (λ (m : ℕ). runs (mark_of (visiting s task).marks m)) e ∙ ap runs (get_or-set_same s.marks task.0 Visited New inside))
    visited (inr d) run = ap runs (sym (get_or-set_other s.marks task.0 n Visited New d)) ∙ run

    by : (m : Mark) → runs (mark_of (if_new m (visiting s task) s).marks n) ≡ true → runs (mark_of s.marks n) ≡ true
    by New run = visited (same_or_not task.0 n) run
    by Visited run = run
    by Runs run = run
    by Settled run = run

pub begun_whole : (u : Update) (c : Core) (f : Frames) (root : TaskNo) → IsExactCore u c → Rests c.frames → Rests f → root.0 < length c.frames.walk.rows
    → f.walk ≡ met c.frames.walk root → f.parked ≡ c.frames.parked → c.hand ≡ None → MayMeet u c (callers_up c.frames.parked.items) root.0
    → IsWhole u (record c { frames = f; at = c.at + 1 })
begun_whole u c f root e rests after l same parked free may =
    let s = c.frames.walk in
    let inside : root.0 < length s.marks = omega (arith, l, rests.stands.holds.marks_sized) in
    let m : Moves s f.walk = subst (Moves s) (sym same) (begins_move s root rests.stands l) in
    record {
      exact = begun_exact u c f root e rests after l same parked;
      going = subst (Goes u (record c { frames = f; at = c.at + 1 })) (sym free) (record {
        rest = subst (λ ps. AreAtRest (site_of u c) (build_of (record c { frames = f })) (callers_up ps.items)) (sym parked)
            (moves_rest (site_of u c) (build_of c) f.walk (callers_up c.frames.parked.items) (record {
              exact = e.are.tables;
              stays = moves_stay u c.tables.names c.tables.records s f.walk e.are.tables rests.stands after.stands m;
              moves = m;
            }) may.rest);
        bare = λ n new.
            let was = may.alone n (record { task = new.task; named = new.named; unrecorded = new.unrecorded; idle = (m.resting n new.idle).0 }) in
            record {
              met = subst (λ (z : WalkState). mark_of z.marks n ≢ New) (sym same)
                  (subst (λ (k : ℕ). mark_of (met s root).marks k ≢ New) (sym was.0) (is_met s root inside));
              alone = ap (λ (z : WalkState). (row_at z.rows n).needs) same ∙ ap (λ (rs : List Row). (row_at rs n).needs) (met_rows s root) ∙ was.1;
            };
        marked = λ n run. may.marked n (met_runs s root n inside (subst (λ (z : WalkState). runs (mark_of z.marks n) ≡ true) same run));
      });
    }

-- ---- one task more

grown_build : (c new : Core) (t : Task) → HasGrown c t new → build_of new ≡ with_new (build_of c) t
grown_build c new t g = λ i. record { names = g.names i; records = g.records i; walk = g.walk i; stage = g.stage i }

module _ (u : Update) (c new : Core) (t : Task) (e : IsExactCore u c) (tables : IsTables c.tables) (w : Stands c.frames.walk) (v : Stands new.frames.walk)
    (sized : length c.tables.names ≡ length c.frames.walk.rows) (few : length c.frames.walk.rows < 50000) (g : HasGrown c t new)
    (none : NoneIsNew (build_of c)) where
  pub grown_comes : Comes (site_of u c) (build_of c) t
  grown_comes = record {
    exact = e.are.tables;
    stays = new_stays u c.tables.names c.tables.records c.frames.walk t e.are.tables w (subst Stands g.walk v) (subst AreTasks g.names g.tasks)
        (omega (arith, few, sized)) (none_after c.tables tables);
  }

  -- only the new one is new
  grown_alone : (n : ℕ) → IsNew (build_of new) n → (n ≡ length c.frames.walk.rows) × ((row_at new.frames.walk.rows n).needs ≡ [])
  grown_alone n is = by (cases_lt n (length c.tables.names))
    where
      inside : n < length (c.tables.names ++ t ∷ [])
      inside = slice_get_within (c.tables.names ++ t ∷ []) n is.task (ap (λ (ns : List Task). slice_get ns n) (sym g.names) ∙ is.named)

      by : (n < length c.tables.names) ⊎ (length c.tables.names ≤ n) → (n ≡ length c.frames.walk.rows) × ((row_at new.frames.walk.rows n).needs ≡ [])
      by (inl l) =
          absurd (none n (record {
            task = is.task;
            named = named_back c.tables.names t is.task n l (ap (λ (ns : List Task). slice_get ns n) (sym g.names) ∙ is.named);
            unrecorded = ap (λ (rs : Records). kept_of rs n) (sym g.records) ∙ is.unrecorded;
            idle = ap runs (sym (ap (λ (z : WalkState). mark_of z.marks n) g.walk ∙ default_more c.frames.walk.marks New n)) ∙ is.idle;
          }))
      by (inr past) = (
        omega (arith, past, inside, length_push c.tables.names t, sized),
        ap (λ (z : WalkState). (row_at z.rows n).needs) g.walk ∙ ap (λ (r : Row). r.needs) (grown_rows c.frames.walk.rows n)
            ∙ ap (λ (r : Row). r.needs) (get_or_past c.frames.walk.rows n no_edges (omega (arith, past, sized))),
      )

  pub grown_meets : (cs : List Caller) (k : ℕ) → k ≡ length c.frames.walk.rows
      → ((n : ℕ) → runs (mark_of c.frames.walk.marks n) ≡ true → IsMarked c.tables.ran.items n)
      → AreAtRest (site_of u c) (with_new (build_of c) t) cs → MayMeet u (record new { plan = c.plan }) cs k
  grown_meets cs k last marked rest = record {
    rest = subst (λ (b : Build). AreAtRest (site_of u c) b cs) (sym (grown_build c new t g)) rest;
    alone = λ n is. let q = grown_alone n is in (q.0 ∙ sym last, q.1);
    marked = λ n run.
        ap (λ (flags : List Bool). slice_index_or flags n false) g.ran ∙ default_more c.tables.ran.items false n
        ∙ marked n (ap runs (sym (ap (λ (z : WalkState). mark_of z.marks n) g.walk ∙ default_more c.frames.walk.marks New n)) ∙ run);
  }
