-- How functions that end a step leave the tasks of a build, by those that they end with.
use Rattle.std.proofs.Common.{◌≡◌, ℕ, ◌<◌, Bool, true, false, cond, List, [], ◌∷◌, map, get_or, None, Some, Result, length, refl, sym, ap, ◌∙◌, subst, inl, inr, arith, bytes_eq}
use Rattle.std.specs.Prelude.{slice_get, IfOk}
use Rattle.std.specs.List.{Contains}
use Rattle.std.proofs.lemmas.List.Elements.{Contains-get_or}
use Rattle.pie_value.specs.declared.task.Task.{Task}
use Rattle.pie_value.specs.Canonical.{enc_task, IsCanonicalTask}
use Rattle.pie_code.specs.declared.code.Code.{Code}
use Rattle.pie_graph.specs.declared.edges.TaskNo.{TaskNo}
use Rattle.pie_graph.specs.Rows.{row_at}
use Rattle.pie_graph.proofs.Among.{contains_cases}
use Rattle.pie_record.specs.declared.task_record.TaskRecord.{TaskRecord}
use Rattle.pie_running.specs.inner.Coded.{IsCodeFor, HasFunction}
use Rattle.pie_walk.specs.Standing.{Stands}
use Rattle.pie_frames.specs.inner.Standing.{Holds}
use Rattle.pie_model.specs.Paths.{among}
use Rattle.pie_model.proofs.Basics.{bytes_same, clash}
use Rattle.pie_core_laws.specs.Update.{Update}
use Rattle.pie_task_laws.proofs.Together.{roots_rest}
use Rattle.pie_bottomup.specs.declared.plan.Plan.{Plan}
use Rattle.pie_compare_laws.proofs.Ways.{one_some}
use Rattle.pie_bottomup.specs.declared.state.Core.{Core}
use Rattle.pie_bottomup.specs.declared.state.Turn.{Turn}
use Rattle.pie_bottomup.specs.inner.States.{IsAtRest}
use Rattle.pie_bottomup.specs.inner.Exact.{IsExactCore, AddsExact, lost_record}
use Rattle.pie_bottomup.specs.inner.Going.{site_of, build_of, callers_up, IsResting, MayMeet, Goes, IsWhole, IsBuildNow, HasGrown}
use Rattle.pie_bottomup.specs.inner.Going.{TakesWhole, StartsWhole, EndsWhole, MeetsWhole, RootsWhole}
use Rattle.pie_bottomup.proofs.ExactSteps.{if_ok_more, no_function, lost_row, lost_begins}
use Rattle.pie_bottomup.proofs.GoingEnds.{lost_alone, lost_ends}
use Rattle.pie_bottomup.proofs.GoingRoots.{grown_comes, grown_meets}
use Rattle.pie_bottomup.proofs.Trying.{root_tried}

pub lost_goes : {E : Type 0} (old new : Core) (task : TaskNo) (from : ℕ) (t : Task) (rec : TaskRecord) (r : Result Turn E) → Holds task old.frames
    → slice_get old.tables.names task.0 ≡ Some t → IsCanonicalTask t (enc_task t) → rec ≡ lost_record t
    → IsCodeFor old.plan.typed.now old.plan.code.now t None → from ≡ length (row_at old.frames.walk.rows task.0).needs
    → IfOk r (EndsWhole old task.0 from rec new) → IfOk r (TakesWhole old task.0 new)
lost_goes old new task from t rec r holds named canonical is none whole =
    if_ok_more (EndsWhole old task.0 from rec new) (TakesWhole old task.0 new)
    (λ turn ends u before now taken.
    ends (lost_row old new task from t rec holds named canonical is none whole) u now taken.taken.exact
    (lost_begins old new task from t rec holds named canonical is none whole u taken.taken taken.bare)
    (lost_ends u old task before taken t rec named canonical (no_function u old.plan t now.plan none) is) (lost_alone u old task before taken)) r

pub known_goes : {E : Type 0} (old new : Core) (n : ℕ) (code : Code) (t : Task) (r : Result Turn E) → slice_get old.tables.names n ≡ Some t
    → HasFunction old.plan.typed.now old.plan.code.now t code → IfOk r (StartsWhole old n code new) → IfOk r (TakesWhole old n new)
known_goes old new n code t r named function =
    if_ok_more (StartsWhole old n code new) (TakesWhole old n new)
    (λ turn starts. starts (λ x is.
    subst (λ (y : Task). HasFunction old.plan.typed.now old.plan.code.now y code) (one_some t x (sym named ∙ is)) function)) r

-- ---- roots

root_among : (roots : List Task) (t : Task) → Contains roots t → among (enc_task t) (map enc_task roots) ≡ true
root_among [] t h = absurd (omega (arith, h.1))
root_among (r ∷ rs) t h = by (bytes_eq (enc_task t) (enc_task r)) refl (root_among rs t)
  where
    by : (b : Bool) → bytes_eq (enc_task t) (enc_task r) ≡ b → (Contains rs t → among (enc_task t) (map enc_task rs) ≡ true)
        → among (enc_task t) (map enc_task (r ∷ rs)) ≡ true
    by true is below = ap (λ (b : Bool). cond b true (among (enc_task t) (map enc_task rs))) is
    by false is below =
        elim (contains_cases r t rs h) [
          | inl same ↦ clash (bytes_eq (enc_task t) (enc_task r)) (ap (λ (x : Task). bytes_eq (enc_task t) (enc_task x)) same ∙ bytes_same (enc_task t)) is
          | inr later ↦ ap (λ (b : Bool). cond b true (among (enc_task t) (map enc_task rs))) is ∙ below later
        ]

-- the next root is one of the update
pub root_listed : (u : Update) (c : Core) (root : Task) → IsBuildNow u c.plan → c.at < length c.plan.roots.items
    → ((d : Task) → get_or c.plan.roots.items c.at d ≡ root) → among (enc_task root) u.roots ≡ true
root_listed u c root now l next =
    ap (among (enc_task root)) now.roots
    ∙ root_among c.plan.roots.items root (subst (Contains c.plan.roots.items) (next root) (Contains-get_or c.plan.roots.items c.at root l))

-- a new root has a number, and is met
pub root_goes : {E : Type 0} (c mid new : Core) (root : Task) (number : TaskNo) (r : Result Turn E) → mid.plan ≡ c.plan → IsAtRest c
    → Stands mid.frames.walk → HasGrown c root mid → number.0 ≡ length c.frames.walk.rows → AddsExact c root mid
    → c.at < length c.plan.roots.items → ((d : Task) → get_or c.plan.roots.items c.at d ≡ root) → IfOk r (MeetsWhole mid number.0 new)
    → IfOk r (RootsWhole c new)
root_goes c mid new root number r plan rests stands grown last adds l next =
    if_ok_more (MeetsWhole mid number.0 new) (RootsWhole c new)
    (λ turn meets u now e going none.
    meets u (subst (IsBuildNow u) (sym plan) now) (adds stands u (root_tried u root (root_listed u c root now l next)) e)
    (subst (λ ps. MayMeet u mid (callers_up ps.items) number.0) (sym grown.parked)
    (subst (λ (p : Plan). MayMeet u (record mid { plan = p }) (callers_up c.frames.parked.items) number.0) (sym plan)
    (grown_meets u c mid root e rests.site.tables rests.rests.stands stands rests.site.sized grown.few grown none (callers_up c.frames.parked.items) number.0 last
    going.marked
    (roots_rest (site_of u c) (build_of c) root (callers_up c.frames.parked.items)
    (grown_comes u c mid root e rests.site.tables rests.rests.stands stands rests.site.sized grown.few grown none) none (inr (root_listed u c root now l next)) going.rest))))) r

-- a root that has a number is met
pub meets_root : {E : Type 0} (c new : Core) (k : ℕ) (r : Result Turn E) → IfOk r (MeetsWhole c k new) → IfOk r (RootsWhole c new)
meets_root c new k r =
    if_ok_more (MeetsWhole c k new) (RootsWhole c new)
    (λ turn meets u now e going none. meets u now e (record { rest = going.rest; alone = λ n is. absurd (none n is); marked = going.marked })) r

-- nothing is begun
pub rests_whole : (u : Update) (c : Core) → c.hand ≡ None → IsExactCore u c → IsResting u c → IsWhole u c
rests_whole u c free e going = record { exact = e; going = subst (Goes u c) (sym free) going }
