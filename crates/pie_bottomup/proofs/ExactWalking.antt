-- A build stays exact where a task is taken or answered, and where a root is begun.
use Rattle.std.proofs.Common.{◌≡◌, ℕ, ◌<◌, ◌+◌, true, List, ◌∷◌, length, sym, ap, ◌∙◌, subst}
use Rattle.std.specs.List.{All, Contains}
use Rattle.std.proofs.lemmas.List.Elements.{All-nil}
use Rattle.pie_graph.specs.declared.edges.TaskNo.{TaskNo}
use Rattle.pie_graph.proofs.Among.{contains_here}
use Rattle.pie_walk.specs.Marks.{mark_of, IsIdle}
use Rattle.pie_walk.specs.States.{WalkState, met}
use Rattle.pie_frames.specs.declared.parked.Parked.{Parked}
use Rattle.pie_frames.specs.declared.frames.Frames.{Frames}
use Rattle.pie_frames.specs.inner.Standing.{Rests, number_of, numbers_up}
use Rattle.pie_frames.specs.inner.Turns.{HasTaken, HasAnswered, IsOver}
use Rattle.pie_frames.proofs.Handing.{met_rows}
use Rattle.pie_frames.proofs.Tying.{up_push}
use Rattle.pie_core_laws.specs.Update.{Update}
use Rattle.pie_core_laws.specs.Exact.{runs}
use Rattle.pie_core_laws.specs.Moving.{Moves}
use Rattle.pie_core_laws.proofs.Exactly.{idle_not_runs, idle_not_settled}
use Rattle.pie_core_laws.proofs.Moved.{walks_move, takes_move, taken_rest, waits_runs}
use Rattle.pie_core_laws.proofs.Visited.{begins_move}
use Rattle.pie_bottomup.specs.declared.state.Core.{Core}
use Rattle.pie_bottomup.specs.inner.Exact.{WaitsAsOld, IsExactCore, IsTakenExact}
use Rattle.pie_bottomup.proofs.Exactly.{core_moved, core_unparked, are_moved, hand_on_rows, walks_rows}

pub taken_exact : (u : Update) (c : Core) (f : Frames) (task : TaskNo) → IsExactCore u c → Rests c.frames → HasTaken c.frames f task
    → IsTakenExact u (record c { frames = f }) task.0
taken_exact u c f task e rests has =
    let s = c.frames.walk in
    let w = rests.stands in
    let v = has.holds.taken.stands in
    let idle : IsIdle s.marks task.0 = w.holds.calm task.0 has.taken.was in
    record {
      exact = core_moved u c f e w v (takes_move s f.walk task w v has.taken) (ap (λ (z : WalkState). z.rows) has.taken.same)
          (ap (λ ps. ps.items) has.parked);
      rests = λ rec kept. taken_rest s f.walk task w v has.taken u c.tables.names c.tables.records rec e.are.tables kept;
      unstarted = e.are.written.idle task.0 (idle_not_runs s.marks task.0 idle) (idle_not_settled s.marks task.0 idle);
    }

pub answered_exact : (u : Update) (c : Core) (f : Frames) (task : TaskNo) (p : Parked) → IsExactCore u c → Rests c.frames → HasAnswered c.frames f task p
    → IsExactCore u (record c { frames = f }) × WaitsAsOld c.tables f.walk.rows p
answered_exact u c f task p e rests has =
    let s = c.frames.walk in
    let w = rests.stands in
    let v = has.holds.taken.stands in
    core_unparked u c f p e w v (walks_move s f.walk w v has.answered.walks) (walks_rows s f.walk has.answered.walks) has.parked

-- it ran before
pub answered_ran : (old f : Frames) (task : TaskNo) (p : Parked) → Rests old → HasAnswered old f task p → runs (mark_of old.walk.marks task.0) ≡ true
answered_ran old f task p rests has =
    let up : numbers_up old.parked.items ≡ number_of p ∷ numbers_up f.parked.items = ap numbers_up has.parked ∙ up_push f.parked.items p in
    waits_runs old.walk rests.stands task.0
    (subst (λ (ns : List ℕ). Contains ns task.0) (sym up ∙ rests.tied)
    (subst (λ (n : ℕ). Contains (n ∷ numbers_up f.parked.items) task.0) (sym has.number) (contains_here task.0 (numbers_up f.parked.items))))

pub over_exact : (u : Update) (c : Core) (f : Frames) → IsExactCore u c → Rests c.frames → IsOver c.frames f → IsExactCore u (record c { frames = f })
over_exact u c f e rests over =
    let s = c.frames.walk in
    let w = rests.stands in
    let v = over.rests.stands in
    record {
      tested = e.tested;
      counted = e.counted;
      tried = e.tried;
      are = are_moved u c.named c.plan.same.items c.tables s f.walk c.stage e.are w v (walks_move s f.walk w v over.ended.walks);
      parked = subst (All (WaitsAsOld c.tables f.walk.rows)) (sym over.parked) (All-nil (WaitsAsOld c.tables f.walk.rows));
      hand = hand_on_rows c.tables s.rows f.walk.rows (walks_rows s f.walk over.ended.walks) c.hand e.hand;
    }

pub begun_exact : (u : Update) (c : Core) (f : Frames) (root : TaskNo) → IsExactCore u c → Rests c.frames → Rests f → root.0 < length c.frames.walk.rows
    → f.walk ≡ met c.frames.walk root → f.parked ≡ c.frames.parked → IsExactCore u (record c { frames = f; at = c.at + 1 })
begun_exact u c f root e rests after l same parked =
    let s = c.frames.walk in
    let w = rests.stands in
    let on = core_moved u c f e w after.stands (subst (Moves s) (sym same) (begins_move s root w l))
    (ap (λ (z : WalkState). z.rows) same ∙ met_rows s root) (ap (λ ps. ps.items) parked) in
    record { tested = on.tested; counted = on.counted; tried = on.tried; are = on.are; parked = on.parked; hand = on.hand }
