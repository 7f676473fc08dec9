-- What the steps of a walk leave of the sizes of its tables.
use Rattle.std.proofs.Common.{◌≡◌, ℕ, ◌<◌, length, length-set, sym, ap, ◌∙◌, subst}
use Rattle.pie_graph.specs.declared.edges.TaskNo.{TaskNo}
use Rattle.pie_graph.specs.Rows.{Row}
use Rattle.pie_walk.specs.declared.marks.Mark.TheVariants.{Settled}
use Rattle.pie_walk.specs.declared.stack.Entry.TheVariants.{Waits}
use Rattle.pie_walk.specs.Marks.{IsSettled}
use Rattle.pie_walk.specs.States.{WalkState, settled, with_row}
use Rattle.pie_walk.proofs.MarkSteps.{same_mark}
use Rattle.pie_walk.proofs.StateSteps.{top_inside}
use Rattle.pie_frames.specs.declared.frames.Frames.{Frames}
use Rattle.pie_frames.specs.inner.Standing.{Holds}

-- a task in hand has a number
pub held_inside : (task : TaskNo) (f : Frames) → Holds task f → task.0 < length f.walk.rows
held_inside task f holds = top_inside f.walk (Waits task) holds.top holds.taken.stands.holds

-- the task that ended is settled
pub ended_settled : (task : TaskNo) (f : Frames) (new : WalkState) (row : Row) → Holds task f → new ≡ settled (with_row f.walk task.0 row) task.0
    → IsSettled new.marks task.0
ended_settled task f new row holds is =
    let inside : task.0 < length f.walk.marks =
    subst (λ n. task.0 < n) (sym holds.taken.stands.holds.marks_sized) (held_inside task f holds) in
    subst (λ (s : WalkState). IsSettled s.marks task.0) (sym is) (same_mark f.walk.marks task.0 Settled inside)

-- there are as many rows
pub ended_sized : (w new : WalkState) (n : ℕ) (row : Row) → new ≡ settled (with_row w n row) n → length new.rows ≡ length w.rows
ended_sized w new n row is = ap (λ (s : WalkState). length s.rows) is ∙ length-set w.rows n row
