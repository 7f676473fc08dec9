use Rattle.std.proofs.Common.{List, sym, subst}
use Rattle.pie_graph.specs.declared.edges.TaskNo.{TaskNo}
use Rattle.pie_graph.specs.Numbers.{numbers, Exactly}
use Rattle.pie_graph.specs.Rows.{Calls}
use Rattle.pie_walk.specs.States.{WalkState}
use Rattle.pie_walk.specs.inner.Sweeping.{SweepsAbove}
use Rattle.pie_walk.proofs.CallerSteps.{callers_below}
use Rattle.pie_walk.proofs.walk.Walk.sweep_above.Goals as goal
use Rattle.pie_walk.proofs.walk.Walk.sweep_above.Goals.{After-as_slice}

callers : (c : After-as_slice) → Exactly (λ k. Calls c.args.self.now.rows k c.args.at.0) (numbers c.as_slice.result.now)
callers c =
    subst (λ (ts : List TaskNo). Exactly (λ k. Calls c.args.self.now.rows k c.args.at.0) (numbers ts)) (sym c.as_slice.ensures.value)
    (subst (λ (s : WalkState). Exactly (λ k. Calls s.rows k c.args.at.0) (numbers c.in_ok-callers.callers.items)) c.self.view_is c.in_ok-callers.ensures)

pub sweep_all-requires-clause-swept : goal.sweep_all-requires-clause-swept
sweep_all-requires-clause-swept c = callers_below c.args.self.now.rows _ c.args.at.0 (numbers c.as_slice.result.now) c.requires.swept
    (callers (goal.at.sweep_all-requires-clause-swept c).After-as_slice)

pub sweep_all-requires-clause-scheduled : goal.sweep_all-requires-clause-scheduled
sweep_all-requires-clause-scheduled c =
    callers_below c.args.self.now.rows _ c.args.at.0 (numbers c.as_slice.result.now) c.requires.scheduled
    (callers (goal.at.sweep_all-requires-clause-scheduled c).After-as_slice)

pub returns : goal.returns
returns c =
    record { callers = numbers c.as_slice.result.now; exactly = callers (goal.at.returns c).After-as_slice; all = c.in_ok-sweep_all.ensures }
