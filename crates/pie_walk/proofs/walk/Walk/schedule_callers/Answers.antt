use Rattle.std.proofs.Common.{List, sym, subst}
use Rattle.pie_graph.specs.declared.edges.TaskNo.{TaskNo}
use Rattle.pie_graph.specs.Numbers.{numbers, Exactly}
use Rattle.pie_graph.specs.Rows.{Calls}
use Rattle.pie_walk.specs.States.{WalkState}
use Rattle.pie_walk.proofs.CallerSteps.{HasScheduled, callers_scheduled, callers_fit, callers_below}
use Rattle.pie_walk.proofs.walk.Walk.schedule_callers.Goals as goal
use Rattle.pie_walk.proofs.walk.Walk.schedule_callers.Goals.{After-as_slice, After-drop-callers}

callers : (c : After-as_slice) → Exactly (λ k. Calls c.args.self.now.rows k c.args.no.0) (numbers c.as_slice.result.now)
callers c =
    subst (λ (ts : List TaskNo). Exactly (λ k. Calls c.args.self.now.rows k c.args.no.0) (numbers ts)) (sym c.as_slice.ensures.value)
    (subst (λ (s : WalkState). Exactly (λ k. Calls s.rows k c.args.no.0) (numbers c.in_ok-callers.callers.items)) c.self.view_is c.in_ok-callers.ensures)

pub schedule_all-requires : goal.schedule_all-requires
schedule_all-requires c =
    callers_below c.args.self.now.rows _ c.args.no.0 (numbers c.as_slice.result.now) c.requires.stands.holds.scheduled_sized (callers c)

scheduled : (c : After-drop-callers) → HasScheduled c.args.self.now c.schedule_all.new.self c.args.no.0
scheduled c =
    let exactly = callers (goal.at.returns-clause-stands c).After-as_slice in
    callers_scheduled c.args.self.now c.schedule_all.new.self c.args.no.0 (numbers c.as_slice.result.now) c.requires.stands exactly
    (callers_fit c.args.self.now c.args.no.0 (numbers c.as_slice.result.now) c.requires.stands exactly) c.schedule_all.ensures

pub returns-clause-scheduled : goal.returns-clause-scheduled
returns-clause-scheduled c = (scheduled c).scheduled

pub returns-clause-counts : goal.returns-clause-counts
returns-clause-counts c = (scheduled c).counts

pub returns-clause-stands : goal.returns-clause-stands
returns-clause-stands c = (scheduled c).stands
