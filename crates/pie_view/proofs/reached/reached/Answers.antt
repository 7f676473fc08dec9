use Rattle.std.proofs.Common.{refl}
use Rattle.pie_graph.specs.Numbers.{numbers}
use Rattle.pie_reach.specs.inner.Reaches.Leads.{itself}
use Rattle.pie_view.proofs.Meeting.{met_is}
use Rattle.pie_view.proofs.reached.reached.Goals as goal

pub returns-then-not-branch : goal.returns-then-not-branch
returns-then-not-branch g c =
    let starts = numbers c.args.required.now in
    let walking = c.in_ok-step.ensures.kept starts c.loop-alloc.invariant in
    met_is (g.R.TaskRows.rows c.args.rows.now) starts c.args.to.0 c.step.new.self c.met-then-not-branch.result walking
    (c.in_ok-step.ensures.over c.if-not-branch.true) c.met-then-not-branch.ensures

pub loop-alloc-preserved : goal.loop-alloc-preserved
loop-alloc-preserved g c = c.in_ok-step.ensures.kept (numbers c.args.required.now) c.loop-alloc.invariant

pub returns-then-is_direct : goal.returns-then-is_direct
returns-then-is_direct g c = (λ _. (c.args.to.0, c.is_direct.ensures c.if-is_direct.true, itself), λ _. refl)
