-- The tasks that came later got places before the others.
use Rattle.std.proofs.Common.{List, ◌-◌, subst, arith}
use Rattle.pie_graph.specs.declared.edges.TaskNo.{TaskNo}
use Rattle.pie_graph.specs.Numbers.{numbers}
use Rattle.pie_order.specs.Runs.{IsRun}
use Rattle.pie_order.proofs.StandingSteps.{settle_all}
use Rattle.pie_order.proofs.placed.Placed.settle.Goals as goal

pub returns-clause-standing : goal.returns-clause-standing
returns-clause-standing c =
    let p = c.args.self.now in
    let run = subst (λ (ts : List TaskNo). IsRun (numbers ts)
    (p.low - (c.len-count.result - p.settled)) p.places.items c.place_run.new.places.items) c.deref.ensures.value c.place_run.ensures in
    (settle_all p.settled p.low p.high c.len-count.result p.places.items c.place_run.new.places.items (numbers c.in_ok-tasks.tasks.items)
    (omega (arith, c.len-count.ensures, c.args.self.now.places.ok)) c.requires.low c.requires.standing c.in_ok-tasks.ensures run).0

pub returns-clause-order : goal.returns-clause-order
returns-clause-order c =
    let p = c.args.self.now in
    let run = subst (λ (ts : List TaskNo). IsRun (numbers ts)
    (p.low - (c.len-count.result - p.settled)) p.places.items c.place_run.new.places.items) c.deref.ensures.value c.place_run.ensures in
    (settle_all p.settled p.low p.high c.len-count.result p.places.items c.place_run.new.places.items (numbers c.in_ok-tasks.tasks.items)
    (omega (arith, c.len-count.ensures, c.args.self.now.places.ok)) c.requires.low c.requires.standing c.in_ok-tasks.ensures run).1
