use Rattle.std.proofs.Common.{List, Bool, sym, subst}
use Rattle.pie_graph.specs.Numbers.{IsMarked}
use Rattle.pie_order.proofs.CycleSteps.{start_marked}
use Rattle.pie_order.proofs.RingSteps.{cycle_made}
use Rattle.pie_order.proofs.cycle.cycle_of.Goals as goal

pub trail-requires-clause-marked : goal.trail-requires-clause-marked
trail-requires-clause-marked g c =
    subst (λ (ms : List Bool). IsMarked ms c.args.to.0) (sym c.deref.ensures.value)
    (start_marked (g.R.TaskRows.rows c.args.rows.now) c.args.from.0 c.args.to.0 c.in_ok-marks.marks.items c.in_ok-marks.ensures c.requires.reaches)

pub returns : goal.returns
returns g c =
    cycle_made
    (g.R.TaskRows.rows c.args.rows.now) c.args.places.now c.args.from.0 c.args.to.0 c.in_ok-trail.trail.items c.deref-2.result.now c.deref-3.result.now
    c.in_ok-cycle.cycle.items c.place_of_least-least.result c.requires.agrees c.in_ok-trail.ensures c.deref-2.ensures.value c.deref-3.ensures.value
    c.place_of_least-least.ensures.within c.place_of_least-least.ensures.least c.in_ok-cycle.ensures
