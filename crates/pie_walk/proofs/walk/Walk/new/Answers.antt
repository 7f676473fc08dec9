use Rattle.std.proofs.Common.{◌≡◌}
use Rattle.pie_walk.proofs.StandSteps.{start_stands}
use Rattle.pie_walk.proofs.walk.Walk.new.Goals as goal

pub returns-clause-stands : goal.returns-clause-stands
returns-clause-stands c =
    start_stands c.args.rows c.count-count.result c.in_ok-order.order c.in_ok-marks.marks.items c.in_ok-scheduled.scheduled.items c.args.looks_out.items
    c.in_ok-swept.swept.items c.new-2.result c.count-count.ensures.needs_below c.requires.earlier c.requires.flags c.count-count.ensures.count
    c.in_ok-order.ensures (c.in_ok-marks.ensures.items_if_clones_equal (λ y e. e)) (c.in_ok-scheduled.ensures.items_if_clones_equal (λ y e. e))
    (c.in_ok-swept.ensures.items_if_clones_equal (λ y e. e)) c.new-2.ensures
