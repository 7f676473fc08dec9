use Rattle.std.proofs.Common.{rules}
use Rattle.pie_store.specs.inner.Known.{set_has}
use Rattle.pie_storable.proofs.Walking.{walked_none, walked_more, walk_stops, walk_ends}
use Rattle.pie_storable.proofs.walk.heights_of.Goals as goal

pub loop-row-init : goal.loop-row-init
loop-row-init c = walked_none (set_has c.args.known.now) c.args.rows.now c.new-heights.result c.new-heights.ensures

pub loop-row-preserved : goal.loop-row-preserved
loop-row-preserved c =
    walked_more (set_has c.args.known.now) c.args.rows.now c.loop-row.row-index c.row-item.result c.loop-row.heights c.admit.new.self
    c.loop-row.invariant c.loop-row-test.true c.row-item.is c.in_ok-admit.ensures.task (c.in_ok-admit.ensures.deps (search rules))
    (c.in_ok-admit.ensures.admitted (search rules))

pub returns-then-not-branch-clause-refused : goal.returns-then-not-branch-clause-refused
returns-then-not-branch-clause-refused c = λ none.
    walk_stops (set_has c.args.known.now) c.args.rows.now c.loop-row.row-index c.row-item.result c.loop-row.heights c.loop-row.invariant
    c.loop-row-test.true c.row-item.is c.in_ok-admit.ensures.task (c.in_ok-admit.ensures.refused (search rules))

pub returns-clause-walked : goal.returns-clause-walked
returns-clause-walked c =
    walk_ends (set_has c.args.known.now) c.args.rows.now c.loop-row.row-index c.loop-row.heights c.loop-row.invariant c.loop-row-test.false
