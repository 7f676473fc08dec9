use Rattle.std.proofs.Common.{subst}
use Rattle.pie_diff.specs.inner.Held.{Adds}
use Rattle.pie_diff.proofs.Adding.{row_step}
use Rattle.pie_diff.proofs.known.add_rows.Goals as goal

pub loop-row-preserved : goal.loop-row-preserved
loop-row-preserved c =
    row_step c.args.held.now c.loop-row.held c.add_writes.new.held c.args.rows.now c.loop-row.row-index c.row-item.result c.loop-row-test.true
    c.row-item.is (subst (Adds c.loop-row.held c.add_writes.new.held) c.as_slice.ensures c.in_ok-add_writes.ensures) c.loop-row.invariant
