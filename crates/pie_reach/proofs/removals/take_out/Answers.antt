use Rattle.std.specs.BTreeSet.{contains}
use Rattle.pie_reach.specs.Plan.{path_cmp}
use Rattle.pie_reach.proofs.Removing.{remove_step, remove_end}
use Rattle.pie_reach.proofs.removals.take_out.Goals as goal

pub loop-path-preserved : goal.loop-path-preserved
loop-path-preserved c = λ q.
    remove_step c.args.paths.now c.loop-path.path-index c.path-item.result q (contains path_cmp c.loop-path.set q) _ _ c.loop-path-test.true c.path-item.is
    (c.remove.ensures.updates.0 q) (c.loop-path.invariant q)

pub returns : goal.returns
returns c = λ q. remove_end c.args.paths.now c.loop-path.path-index q _ _ c.loop-path-test.false (c.loop-path.invariant q)
