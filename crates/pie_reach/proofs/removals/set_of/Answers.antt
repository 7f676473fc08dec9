use Rattle.std.proofs.Common.{◌∙◌, ap, cond, true, ℕ, List}
use Rattle.std.specs.Ordering.{is_eq}
use Rattle.std.specs.BTreeSet.{contains}
use Rattle.pie_reach.specs.Plan.{path_cmp}
use Rattle.pie_reach.proofs.Removing.{add_step, add_end}
use Rattle.pie_reach.proofs.removals.set_of.Goals as goal

pub loop-path-preserved : goal.loop-path-preserved
loop-path-preserved c = λ q.
    add_step c.args.paths.now c.loop-path.path-index c.path-item.result q (contains path_cmp c.loop-path.set q) _ _ c.loop-path-test.true c.path-item.is
    (c.in_ok-insert.ensures.updates.0 q ∙ ap (λ (p : List ℕ). cond (is_eq (path_cmp p q)) true (contains path_cmp c.loop-path.set q)) c.in_ok-copy.ensures)
    (c.loop-path.invariant q)

pub returns : goal.returns
returns c = λ q. add_end c.args.paths.now c.loop-path.path-index q _ _ c.loop-path-test.false (c.loop-path.invariant q)
