use Rattle.std.proofs.Common.{◌∙◌, ℕ, List, ap, cond, true}
use Rattle.std.specs.Ordering.{is_eq}
use Rattle.pie_union.specs.inner.Writers.{pair_cmp, holds}
use Rattle.pie_union.proofs.PairSteps.{write_step}
use Rattle.pie_union.proofs.writers.Writers.write.Goals as goal

pub loop-path-preserved : goal.loop-path-preserved
loop-path-preserved c = λ pair.
    let held = holds c.loop-path.self.pairs pair in
    write_step c.args.paths.now c.loop-path.path-index c.path-item.result c.args.no.0 pair held (holds c.insert.new.self pair) _
    c.loop-path-test.true c.path-item.is
    (c.in_ok-insert.ensures.updates.0 pair ∙ ap (λ (p : List ℕ). cond (is_eq (pair_cmp (p, c.args.no.0) pair)) true held) c.in_ok-copy.ensures)
    (c.loop-path.invariant pair)
