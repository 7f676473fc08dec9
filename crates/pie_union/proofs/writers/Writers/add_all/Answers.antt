use Rattle.std.proofs.Common.{◌∙◌, ℕ, List, ap, cond, true}
use Rattle.std.specs.Ordering.{is_eq}
use Rattle.pie_union.specs.inner.Writers.{pair_cmp, holds}
use Rattle.pie_union.proofs.PairSteps.{add_step, still_held}
use Rattle.pie_union.proofs.writers.Writers.add_all.Goals as goal

pub loop-pair-preserved : goal.loop-pair-preserved
loop-pair-preserved c =
    let held = holds c.loop-pair.self.pairs in
    let now = holds c.insert.new.self in (
      λ q. add_step q c.in-Some.pair.now c.loop-pair.pair-iterator c.next.new.self (held q) (now q) _ c.in-Some.ensures.steps
          (c.in_ok-insert.ensures.updates.0 q ∙ ap (λ (p : List ℕ). cond (is_eq (pair_cmp (p, c.in-Some.pair.now.1) q)) true (held q)) c.in_ok-path.ensures)
          (c.loop-pair.invariant.0 q),
      λ q h. still_held (is_eq (pair_cmp (c.in_ok-path.path, c.in-Some.pair.now.1) q)) (held q) (now q) (c.in_ok-insert.ensures.updates.0 q)
          (c.loop-pair.invariant.1 q h),
    )
