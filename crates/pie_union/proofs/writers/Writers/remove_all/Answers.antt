use Rattle.pie_union.specs.inner.Writers.{holds}
use Rattle.pie_union.proofs.PairSteps.{remove_step}
use Rattle.pie_union.proofs.writers.Writers.remove_all.Goals as goal

pub loop-pair-preserved : goal.loop-pair-preserved
loop-pair-preserved c = λ q.
    remove_step (holds c.args.staying.now.pairs) q c.in-Some.pair.now c.loop-pair.pair-iterator c.next.new.self (holds c.loop-pair.self.pairs q)
    (holds c.remove_unless.new.self.pairs q) _ c.in-Some.ensures.steps (c.remove_unless.ensures q) (c.loop-pair.invariant q)
