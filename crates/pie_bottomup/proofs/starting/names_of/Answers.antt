use Rattle.pie_bottomup.proofs.ExactBeginning.{names_next}
use Rattle.pie_bottomup.proofs.starting.names_of.Goals as goal

pub loop-path-preserved : goal.loop-path-preserved
loop-path-preserved c = (
  names_next c.loop-path.named c.name.new.self c.args.changes.now c.loop-path.path-index c.path-item.result c.loop-path-test.true c.path-item.is
      c.loop-path.invariant.0 c.in_ok-name.ensures.names c.in_ok-name.ensures.above,
  λ d. c.in_ok-name.ensures.right d (c.loop-path.invariant.1 d),
)
