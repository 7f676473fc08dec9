use Rattle.pie_store.proofs.InOrder.{lines_left, names_left}
use Rattle.pie_store.proofs.pending.put_lines.Goals as goal

pub loop-path-preserved : goal.loop-path-preserved
loop-path-preserved c = (
  lines_left _ _ _ _ _ _ c.in-Some.ensures.steps c.in_ok-put_line.ensures.written c.loop-path.invariant.0,
  names_left _ _ _ _ c.in-Some.ensures.steps c.in_ok-put_line.ensures.name c.loop-path.invariant.1,
)
