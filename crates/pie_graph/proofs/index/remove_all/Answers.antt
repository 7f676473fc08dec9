use Rattle.pie_graph.specs.Index.{holds}
use Rattle.pie_graph.proofs.EdgeSets.{remove_step}
use Rattle.pie_graph.proofs.index.remove_all.Goals as goal

pub loop-edge-preserved : goal.loop-edge-preserved
loop-edge-preserved c = λ q.
    remove_step (holds c.args.staying.now) q c.in-Some.edge.now c.loop-edge.edge-iterator c.next.new.self (holds c.loop-edge.index q)
    (holds c.remove_unless.new.index q) _ c.in-Some.ensures.steps (c.remove_unless.ensures q) (c.loop-edge.invariant q)
