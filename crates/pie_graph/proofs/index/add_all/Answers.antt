use Rattle.std.proofs.Common.{◌∙◌, ap, cond, true}
use Rattle.std.specs.Ordering.{is_eq}
use Rattle.pie_graph.specs.declared.uses.Use.{Use}
use Rattle.std.proofs.Common.{ℕ}
use Rattle.pie_graph.specs.Index.{edge_cmp, holds}
use Rattle.pie_graph.proofs.EdgeSets.{add_step, still_held}
use Rattle.pie_graph.proofs.index.add_all.Goals as goal

pub loop-edge-preserved : goal.loop-edge-preserved
loop-edge-preserved c = (
  λ q. add_step q c.in-Some.edge.now c.loop-edge.edge-iterator c.next.new.self (holds c.loop-edge.index q) (holds c.insert.new.self q) _ c.in-Some.ensures.steps
      (c.in_ok-insert.ensures.updates.0 q ∙ ap (λ (e : Use × ℕ). cond (is_eq (edge_cmp e q)) true (holds c.loop-edge.index q)) c.in_ok-copy.ensures)
      (c.loop-edge.invariant.0 q),
  λ q h. still_held (is_eq (edge_cmp c.in_ok-copy.copy q)) (holds c.loop-edge.index q) (holds c.insert.new.self q) (c.in_ok-insert.ensures.updates.0 q)
      (c.loop-edge.invariant.1 q h),
)
