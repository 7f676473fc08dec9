use Rattle.std.proofs.Common.{◌∙◌, ap, cond, true}
use Rattle.std.specs.Ordering.{is_eq}
use Rattle.pie_graph.specs.declared.uses.Use.TheVariants.{Writes}
use Rattle.pie_graph.specs.Index.{edge_cmp, holds}
use Rattle.pie_graph.proofs.EdgeSteps.{writes_step, writes_end}
use Rattle.pie_graph.proofs.index.writes_of.Goals as goal

pub loop-path-preserved : goal.loop-path-preserved
loop-path-preserved c = λ edge.
    writes_step c.args.paths.now c.loop-path.path-index c.path-item.result c.args.no edge _ _ _ c.loop-path-test.true c.path-item.is
    (c.in_ok-insert.ensures.updates.0 edge ∙ ap (λ p. cond (is_eq (edge_cmp (Writes p, c.args.no) edge)) true (holds c.loop-path.index edge)) c.in_ok-copy.ensures)
    (c.loop-path.invariant edge)

pub returns : goal.returns
returns c = λ edge. writes_end c.args.paths.now c.loop-path.path-index c.args.no edge _ _ c.loop-path-test.false (c.loop-path.invariant edge)
