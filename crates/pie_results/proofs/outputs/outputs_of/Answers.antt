use Rattle.pie_results.proofs.Giving.{done_at, outputs_all, outputs_more}
use Rattle.pie_results.proofs.outputs.outputs_of.Goals as goal

pub loop-root-preserved : goal.loop-root-preserved
loop-root-preserved c = λ done.
    outputs_more c.args.tables.now.names c.args.tables.now.records c.args.roots.now c.loop-root.root-index c.root-item.result c.loop-root.outputs.items
    c.put_output.new.outputs.items c.loop-root-test.true c.root-item.is
    (c.in_ok-put_output.ensures (done_at c.args.tables.now.names c.args.tables.now.records c.args.roots.now c.loop-root.root-index c.root-item.result
    c.loop-root-test.true c.root-item.is done))
    (c.loop-root.invariant done)

pub returns : goal.returns
returns c = λ done.
    outputs_all c.args.tables.now.names c.args.tables.now.records c.args.roots.now c.loop-root.root-index c.loop-root.outputs.items c.loop-root-test.false
    (c.loop-root.invariant done)
