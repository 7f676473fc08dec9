use Rattle.std.proofs.Common.{List, take}
use Rattle.pie_value.specs.declared.task.Task.{Task}
use Rattle.pie_graph.specs.Numbers.{numbers}
use Rattle.pie_results.specs.inner.Live.{AreStarts}
use Rattle.pie_results.proofs.Starting.{seen_more, seen_all}
use Rattle.pie_results.proofs.outputs.numbers_of.Goals as goal

pub loop-root-preserved : goal.loop-root-preserved
loop-root-preserved c =
    seen_more (λ (seen : List Task). AreStarts c.args.tables.now.names seen (numbers c.put_number.new.nos.items)) c.args.roots.now c.loop-root.root-index
    c.root-item.result c.loop-root-test.true c.root-item.is
    (c.in_ok-put_number.ensures (take c.loop-root.root-index c.args.roots.now) c.loop-root.invariant)

pub returns : goal.returns
returns c =
    seen_all (λ (seen : List Task). AreStarts c.args.tables.now.names seen (numbers c.loop-root.nos.items)) c.args.roots.now c.loop-root.root-index
    c.loop-root-test.false c.loop-root.invariant
