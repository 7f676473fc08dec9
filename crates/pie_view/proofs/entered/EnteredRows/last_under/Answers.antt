use Rattle.std.proofs.Common.{get_or}
use Rattle.pie_graph.specs.Numbers.{numbers}
use Rattle.pie_graph.specs.declared.edges.TaskNo.{TaskNo}
use Rattle.pie_view.proofs.Entering.{spans_more, number_here}
use Rattle.pie_view.proofs.entered.EnteredRows.last_under.Goals as goal

pub loop-need-preserved : goal.loop-need-preserved
loop-need-preserved c =
    let need : TaskNo = get_or c.args.needs.now c.loop-need.need-index (record { 0 = 0 }) in
    spans_more c.args.self.now (numbers c.args.needs.now) need.0 c.args.no.0 c.loop-need.last c.last_with-last.result
    (number_here c.args.needs.now c.loop-need.need-index (record { 0 = 0 }) c.loop-need-test.true) c.loop-need.invariant c.last_with-last.ensures
