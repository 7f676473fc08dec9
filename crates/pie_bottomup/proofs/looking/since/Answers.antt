use Rattle.pie_graph.specs.Rows.{row_at}
use Rattle.pie_bottomup.proofs.ExactEvents.{since_is}
use Rattle.pie_bottomup.proofs.looking.since.Goals as goal

pub returns-clause-is : goal.returns-clause-is
returns-clause-is g c =
    since_is c.args.from c.callees-all.result.now c.min-from.result (row_at (g.R.TaskRows.rows c.args.rows.now) c.args.no.0).needs c.min-from.ensures
    c.callees-all.ensures.callees
