use Rattle.pie_graph.specs.Numbers.{numbers}
use Rattle.pie_graph.specs.Rows.{Calls}
use Rattle.pie_reach.proofs.Removing.{exactly_closed}
use Rattle.pie_reach.proofs.collect.live.Goals as goal

pub returns : goal.returns
returns g c =
    exactly_closed _ (Calls (g.R.TaskRows.rows c.args.rows.now)) (numbers c.args.roots.now) c.in_ok-marks.marks.items c.deref.result.now
    (numbers c.in_ok-found.found.items) c.in_ok-marks.ensures c.deref.ensures.value c.in_ok-found.ensures
