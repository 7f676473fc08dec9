use Rattle.pie_graph.specs.Numbers.{numbers}
use Rattle.pie_reach.proofs.WalkSteps.{upstream_exactly}
use Rattle.pie_reach.proofs.reach.upstream.Goals as goal

pub returns : goal.returns
returns g c =
    upstream_exactly (g.R.TaskRows.rows c.args.rows.now) c.args.no.0 c.in_ok-marks.marks.items c.deref.result.now
    (numbers c.in_ok-found.found.items) c.requires c.in_ok-marks.ensures c.deref.ensures.value c.in_ok-found.ensures
