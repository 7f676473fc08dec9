use Rattle.pie_graph.specs.Numbers.{numbers}
use Rattle.pie_reach.proofs.WalkSteps.{goes_up}
use Rattle.pie_reach.proofs.ways.UpWays.next.Goals as goal

pub returns : goal.returns
returns g c = goes_up (g.R.TaskRows.rows c.args.self.now.0.now) c.args.from.0 (numbers c.in_ok-found.found.items) c.in_ok-found.ensures
