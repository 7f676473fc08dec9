use Rattle.pie_graph.specs.Numbers.{numbers}
use Rattle.pie_compare.specs.inner.Here.{around}
use Rattle.pie_compare.proofs.Sights.{none_own, others_are}
use Rattle.pie_compare.proofs.present.Present.others_stand.Goals as goal

pub returns : goal.returns
returns g c =
    others_are (around (g.R.TaskRows.rows c.args.self.now.rows.now) c.args.self.now) (numbers c.args.required.now) c.args.kind c.args.path.now
    c.args.stamp.now c.in_ok-seen.seen c.seen_stands.result (c.in_ok-seen.ensures.others (none_own c.args.path.now)) c.seen_stands.ensures
