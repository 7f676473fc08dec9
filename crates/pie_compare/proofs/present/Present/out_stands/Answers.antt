use Rattle.std.proofs.Common.{sym, ◌∙◌}
use Rattle.pie_graph.specs.Numbers.{numbers}
use Rattle.pie_compare.specs.inner.Here.{around}
use Rattle.pie_compare.proofs.Sights.{outs_are}
use Rattle.pie_compare.proofs.present.Present.out_stands.Goals as goal

pub returns-in_ok-stands-in-None : goal.returns-in_ok-stands-in-None
returns-in_ok-stands-in-None g c =
    outs_are (around (g.R.TaskRows.rows c.args.self.now.rows.now) c.args.self.now) (numbers c.args.required.now) c.args.kind c.args.path.now
    c.args.stamp.now c.in_ok-stands-in-None.stands (sym c.is_of_file.ensures ∙ c.if-not-is_of_file.false) (sym c.write_at.ensures ∙ c.in-None.is)
    c.in_ok-stands-in-None.ensures
