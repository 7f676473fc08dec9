use Rattle.std.proofs.Common.{sym, subst}
use Rattle.pie_graph.specs.Numbers.{numbers}
use Rattle.pie_record.specs.declared.dep.DepOn.{DepOn}
use Rattle.pie_compare.specs.inner.Standing.{OnStands, Tells}
use Rattle.pie_compare.specs.inner.Here.{around}
use Rattle.pie_compare.proofs.present.Present.dep_stands.Goals as goal

pub returns-in_ok-stands-in-Called-clause-tells : goal.returns-in_ok-stands-in-Called-clause-tells
returns-in_ok-stands-in-Called-clause-tells g c =
    let self = c.args.self.now in
    let required = numbers c.args.required.now.items in
    subst (λ (what : DepOn). Tells (OnStands (around (g.R.TaskRows.rows self.rows.now) self) required c.args.dep.now.kind what
    c.args.dep.now.stamp) c.in_ok-stands-in-Called.stands (numbers c.called_stands.new.required.items)) (sym c.in-Called.is)
    c.in_ok-stands-in-Called.ensures.tells
