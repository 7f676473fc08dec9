use Rattle.std.proofs.Common.{length, subst}
use Rattle.pie_graph.specs.Numbers.{numbers}
use Rattle.pie_record.specs.inner.Names.{Numbers}
use Rattle.pie_compare.specs.inner.Here.{around}
use Rattle.pie_compare.proofs.Turns.{pushed, pushed_below, called_told, unknown_told}
use Rattle.pie_compare.proofs.present.Present.called_stands.Goals as goal

pub returns-in_ok-stands-in-Some-clause-below : goal.returns-in_ok-stands-in-Some-clause-below
returns-in_ok-stands-in-Some-clause-below g c =
    let t = c.args.self.now.tables.now in
    pushed_below t.names (length (g.R.TaskRows.rows c.args.self.now.rows.now)) c.args.required.now.items c.in-Some.no c.push.new.self.items
    c.args.task.now c.requires.rows (subst (Numbers t.names c.args.task.now) c.in-Some.is c.in_ok-no.ensures) c.in_ok-push-in-Some.ensures.items
    c.requires.required

pub returns-in_ok-stands-in-Some-clause-tells : goal.returns-in_ok-stands-in-Some-clause-tells
returns-in_ok-stands-in-Some-clause-tells g c =
    let self = c.args.self.now in
    called_told (around (g.R.TaskRows.rows self.rows.now) self) (numbers c.args.required.now.items) c.args.kind
    c.args.task.now c.args.stamp.now c.in_ok-stands-in-Some.stands c.in-Some.no.0 (numbers c.push.new.self.items) c.as_slice-names.ensures.distinct
    (subst (Numbers self.tables.now.names c.args.task.now) c.in-Some.is c.in_ok-no.ensures)
    (pushed c.args.required.now.items c.in-Some.no c.push.new.self.items c.in_ok-push-in-Some.ensures.items) c.in_ok-stands-in-Some.ensures

pub returns-in-None-clause-tells : goal.returns-in-None-clause-tells
returns-in-None-clause-tells g c =
    let self = c.args.self.now in
    unknown_told (around (g.R.TaskRows.rows self.rows.now) self) (numbers c.args.required.now.items) c.args.kind
    c.args.task.now c.args.stamp.now (numbers c.args.required.now.items)
    (subst (Numbers self.tables.now.names c.args.task.now) c.in-None.is c.in_ok-no.ensures)
