use Rattle.std.proofs.Common.{sym, ◌∙◌}
use Rattle.pie_compare.proofs.Written.{record_is}
use Rattle.pie_compare.proofs.standing.record_stands.Goals as goal

pub returns : goal.returns
returns g c =
    record_is c.args.tables.now (g.R.TaskRows.rows c.args.rows.now) c.args.named.now c.args.rec.now c.as_slice.result.now c.as_slice-3.result.now
    c.as_slice-2.result.now c.in_ok-deps_stand.field-0 c.writes_stand.result (sym c.is_done.ensures ∙ c.if-not-is_done.false) c.as_slice.ensures
    c.as_slice-2.ensures c.as_slice-3.ensures c.if-not-branch.false c.in_ok-deps_stand.ensures c.writes_stand.ensures
