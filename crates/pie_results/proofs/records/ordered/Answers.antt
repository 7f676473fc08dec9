use Rattle.std.proofs.Common.{sym, ap, subst, ◌∙◌}
use Rattle.pie_graph.specs.Numbers.{numbers}
use Rattle.pie_results.specs.inner.Ordered.{AreApart, recorded}
use Rattle.pie_results.proofs.Ordering.{rows_are, rows_storable}
use Rattle.pie_results.proofs.Taking.{ascending_apart}
use Rattle.pie_results.proofs.records.ordered.Goals as goal

pub taken-requires : goal.taken-requires
taken-requires c =
    subst AreApart (sym c.as_slice.ensures.value)
    (ascending_apart c.args.tables.now.records c.args.heights.now c.in_ok-nos.nos.items c.in_ok-nos.ensures.ascending)

pub returns-clause-storable : goal.returns-clause-storable
returns-clause-storable c =
    rows_storable c.args.tables.now c.args.heights.now (numbers c.args.live.now) c.in_ok-nos.nos.items c.in_ok-rows.rows.items c.requires.tables
    c.in_ok-nos.ensures (c.in_ok-rows.ensures ∙ ap (recorded c.args.tables.now.records) c.as_slice.ensures.value)

pub returns-clause-records : goal.returns-clause-records
returns-clause-records c =
    rows_are c.args.tables.now c.args.heights.now (numbers c.args.live.now) c.in_ok-nos.nos.items c.in_ok-rows.rows.items c.requires.tables
    c.in_ok-nos.ensures (c.in_ok-rows.ensures ∙ ap (recorded c.args.tables.now.records) c.as_slice.ensures.value)
