use Rattle.std.proofs.Common.{List, length, map, take, subst}
use Rattle.pie_graph.specs.Rows.{Row, row_of}
use Rattle.pie_union.specs.inner.Index.{Tells}
use Rattle.pie_union.proofs.Indexing.{row_below, next_row, rows_before}
use Rattle.pie_union.proofs.index.Index.of.Goals as goal

pub add_row-requires : goal.add_row-requires
add_row-requires c =
    row_below c.args.rows.now c.loop-i.i c.index-rows-i.result (length c.loop-i.index.callers) c.requires.needs_below c.loop-i-test.true c.index-rows-i.is
    c.loop-i.invariant.lists

pub loop-i-preserved : goal.loop-i-preserved
loop-i-preserved c =
    let edges = c.args.rows.now in
    let i = c.loop-i.i in
    subst (λ (rows : List Row). Tells c.add_row.new.self (length edges) rows) (next_row edges i c.index-rows-i.result c.loop-i-test.true c.index-rows-i.is)
    (c.in_ok-add_row.ensures (length edges) (map row_of (take i edges)) c.loop-i.invariant (rows_before edges i c.loop-i-test.true))
