use Rattle.std.proofs.Common.{sym, subst, map}
use Rattle.pie_graph.specs.Rows.{row_of}
use Rattle.pie_walk.specs.States.{NeedsAreEarlier}
use Rattle.pie_old.proofs.Earlier.{below_in, earlier_in}
use Rattle.pie_old.proofs.graph.graph_of.Goals as goal

pub of-requires-clause-needs_below : goal.of-requires-clause-needs_below
of-requires-clause-needs_below c =
    let rows = map row_of c.in_ok-edges.edges.items in
    below_in rows (earlier_in c.args.rows.now rows c.requires.order c.in_ok-edges.ensures)

pub returns-clause-earlier : goal.returns-clause-earlier
returns-clause-earlier c =
    subst NeedsAreEarlier (sym c.in_ok-graph.ensures)
    (earlier_in c.args.rows.now (map row_of c.in_ok-edges.edges.items) c.requires.order c.in_ok-edges.ensures)
