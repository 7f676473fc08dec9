use Rattle.std.proofs.Common.{List, subst, sym}
use Rattle.pie_graph.specs.Rows.{Row, row_of}
use Rattle.pie_order.specs.Places.{PlacesAgree}
use Rattle.bench_leaves.proofs.OneEdge.{none_gives, still_agrees}
use Rattle.bench_leaves.proofs.graphs.insert.Goals as goal

pub returns-clause-agrees : goal.returns-clause-agrees
returns-clause-agrees c =
    let h = none_gives _ _ _ c.in_default.is c.in_ok-_cycle.ensures.inserted in
    subst (λ (rows : List Row). PlacesAgree rows c.insert.new.self) (sym c.in_ok-set_edges.ensures.set)
    (still_agrees _ _ c.args.from c.args.to (row_of c.in_ok-edges.edges) h.0 c.requires.from c.in_ok-edges.ensures h.1)
