use Rattle.pie_graph.specs.Numbers.{numbers}
use Rattle.pie_results.proofs.Numbering.{places_ordered}
use Rattle.pie_results.proofs.places.sorted.Goals as goal

pub returns : goal.returns
returns c =
    places_ordered c.args.tables.now c.args.heights.now (numbers c.args.live.now) c.in_ok-places.places.entries c.in_ok-nos.nos.items c.requires.tables
    c.as_slice-names.ensures.distinct c.as_slice-names.ensures.canonical c.in_ok-places.ensures c.in_ok-nos.ensures
