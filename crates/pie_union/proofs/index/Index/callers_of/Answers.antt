use Rattle.std.proofs.Common.{length}
use Rattle.pie_graph.specs.Numbers.{numbers}
use Rattle.pie_union.proofs.Indexing.{callers_exactly}
use Rattle.pie_union.proofs.index.Index.callers_of.Goals as goal

pub returns : goal.returns
returns c = λ rows is.
    callers_exactly c.args.self.now (length rows) rows c.args.no.0 (numbers c.of.result.now) is c.of.ensures.numbers c.of.ensures.ascending
