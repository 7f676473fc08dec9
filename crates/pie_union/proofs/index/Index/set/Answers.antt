use Rattle.std.proofs.Common.{length}
use Rattle.pie_graph.specs.Numbers.{numbers}
use Rattle.pie_union.proofs.Indexing.{below_same}
use Rattle.pie_union.proofs.index.Index.set.Goals as goal

pub replace-requires-clause-old_below : goal.replace-requires-clause-old_below
replace-requires-clause-old_below c =
    below_same (length c.args.self.now.callers) (numbers c.args.old.now.needs.items) c.in_ok-old.old.needs c.in_ok-old.ensures.needs c.requires.old_below

pub replace-requires-clause-new_below : goal.replace-requires-clause-new_below
replace-requires-clause-new_below c =
    below_same (length c.args.self.now.callers) (numbers c.args.new.now.needs.items) c.in_ok-new.new.needs c.in_ok-new.ensures.needs c.requires.new_below
