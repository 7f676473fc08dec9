use Rattle.std.proofs.Common.{List, ap, ◌∙◌}
use Rattle.pie_graph.specs.declared.edges.TaskNo.{TaskNo}
use Rattle.pie_graph.specs.Numbers.{numbers}
use Rattle.pie_union.specs.inner.Among.{among}
use Rattle.pie_union.proofs.Sorting.{once_up, once_among}
use Rattle.pie_union.proofs.ascending.Ascending.of.Goals as goal

pub invariant_of-result : goal.invariant_of-result
invariant_of-result c = once_up c.sort_unstable.new.self.items c.dedup.new.self.items c.sort_unstable.ensures.sorted c.dedup.ensures.filtered

pub returns : goal.returns
returns c = λ k.
    once_among c.in_ok-nos.nos.items c.sort_unstable.new.self.items c.dedup.new.self.items k c.sort_unstable.ensures.permutation c.dedup.ensures.filtered
    ∙ ap (λ (ts : List TaskNo). among (numbers ts) k) c.in_ok-nos.ensures.items
