use Rattle.std.proofs.Common.{◌∙◌, refl}
use Rattle.pie_graph.specs.Numbers.{numbers}
use Rattle.pie_union.proofs.PairRange.{starts_below, writers_exactly, range_start, range_more, range_all}
use Rattle.pie_union.proofs.writers.Writers.of.Goals as goal

pub range-pair-items-requires : goal.range-pair-items-requires
range-pair-items-requires c = starts_below c.args.path.now c.in_ok-copy.field-0 c.in_ok-copy-2.field-0 c.in_ok-copy.ensures c.in_ok-copy-2.ensures

pub returns : goal.returns
returns c = λ rows few is.
    writers_exactly c.args.self.now.pairs c.args.path.now rows (numbers c.loop-pair.found.items) c.range-pair-items.ensures.ordered few is
    (range_all c.loop-pair.found.items c.loop-pair.pair-iterator _ c.in-None.ensures.steps.0 c.loop-pair.invariant)

pub loop-pair-init : goal.loop-pair-init
loop-pair-init c =
    range_start c.args.path.now c.in_ok-copy.field-0 c.in_ok-copy-2.field-0 c.args.self.now.pairs c.new-found.result.items c.into_iter-pair-iterator.result
    c.new-found.ensures.items c.in_ok-copy.ensures c.in_ok-copy-2.ensures
    (c.into_iter-pair-iterator.ensures.into_iter_gives ∙ c.range-pair-items.ensures.between tt)

pub loop-pair-preserved : goal.loop-pair-preserved
loop-pair-preserved c =
    rw c.in_ok-push.ensures.items
    (range_more c.loop-pair.found.items _ c.in-Some.pair.now c.loop-pair.pair-iterator c.next.new.self _ refl c.in-Some.ensures.steps c.loop-pair.invariant)
