use Rattle.std.proofs.Common.{◌∙◌, refl}
use Rattle.pie_graph.specs.Numbers.{numbers}
use Rattle.pie_graph.proofs.EdgeRange.{starts_below, users_exactly, users_start, users_more, users_all}
use Rattle.pie_graph.proofs.index.users_of.Goals as goal

pub range-edge-items-requires : goal.range-edge-items-requires
range-edge-items-requires c = starts_below c.args.what c.in_ok-copy.field-0 c.in_ok-copy.ensures

pub loop-edge-init : goal.loop-edge-init
loop-edge-init c =
    users_start c.args.what c.in_ok-copy.field-0 c.args.index.now c.new-found.result.items c.into_iter-edge-iterator.result c.new-found.ensures.items
    c.in_ok-copy.ensures
    (c.into_iter-edge-iterator.ensures.into_iter_gives ∙ c.range-edge-items.ensures.between tt)

pub loop-edge-preserved : goal.loop-edge-preserved
loop-edge-preserved c =
    rw c.in_ok-push.ensures.items
    (users_more c.loop-edge.found.items _ c.in-Some.edge.now c.loop-edge.edge-iterator c.next.new.self _ refl c.in-Some.ensures.steps c.loop-edge.invariant)

pub returns : goal.returns
returns c = λ rows few is.
    users_exactly c.args.index.now c.args.what rows (numbers c.loop-edge.found.items) c.range-edge-items.ensures.ordered few is
    (users_all c.loop-edge.found.items c.loop-edge.edge-iterator _ c.in-None.ensures.steps.0 c.loop-edge.invariant)
