use Rattle.std.proofs.Common.{◌<◌, ap, arith}
use Rattle.pie_value.specs.declared.value.Value.{Value}
use Rattle.pie_value.specs.Tree.{mass, weight}
use Rattle.pie_value.specs.Values.{tree_of, trees_of}
use Rattle.pie_value.proofs.Elements.{mass_at}
use Rattle.pie_value.proofs.Orders.{left_second, left_first}
use Rattle.pie_value.proofs.order.+ordering.Goals as goal

pub values_order-value_order-requires : goal.values_order-value_order-requires
values_order-value_order-requires t c =
    let h : mass (tree_of c.index-a-i.result) < weight (trees_of c.args.a.now) =
    omega (arith, mass_at c.args.a.now c.loop-i.i c.index-a-i.result (omega arith), ap (λ (v : Value). mass (tree_of v)) c.index-a-i.is) in
    (omega arith, tt)

pub values_order-returns-in_default : goal.values_order-returns-in_default
values_order-returns-in_default t c =
    c.loop-i.invariant c.value_order.result
    (left_first c.args.a.now c.args.b.now c.loop-i.i c.index-a-i.result c.index-b-i.result c.value_order.result (omega arith) (omega arith)
    c.index-a-i.is c.index-b-i.is c.value_order.ensures c.in_default.not-Equal)

pub values_order-loop-i-preserved : goal.values_order-loop-i-preserved
values_order-loop-i-preserved t c = λ o h.
    c.loop-i.invariant o
    (left_second c.args.a.now c.args.b.now c.loop-i.i c.index-a-i.result c.index-b-i.result o (omega arith) (omega arith)
    c.index-a-i.is c.index-b-i.is (λ s u. rw (← c.in-Equal.is) (c.value_order.ensures s u)) h)
