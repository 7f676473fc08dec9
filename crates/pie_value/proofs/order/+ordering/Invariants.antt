use Rattle.std.proofs.Common.{◌+◌, ◌*◌}
use Rattle.std.specs.declared.cmp.Ordering.{Ordering}
use Rattle.pie_value.specs.Tree.{mass, weight, items_of}
use Rattle.pie_value.specs.Values.{tree_of, trees_of}
use Rattle.pie_value.specs.Order.{OrdersItems}
use Rattle.pie_value.proofs.Orders.{OrdersLeft}
use Rattle.pie_value.proofs.order.+ordering.Given as goal

abbrev pub decreases-value_order : goal.decreases-value_order
decreases-value_order l = 2 * mass (tree_of l.a.now) + 1

abbrev pub decreases-contents_order : goal.decreases-contents_order
decreases-contents_order l = 2 * mass (tree_of l.a.now)

abbrev pub decreases-items_order : goal.decreases-items_order
decreases-items_order l = 2 * weight l.a.now + 1

abbrev pub decreases-values_order : goal.decreases-values_order
decreases-values_order l = 2 * weight (trees_of l.a.now)

abbrev pub invariant-values_order-loop-i : goal.invariant-values_order-loop-i
invariant-values_order-loop-i l =
    (o : Ordering) → OrdersLeft l.i l.a l.b o → OrdersItems (items_of (trees_of l.a)) (items_of (trees_of l.b)) o
