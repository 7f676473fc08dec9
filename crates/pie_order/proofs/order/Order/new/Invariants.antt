use Rattle.std.proofs.Common.{◌≡◌}
use Rattle.pie_order.specs.Places.{numbers_below}
use Rattle.pie_order.proofs.order.Order.new.Given as goal

abbrev pub invariant-loop : goal.invariant-loop
invariant-loop l = l.order ≡ numbers_below l.counter
