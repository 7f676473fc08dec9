use Rattle.std.proofs.Common.{ap, length, arith}
use Rattle.pie_order.proofs.Numbering.{numbers_more, length-numbers_below}
use Rattle.pie_order.proofs.order.Order.new.Goals as goal

pub grow-requires : goal.grow-requires
grow-requires c = omega (arith, ap length c.loop.invariant, length-numbers_below c.loop.counter, c.requires)

pub loop-preserved : goal.loop-preserved
loop-preserved c = numbers_more c.loop.counter c.loop.order c.grow.new.self c.loop.invariant c.in_ok-grow.ensures.grown
