use Rattle.std.proofs.Common.{◌≡◌, arith}
use Rattle.pie_vm.proofs.Flipped.{two_at_end}
use Rattle.pie_vm.proofs.stack.last_two.Goals as goal

pub returns-in-len2-up : goal.returns-in-len2-up
returns-in-len2-up c = two_at_end c.args.values.now c.under-item.result c.top-item.result c.in-len2-up.len_at_least c.top-item.is c.under-item.is
