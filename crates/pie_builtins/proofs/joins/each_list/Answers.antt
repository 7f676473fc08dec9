use Rattle.std.proofs.Common.{arith}
use Rattle.pie_builtins.proofs.Joining.{too_many_items}
use Rattle.pie_builtins.proofs.joins.each_list.Goals as goal

pub returns-then-bytes-gt-MAX_VALUE_BYTES : goal.returns-then-bytes-gt-MAX_VALUE_BYTES
returns-then-bytes-gt-MAX_VALUE_BYTES c = grind (arith, too_many_items)
