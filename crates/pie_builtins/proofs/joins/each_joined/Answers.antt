use Rattle.std.proofs.Common.{arith}
use Rattle.pie_builtins.proofs.Joining.{too_long}
use Rattle.pie_builtins.proofs.joins.each_joined.Goals as goal

pub returns-then-len-gt-MAX_VALUE_BYTES : goal.returns-then-len-gt-MAX_VALUE_BYTES
returns-then-len-gt-MAX_VALUE_BYTES c = grind (arith, too_long)
