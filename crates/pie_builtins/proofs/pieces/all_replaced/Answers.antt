use Rattle.std.proofs.Common.{arith}
use Rattle.pie_builtins.proofs.Joining.{too_long}
use Rattle.pie_builtins.proofs.Parting.{puts, shorter}
use Rattle.pie_builtins.proofs.pieces.all_replaced.Goals as goal

pub loop-front-preserved : goal.loop-front-preserved
loop-front-preserved c = grind (arith, puts)

pub loop-front-smaller : goal.loop-front-smaller
loop-front-smaller c = grind (arith, shorter)

pub returns-then-len-gt-MAX_VALUE_BYTES : goal.returns-then-len-gt-MAX_VALUE_BYTES
returns-then-len-gt-MAX_VALUE_BYTES c = grind (arith, too_long)
