use Rattle.std.proofs.Common.{arith}
use Rattle.pie_builtins.proofs.Joining.{too_many_items}
use Rattle.pie_builtins.proofs.Parting.{grows, shorter}
use Rattle.pie_builtins.proofs.pieces.all_pieces.Goals as goal

pub loop-front-preserved : goal.loop-front-preserved
loop-front-preserved c = grind (arith, grows)

pub loop-front-smaller : goal.loop-front-smaller
loop-front-smaller c = grind (arith, shorter)

pub returns-then-bytes-gt-MAX_VALUE_BYTES : goal.returns-then-bytes-gt-MAX_VALUE_BYTES
returns-then-bytes-gt-MAX_VALUE_BYTES c = grind (arith, too_many_items)
