use Rattle.std.proofs.Common.{arith}
use Rattle.pie_value.proofs.Turns.{one_more}
use Rattle.pie_value.proofs.reader.Reader.+reading.Goals as goal

pub items-loop-preserved : goal.items-loop-preserved
items-loop-preserved t c = grind (arith, one_more)
