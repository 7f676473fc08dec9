use Rattle.std.proofs.Common.{arith}
use Rattle.pie_roots.proofs.Turns.{one_more, one_stops}
use Rattle.pie_roots.proofs.reader.Reader.+reading.Goals as goal

pub listed-loop-preserved : goal.listed-loop-preserved
listed-loop-preserved t c = grind (arith, one_more)

pub listed-returns-then-not-at : goal.listed-returns-then-not-at
listed-returns-then-not-at t c = grind (arith, one_stops)
