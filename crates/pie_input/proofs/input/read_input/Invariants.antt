use Rattle.std.proofs.Common.{◌-◌, length}
use Rattle.pie_input.proofs.Gathering.{Gathering}
use Rattle.pie_input.proofs.input.read_input.Given as goal

abbrev pub invariant-loop-input : goal.invariant-loop-input
invariant-loop-input g l = Gathering g.I.Source.left g.I.Source.faults g.I.Source.infallible l.fn.input l.input l.piece.items l.bytes.items

abbrev pub decreases-loop-input : goal.decreases-loop-input
decreases-loop-input g l = 16777217 - length l.bytes.items
