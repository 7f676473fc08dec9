use Rattle.std.proofs.Common.{length}
use Rattle.pie_inspect_cli.proofs.Printing.{Printed}
use Rattle.pie_inspect_cli.proofs.top.put_all.Given as goal

abbrev pub invariant-pieces : goal.invariant-pieces
invariant-pieces g l = Printed (g.K.Sink.held l.fn.out) (g.K.Sink.held l.out) l.text l.left

abbrev pub decreases-pieces : goal.decreases-pieces
decreases-pieces g l = length l.left
