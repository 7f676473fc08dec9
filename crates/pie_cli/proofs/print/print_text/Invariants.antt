use Rattle.std.proofs.Common.{◌-◌, length}
use Rattle.pie_cli.proofs.Printing.{Printing}
use Rattle.pie_cli.proofs.print.print_text.Given as goal

abbrev pub invariant-loop-done : goal.invariant-loop-done
invariant-loop-done g l = Printing g.K.Sink.held g.K.Sink.faults g.K.Sink.infallible l.fn.out l.out l.text l.done

abbrev pub decreases-loop-done : goal.decreases-loop-done
decreases-loop-done g l = length l.text - l.done
