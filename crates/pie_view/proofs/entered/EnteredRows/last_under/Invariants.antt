use Rattle.pie_graph.specs.Numbers.{numbers}
use Rattle.pie_view.specs.inner.Entered.{Spans}
use Rattle.pie_view.proofs.entered.EnteredRows.last_under.Given as goal

abbrev pub invariant-loop-need : goal.invariant-loop-need
invariant-loop-need l = Spans l.self (numbers l.needs) l.fn.no.0 l.last
