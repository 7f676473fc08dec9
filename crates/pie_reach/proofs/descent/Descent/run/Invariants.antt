use Rattle.pie_reach.specs.inner.Descents.{Descends, KeepsMet, left}
use Rattle.pie_reach.proofs.descent.Descent.run.Given as goal

abbrev pub invariant-loop : goal.invariant-loop
invariant-loop g l = Descends (g.R.TaskRows.rows l.rows) l.self × KeepsMet l.fn.self.states.items l.self.states.items

abbrev pub decreases-loop : goal.decreases-loop
decreases-loop g l = left (g.R.TaskRows.rows l.rows) l.self
