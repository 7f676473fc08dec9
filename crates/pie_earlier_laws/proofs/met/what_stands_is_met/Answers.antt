use Rattle.pie_earlier_laws.proofs.Meeting.{tried_met, old_met}
use Rattle.pie_earlier_laws.proofs.met.what_stands_is_met.Goals as goal

pub returns-clause-now : goal.returns-clause-now
returns-clause-now c = λ w old now old_roots roots besides base m h s. tried_met w old now old_roots roots besides base m h s

pub returns-clause-then : goal.returns-clause-then
returns-clause-then c = λ w old now old_roots roots besides m s. old_met w old now old_roots roots besides m s
