use Rattle.pie_step_laws.proofs.RootLemmas.{record_live, records_in_order}
use Rattle.pie_step_laws.proofs.roots.records_are_live.Goals as goal

pub returns-clause-each : goal.returns-clause-each
returns-clause-each c = λ w P R names t Q i. record_live w P R names Q t i

pub returns-clause-in_order : goal.returns-clause-in_order
returns-clause-in_order c = λ w P roots R names kept B e. records_in_order w P roots R names kept B e
