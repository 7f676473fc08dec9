use Rattle.pie_model.specs.inner.RecordLaws.{Passes}
use Rattle.pie_settle_laws.proofs.Sweeping.{untouched, new_unreached}
use Rattle.pie_settle_laws.proofs.sweeps.finishes_leave_untouched.Goals as goal

pub returns-clause-swept : goal.returns-clause-swept
returns-clause-swept c = λ w now R S told t new busy z r swept change b is up f h. untouched w now R S told t new change (Passes busy) z r b is swept up f h

pub returns-clause-unreached : goal.returns-clause-unreached
returns-clause-unreached c = λ R t z r closed none is u i q. new_unreached R t z r closed none is u i q
