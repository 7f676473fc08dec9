use Rattle.pie_model.specs.inner.RecordLaws.{Passes}
use Rattle.pie_model.proofs.StepsLemmas.{take_consistent, take_settled}
use Rattle.pie_model.proofs.core_laws.takes_keep_consistent.Goals as goal

pub returns-clause-consistent : goal.returns-clause-consistent
returns-clause-consistent c =
    λ w old now met R told held rank busy after t c up f.
    take_consistent w old now (Passes met) R told held rank (Passes busy) (Passes after) t c up f

pub returns-clause-settled : goal.returns-clause-settled
returns-clause-settled c = λ R busy after f u s. take_settled R (Passes busy) (Passes after) f u s
