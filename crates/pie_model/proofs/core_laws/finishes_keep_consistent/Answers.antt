use Rattle.pie_model.specs.inner.RecordLaws.{Passes}
use Rattle.pie_model.proofs.StepsLemmas.{finish_consistent, stays_settled}
use Rattle.pie_model.proofs.core_laws.finishes_keep_consistent.Goals as goal

pub returns-clause-consistent : goal.returns-clause-consistent
returns-clause-consistent c =
    λ w old now met R S told retold held rank new_rank busy after t new c change right in_held plain seen needs lower telling others untouched.
    finish_consistent w old now (Passes met) R S told retold held rank new_rank (Passes busy) (Passes after) t new c change right in_held
    plain seen needs
    lower telling others untouched

pub returns-clause-settled : goal.returns-clause-settled
returns-clause-settled c = λ R S t new change busy after b f u s. stays_settled R S t new change (Passes busy) (Passes after) b f u s
