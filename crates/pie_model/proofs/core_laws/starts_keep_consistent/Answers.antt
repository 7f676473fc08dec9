use Rattle.pie_model.specs.inner.RecordLaws.{Passes}
use Rattle.pie_model.proofs.StepsLemmas.{more_busy}
use Rattle.pie_model.proofs.core_laws.starts_keep_consistent.Goals as goal

pub returns : goal.returns
returns c =
    λ w old now met R told held held_after rank busy after c few more f.
    more_busy w old now (Passes met) R told held held_after rank (Passes busy) (Passes after) c few more f
