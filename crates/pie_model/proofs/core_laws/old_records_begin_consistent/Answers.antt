use Rattle.pie_model.specs.inner.RecordLaws.{Passes}
use Rattle.pie_model.proofs.BeginLemmas.{begins_consistent}
use Rattle.pie_model.proofs.core_laws.old_records_begin_consistent.Goals as goal

pub returns : goal.returns
returns c =
    λ w old now met R told held polite was closed busy few counted telling still.
    begins_consistent w old now (Passes met) R told held polite was closed (Passes busy) few counted telling still
