use Rattle.pie_model.specs.inner.RecordLaws.{Passes}
use Rattle.pie_earlier_laws.proofs.Beginning.{earlier_begin}
use Rattle.pie_earlier_laws.proofs.begins.earlier_records_begin.Goals as goal

pub returns : goal.returns
returns c =
    λ w old now old_roots roots besides changes R told held rank busy manners accepted same agree lower tells few counted idle.
    earlier_begin w old now old_roots roots besides manners accepted changes agree R told held rank (Passes busy) same lower tells few counted idle
