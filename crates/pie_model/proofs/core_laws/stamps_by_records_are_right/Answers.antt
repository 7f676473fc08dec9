use Rattle.pie_model.proofs.AgreesLemmas.{stamp_same}
use Rattle.pie_model.proofs.core_laws.stamps_by_records_are_right.Goals as goal

pub returns : goal.returns
returns c =
    λ w now R told telling own before q b n.
    stamp_same w now now R told telling own before q (λ u i. record { recorded = (b u i).0; right = (b u i).1 })
    (λ u i. record { recorded = (n u i).0; right = (n u i).1 })
