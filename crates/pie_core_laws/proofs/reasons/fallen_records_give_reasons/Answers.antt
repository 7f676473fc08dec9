use Rattle.pie_core_laws.proofs.Fallen.{fallen_reasons}
use Rattle.pie_core_laws.proofs.reasons.fallen_records_give_reasons.Goals as goal

pub returns : goal.returns
returns c =
    λ u t s n number rec kept digest update informed e w apart m falls.
    fallen_reasons u t s n number rec kept digest update informed e w apart m falls
