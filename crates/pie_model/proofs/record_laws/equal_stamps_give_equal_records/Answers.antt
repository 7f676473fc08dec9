use Rattle.std.proofs.Common.{◌-◌, length, arith}
use Rattle.pie_model.specs.inner.RecordLaws.{Passes}
use Rattle.pie_model.proofs.SecondLaw.{second_law}
use Rattle.pie_model.proofs.record_laws.equal_stamps_give_equal_records.Goals as goal

pub returns : goal.returns
returns c =
    λ w old now met sep differ t above meaning polite done met_then met_now agrees few.
    second_law w old now (Passes met) sep differ t (w.most_tasks - length above) above (omega arith) meaning polite done met_then met_now agrees
    (λ u i d deep many. few many)
