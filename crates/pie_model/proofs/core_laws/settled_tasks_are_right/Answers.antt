use Rattle.pie_model.specs.inner.RecordLaws.{Passes}
use Rattle.pie_model.proofs.SettledLaw.{settled_right}
use Rattle.pie_model.proofs.core_laws.settled_tasks_are_right.Goals as goal

pub returns : goal.returns
returns c =
    λ w old now met R told held rank busy c sep differ polite t s.
    settled_right w old now (Passes met) R told held rank (Passes busy) c sep differ polite t s
