use Rattle.pie_model.specs.inner.RecordLaws.{Passes}
use Rattle.pie_settle_laws.proofs.Settling.{is_known}
use Rattle.pie_settle_laws.proofs.settled.settled_tasks_are_known.Goals as goal

pub returns : goal.returns
returns c =
    λ w old now met R told held rank busy consistent sep differ manners t s.
    is_known w old now (Passes met) R told held rank (Passes busy) consistent sep differ manners t s
