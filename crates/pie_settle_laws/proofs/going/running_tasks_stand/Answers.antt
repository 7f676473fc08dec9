use Rattle.pie_model.specs.inner.RecordLaws.{Passes}
use Rattle.pie_settle_laws.proofs.Leaving.{going_stands, required_has}
use Rattle.pie_settle_laws.proofs.going.running_tasks_stand.Goals as goal

pub returns-clause-running : goal.returns-clause-running
returns-clause-running c = λ w P R busy base fs f G. going_stands w P R (Passes busy) base fs f G

pub returns-clause-required : goal.returns-clause-required
returns-clause-required c = λ w P R busy base fs f n h u G l q. required_has w P R (Passes busy) base fs f G n h u l q
