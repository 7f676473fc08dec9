use Rattle.pie_model.specs.inner.RecordLaws.{Passes}
use Rattle.pie_settle_laws.proofs.Leaving.{going_ends, going_stops}
use Rattle.pie_settle_laws.proofs.going.running_tasks_end.Goals as goal

pub returns-clause-ended : goal.returns-clause-ended
returns-clause-ended c = λ w P R busy base fs f last e G h. going_ends w P R (Passes busy) base fs f G last e h

pub returns-clause-stopped : goal.returns-clause-stopped
returns-clause-stopped c =
    λ w P R busy held base fs f n h u e C B G l q K S o d. going_stops w P R (Passes busy) base fs f G held C B n h u e l q K S o d
