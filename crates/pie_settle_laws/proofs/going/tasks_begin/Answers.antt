use Rattle.pie_model.specs.inner.RecordLaws.{Passes}
use Rattle.pie_settle_laws.proofs.Goings.{base_begins, new_begins, still_waits}
use Rattle.pie_settle_laws.proofs.going.tasks_begin.Goals as goal

pub returns-clause-alone : goal.returns-clause-alone
returns-clause-alone c = λ w P R busy t some. base_begins w P R (Passes busy) t some

pub returns-clause-below : goal.returns-clause-below
returns-clause-below c = λ w P R busy held base fs f n h u B G e q new few. new_begins w P R (Passes busy) base fs f G held B n h u e q new few

pub returns-clause-waiting : goal.returns-clause-waiting
returns-clause-waiting c = λ w P R busy base fs f n G e. still_waits w P R (Passes busy) base fs f G n e
