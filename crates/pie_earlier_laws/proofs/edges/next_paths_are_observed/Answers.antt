use Rattle.pie_model.specs.inner.RecordLaws.{Passes}
use Rattle.pie_earlier_laws.proofs.Edging.{next_looked, next_listed}
use Rattle.pie_earlier_laws.proofs.edges.next_paths_are_observed.Goals as goal

pub returns-clause-looks : goal.returns-clause-looks
returns-clause-looks c = λ w now R busy base fs f n l p G left e. next_looked w now R (Passes busy) base fs f G n left l p e

pub returns-clause-lists : goal.returns-clause-lists
returns-clause-lists c = λ w now R busy base fs f n d G left e. next_listed w now R (Passes busy) base fs f G n left d e
