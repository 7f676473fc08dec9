use Rattle.std.proofs.Common.{inr}
use Rattle.pie_model.specs.inner.RecordLaws.{Passes}
use Rattle.pie_earlier_laws.proofs.Edging.{recorded_edge, answered_required, next_required}
use Rattle.pie_earlier_laws.proofs.edges.requires_are_union_edges.Goals as goal

pub returns-clause-recorded : goal.returns-clause-recorded
returns-clause-recorded c = λ w now old_records R t r u h q i. recorded_edge w now old_records R t r u h q i

pub returns-clause-answered : goal.returns-clause-answered
returns-clause-answered c = λ w now old_records R busy base fs f u G i. inr (answered_required w now R (Passes busy) base fs f G u i)

pub returns-clause-next : goal.returns-clause-next
returns-clause-next c = λ w now old_records R busy base fs f n h u G left e. inr (next_required w now R (Passes busy) base fs f G n left h u e)
