use Rattle.pie_model.specs.inner.RecordLaws.{Passes}
use Rattle.pie_settle_laws.proofs.Goings.{still_going}
use Rattle.pie_topdown_laws.specs.Tables.{unrecorded}
use Rattle.pie_topdown_laws.proofs.Tabling.{settled_stays}
use Rattle.pie_topdown_laws.proofs.Building.{begins_again}
use Rattle.pie_topdown_laws.proofs.Sinking.{running_ends}
use Rattle.pie_topdown_laws.proofs.ends.running_tasks_end.Goals as goal

pub returns-clause-ends : goal.returns-clause-ends
returns-clause-ends c = λ x R S names root fs f n v B G l h change. running_ends x R root fs f G S names n v B l h change

pub returns-clause-waiting : goal.returns-clause-waiting
returns-clause-waiting c =
    λ x R S names root fs f u new T E G.
    still_going x.world x.now R S (Passes (unrecorded R)) (Passes (unrecorded S)) root fs f (settled_stays x.world x.now R S names u new T E) G

pub returns-clause-again : goal.returns-clause-again
returns-clause-again c = λ x R root fs f G. begins_again x.world x.now R (Passes (unrecorded R)) root fs f G
