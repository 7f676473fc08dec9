use Rattle.pie_core_laws.proofs.Kept.{settled_known}
use Rattle.pie_core_laws.proofs.keeping.settled_tasks_are_known.Goals as goal

pub returns : goal.returns
returns c = λ u names records s n t e w apart at h. settled_known u names records s n t e w apart at h
