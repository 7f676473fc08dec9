use Rattle.pie_core_laws.proofs.Rooted.{roots_between, root_ends}
use Rattle.pie_core_laws.proofs.ends.settled_roots_decide.Goals as goal

pub returns-clause-done : goal.returns-clause-done
returns-clause-done c = λ u names records s roots e w apart all. roots_between u names records s roots e w apart all

pub returns-clause-ended : goal.returns-clause-ended
returns-clause-ended c =
    λ u names records s roots n root rec e w apart all at h k. root_ends u names records s roots e w apart all n root rec at h k
