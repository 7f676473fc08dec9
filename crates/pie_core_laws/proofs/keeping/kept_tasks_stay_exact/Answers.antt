use Rattle.pie_core_laws.proofs.Kept.{kept_stays}
use Rattle.pie_core_laws.proofs.keeping.kept_tasks_stay_exact.Goals as goal

pub returns : goal.returns
returns c = λ u t s n number rec update informed e w v m h. kept_stays u t s n number rec update informed e w v m h
