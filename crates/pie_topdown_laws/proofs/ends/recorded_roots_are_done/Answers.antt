use Rattle.pie_topdown_laws.proofs.Deciding.{roots_done}
use Rattle.pie_topdown_laws.proofs.ends.recorded_roots_are_done.Goals as goal

pub returns : goal.returns
returns c = λ x R names roots T D. roots_done x R names T roots D
