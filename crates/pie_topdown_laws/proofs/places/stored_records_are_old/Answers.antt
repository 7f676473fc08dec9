use Rattle.pie_topdown_laws.proofs.Comparing.{stored_old, tells_apart}
use Rattle.pie_topdown_laws.proofs.places.stored_records_are_old.Goals as goal

pub returns-clause-old : goal.returns-clause-old
returns-clause-old c = λ u rec B O m. stored_old u rec B O m

pub returns-clause-apart : goal.returns-clause-apart
returns-clause-apart c = λ u S. tells_apart u S
