use Rattle.pie_left_laws.proofs.Putting.{is_built}
use Rattle.pie_left_laws.proofs.placed.placed_builds_are_built.Goals as goal

pub returns : goal.returns
returns c = λ u kept files text left apart met A put. is_built u kept files apart met A text left put
