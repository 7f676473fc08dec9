use Rattle.pie_topdown_laws.proofs.Sourcing.{still}
use Rattle.pie_topdown_laws.proofs.places.sources_are_still.Goals as goal

pub returns : goal.returns
returns c = λ u kind path stamp a l h. still u kind path stamp a l h
