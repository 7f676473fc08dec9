use Rattle.pie_builder_laws.proofs.KindLemmas.{kinds_same}
use Rattle.pie_builder_laws.proofs.visible.kinds_are_the_models.Goals as goal

pub returns : goal.returns
returns c = λ p. kinds_same p
