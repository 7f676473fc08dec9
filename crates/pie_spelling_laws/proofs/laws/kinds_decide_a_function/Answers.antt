use Rattle.pie_spelling_laws.proofs.Equal.{kinds_decide}
use Rattle.pie_spelling_laws.proofs.laws.kinds_decide_a_function.Goals as goal

pub returns : goal.returns
returns c = λ us vs f g x y e. kinds_decide us vs f g x y e
