use Rattle.pie_spelling_laws.proofs.Blind.{equal_up_to_spans}
use Rattle.pie_spelling_laws.proofs.laws.spans_say_nothing.Goals as goal

pub returns : goal.returns
returns c = λ f g e args answers. equal_up_to_spans f g e args answers
