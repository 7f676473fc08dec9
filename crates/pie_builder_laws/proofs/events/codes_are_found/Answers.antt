use Rattle.pie_builder_laws.proofs.Numbered.{code_found}
use Rattle.pie_builder_laws.proofs.events.codes_are_found.Goals as goal

pub returns : goal.returns
returns c = λ fs codes t n k h. code_found fs codes t n k h
