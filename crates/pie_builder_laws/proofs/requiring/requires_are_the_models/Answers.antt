use Rattle.pie_builder_laws.proofs.Required.{require_is, answer_is}
use Rattle.pie_builder_laws.proofs.requiring.requires_are_the_models.Goals as goal

pub returns-clause-observed : goal.returns-clause-observed
returns-clause-observed c = λ how t v. require_is how t v

pub returns-clause-answered : goal.returns-clause-answered
returns-clause-answered c = λ how v k. answer_is how v k
