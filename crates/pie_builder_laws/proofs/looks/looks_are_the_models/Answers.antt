use Rattle.pie_builder_laws.proofs.Lookings.{presence_is, reading_is, digest_is}
use Rattle.pie_builder_laws.proofs.looks.looks_are_the_models.Goals as goal

pub returns-clause-presences : goal.returns-clause-presences
returns-clause-presences c = λ path seen. presence_is path seen

pub returns-clause-readings : goal.returns-clause-readings
returns-clause-readings c = λ by path seen s. reading_is by path seen s

pub returns-clause-digests : goal.returns-clause-digests
returns-clause-digests c = λ path seen. digest_is path seen
