use Rattle.pie_builder_laws.proofs.Tabled.{contents_by_number, no_contents_named, contents_put}
use Rattle.pie_builder_laws.proofs.tables.contents_are_by_number.Goals as goal

pub returns-clause-each : goal.returns-clause-each
returns-clause-each c = λ names contents n t a e. contents_by_number names contents n t a e

pub returns-clause-named : goal.returns-clause-named
returns-clause-named c = λ names contents t x h. no_contents_named names contents t x h

pub returns-clause-put : goal.returns-clause-put
returns-clause-put c = λ names old new n t a e h. contents_put names old new n t a e h
